use Rattle.std.proofs.Common.{◌≡◌, ℕ, ◌+◌, ◌∙◌, ap, subst, arith, inr}
use Rattle.flash_core.specs.declared.geometry.Geometry.{Geometry}
use Rattle.flash_core.specs.Sizes.{size_of}
use Rattle.flash_core.proofs.GeometryLaws.{prog_positive}
use Rattle.flash_core.proofs.KeptLaws.{OnlyReads-trans}
use Rattle.base_core.specs.Units.{up}
use Rattle.base_core.proofs.UnitLemmas.{up-ge}
use Rattle.record_core.specs.Lookup.{IsSeen}
use Rattle.record_core.proofs.LookupLemmas.{IsSeen-since}
use Rattle.record_core.proofs.lookup.read_keyed_header_at.Goals as goal

pub read_name-requires-clause-inside : goal.read_name-requires-clause-inside
read_name-requires-clause-inside g c =
    let s = g.F.Flash.state c.args.flash.now in
    let kept = c.in_ok-head.ensures.reads.geometry in
    let header = c.in_ok-head.head.header in
    let size : c.padded_size.result ≡ up s.geometry.prog 24 = c.padded_size.ensures ∙ ap (λ (x : Geometry). up x.prog 24) (c.geometry.ensures ∙ kept) in
    omega (arith, size, c.in_ok-head.ensures.head.within, c.requires.header, c.requires.inside, ap size_of kept, up-ge s.geometry.prog (header.key_size + header.value_size) (prog_positive s.geometry c.requires.valid))

pub returns-in-None-clause-reads : goal.returns-in-None-clause-reads
returns-in-None-clause-reads g c = OnlyReads-trans c.in_ok-head.ensures.reads c.in_ok-key.ensures.reads.kept

pub returns-in-None-clause-answer : goal.returns-in-None-clause-answer
returns-in-None-clause-answer g c =
    let s = g.F.Flash.state c.args.flash.now in
    let reads = c.in_ok-head.ensures.reads in
    let header = c.in_ok-head.head.header in
    let size : c.padded_size.result ≡ up s.geometry.prog 24 = c.padded_size.ensures ∙ ap (λ (x : Geometry). up x.prog 24) (c.geometry.ensures ∙ reads.geometry) in
    let found = rw c.in-None.is at c.in_ok-key.ensures.found in
    inr (inr (record {
      header = header;
      head = record { bytes = c.in_ok-head.head.bytes; seen = c.in_ok-head.ensures.seen; head = c.in_ok-head.ensures.head };
      key = found.0;
      seen = subst (λ (n : ℕ). IsSeen s (c.args.place + n) header.key_size found.0) size (IsSeen-since reads found.1);
      no_key = found.2;
      is = c.broken_header.ensures;
    }))
