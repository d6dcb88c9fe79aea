use Rattle.std.proofs.Common.{◌≡◌, ℕ, List, ◌+◌, ◌<◌, ◌^◌, IsTrue, sym, ◌∙◌, ap, subst, arith}
use mathlib.Core.Bool.{false≢true}
use Rattle.flash_core.specs.declared.geometry.Geometry.{Geometry}
use Rattle.flash_core.specs.Images.{part}
use Rattle.flash_core.specs.Sizes.{size_of}
use Rattle.flash_core.proofs.GeometryLaws.{prog_positive}
use Rattle.kv_model.specs.Keys.{is_key}
use Rattle.base_core.specs.Units.{up}
use Rattle.base_core.proofs.UnitLemmas.{up-ge}
use Rattle.record_core.specs.Reading.{IsFitting, IsWhole, crc_read}
use Rattle.record_core.proofs.ReaderLemmas.{has_record, is_key_read, is_whole_record}
use Rattle.record_core.proofs.reader.read_record.Goals as goal

pub returns-in-None-clause-found : goal.returns-in-None-clause-found
returns-in-None-clause-found g c image told = rw c.in-None.is at (c.in_ok-header.ensures.found image told)

pub read_key-requires-clause-inside : goal.read_key-requires-clause-inside
read_key-requires-clause-inside g c =
    let s = g.F.Flash.state c.args.flash.now in
    let header = c.in-Some.header in
    let kept = c.in_ok-header.ensures.reads.kept in
    let size : c.padded_size.result ≡ up s.geometry.prog 24 = c.padded_size.ensures ∙ ap (λ (x : Geometry). up x.prog 24) (c.geometry.ensures ∙ kept.geometry) in
    let inside = rw c.in-Some.is at c.in_ok-header.ensures.inside in
    omega (arith, size, inside, ap size_of kept.geometry, up-ge s.geometry.prog (header.key_size + header.value_size) (prog_positive s.geometry c.requires.valid), c.requires.to)

pub returns-in-None-2-clause-found : goal.returns-in-None-2-clause-found
returns-in-None-2-clause-found g c image told r stands =
    let s = g.F.Flash.state c.args.flash.now in
    let header = c.in-Some.header in
    let kept = c.in_ok-header.ensures.reads.kept in
    let size : c.padded_size.result ≡ up s.geometry.prog 24 = c.padded_size.ensures ∙ ap (λ (x : Geometry). up x.prog 24) (c.geometry.ensures ∙ kept.geometry) in
    let spelled = rw c.in-Some.is at (c.in_ok-header.ensures.found image told) in
    let valid = rw c.in-Some.is at c.in_ok-header.ensures.valid in
    let no_key = rw c.in-None-2.is at (c.in_ok-found.ensures.found image (kept.image ∙ told)) in
    absurd (no_key (subst (λ (n : ℕ). IsTrue (is_key (part image (c.args.place + n) header.key_size))) (sym size)
    (is_key_read s.geometry.prog (prog_positive s.geometry c.requires.valid) image c.args.place header r stands valid spelled)))

pub returns-then-not-branch-clause-found : goal.returns-then-not-branch-clause-found
returns-then-not-branch-clause-found g c image told r stands =
    let s = g.F.Flash.state c.args.flash.now in
    let header = c.in-Some.header in
    let found : List ℕ = c.in-Some-2.found in
    let kept = c.in_ok-header.ensures.reads.kept in
    let later = c.in_ok-found.ensures.reads.kept in
    let size : c.padded_size.result ≡ up s.geometry.prog 24 = c.padded_size.ensures ∙ ap (λ (x : Geometry). up x.prog 24) (c.geometry.ensures ∙ kept.geometry) in
    let spelled = rw c.in-Some.is at (c.in_ok-header.ensures.found image told) in
    let valid = rw c.in-Some.is at c.in_ok-header.ensures.valid in
    let key_is = (rw c.in-Some-2.is at (c.in_ok-found.ensures.found image (kept.image ∙ told))) ∙ ap (λ (n : ℕ). part image (c.args.place + n) header.key_size) size in
    let told_later = later.image ∙ kept.image ∙ told in
    let prog = ap (λ (x : Geometry). x.prog) (later.geometry ∙ kept.geometry) in
    let whole = is_whole_record s.geometry.prog (prog_positive s.geometry c.requires.valid) image c.args.place header r stands valid spelled found (omega arith) key_is
    (subst (λ (p : ℕ). crc_read p image c.args.place found header < 2 ^ 32) prog (c.in_ok-is_whole.ensures.fits image told_later)) in
    absurd (false≢true (sym c.if-not-branch.true ∙ (c.in_ok-is_whole.ensures.whole image told_later).1 (subst (λ (p : ℕ). IsWhole p image c.args.place found header) (sym prog) whole)))

pub returns-clause-found : goal.returns-clause-found
returns-clause-found g c image told =
    let s = g.F.Flash.state c.args.flash.now in
    let header = c.in-Some.header in
    let found : List ℕ = c.in-Some-2.found in
    let kept = c.in_ok-header.ensures.reads.kept in
    let later = c.in_ok-found.ensures.reads.kept in
    let size : c.padded_size.result ≡ up s.geometry.prog 24 = c.padded_size.ensures ∙ ap (λ (x : Geometry). up x.prog 24) (c.geometry.ensures ∙ kept.geometry) in
    let spelled = rw c.in-Some.is at (c.in_ok-header.ensures.found image told) in
    let fitting : IsFitting s.geometry.prog c.args.place c.args.end found header = record {
      valid = rw c.in-Some.is at c.in_ok-header.ensures.valid;
      key_size = rw c.in-Some-2.is at c.in_ok-found.ensures.size;
      inside = rw c.in-Some.is at c.in_ok-header.ensures.inside;
    } in
    let key_is = (rw c.in-Some-2.is at (c.in_ok-found.ensures.found image (kept.image ∙ told))) ∙ ap (λ (n : ℕ). part image (c.args.place + n) header.key_size) size in
    let told_later = later.image ∙ kept.image ∙ told in
    let prog = ap (λ (x : Geometry). x.prog) (later.geometry ∙ kept.geometry) in
    let whole = subst (λ (p : ℕ). IsWhole p image c.args.place found header) prog ((c.in_ok-is_whole.ensures.whole image told_later).0 c.if-not-branch.false) in
    has_record s.geometry.prog (prog_positive s.geometry c.requires.valid) image c.args.place c.args.end found header
    (omega (arith, (g.met.F.Flash.lawful c.args.flash.now).sized image told, c.requires.to))
    (rw c.in-Some-2.is at c.in_ok-found.ensures.key) fitting spelled key_is whole
