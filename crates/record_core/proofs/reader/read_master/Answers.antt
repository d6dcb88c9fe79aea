use Rattle.std.proofs.Common.{◌≡◌, ℕ, ◌+◌, refl, sym, ◌∙◌, ap, subst, arith}
use mathlib.Core.Bool.{false≢true}
use Rattle.flash_core.specs.declared.geometry.Geometry.{Geometry}
use Rattle.flash_core.specs.Images.{part}
use Rattle.flash_core.specs.Sizes.{size_of}
use Rattle.flash_core.proofs.GeometryLaws.{prog_positive}
use Rattle.flash_core.proofs.KeptLaws.{OnlyReads-trans}
use Rattle.flash_core.proofs.RunLaws.{counts_same}
use Rattle.base_core.specs.Units.{up}
use Rattle.base_core.specs.Sizes.{master_size}
use Rattle.base_core.proofs.UnitLemmas.{up-ge}
use Rattle.record_core.specs.Reading.{IsPadded}
use Rattle.record_core.proofs.ReaderLemmas.{after_reads, header_of_stand, master_stands, none_is_not_some, padded_of_stand, payload_of_stand, refused}
use Rattle.record_core.proofs.WriterLemmas.{master_inside}
use Rattle.record_core.proofs.reader.read_master.Goals as goal

pub overflow_add-behind : goal.overflow_add-behind
overflow_add-behind g c =
    let s = g.F.Flash.state c.args.flash.now in
    let size : c.padded_size.result ≡ up s.geometry.prog 24 = c.padded_size.ensures ∙ ap (λ (x : Geometry). up x.prog 24) c.geometry.ensures in
    omega (arith, size, master_inside s.geometry c.args.area c.requires.valid c.requires.area, c.requires.valid.size_limit)

pub read_part-requires-2 : goal.read_part-requires-2
read_part-requires-2 g c =
    let s = g.F.Flash.state c.args.flash.now in
    let size : c.padded_size.result ≡ up s.geometry.prog 24 = c.padded_size.ensures ∙ ap (λ (x : Geometry). up x.prog 24) c.geometry.ensures in
    omega (arith, size, master_inside s.geometry c.args.area c.requires.valid c.requires.area, up-ge s.geometry.prog 12 (prog_positive s.geometry c.requires.valid), ap size_of c.in_ok-read_part.ensures.reads.kept.geometry)

pub returns-in-None-clause-found : goal.returns-in-None-clause-found
returns-in-None-clause-found g c image told version is =
    let s = g.F.Flash.state c.args.flash.now in
    let positive = prog_positive s.geometry c.requires.valid in
    let size : c.padded_size.result ≡ up s.geometry.prog 24 = c.padded_size.ensures ∙ ap (λ (x : Geometry). up x.prog 24) c.geometry.ensures in
    let payload = c.in_ok-read_part-2.ensures.bytes image (c.in_ok-read_part.ensures.reads.kept.image ∙ told) ∙ ap (λ (n : ℕ). part image (c.args.area + n) 12) size in
    none_is_not_some version (c.in-None.ensures.only version is.in_range
    (c.in_ok-read_part.ensures.bytes image told ∙ header_of_stand s.geometry.prog positive image c.args.area version is)
    (payload ∙ payload_of_stand s.geometry.prog positive image c.args.area version is))

pub is_padded-requires-clause-inside : goal.is_padded-requires-clause-inside
is_padded-requires-clause-inside g c =
    let s = g.F.Flash.state c.args.flash.now in
    let same = c.in_ok-read_part-2.ensures.reads.kept.geometry ∙ c.in_ok-read_part.ensures.reads.kept.geometry in
    omega (arith, master_inside s.geometry c.args.area c.requires.valid c.requires.area, ap size_of same, ap (λ (x : Geometry). master_size x.prog) same)

pub returns-in_err-is_padded-clause-reads : goal.returns-in_err-is_padded-clause-reads
returns-in_err-is_padded-clause-reads g c =
    let first = c.in_ok-read_part.ensures.reads.kept in
    let second = c.in_ok-read_part-2.ensures.reads.kept in
    refused c.from_residual-in_err-is_padded.result c.in_err-is_padded.field-0.0 c.from_residual-in_err-is_padded.ensures.1
    (after_reads _ (OnlyReads-trans first second) (counts_same c.in_ok-read_part.ensures.reads.counts c.in_ok-read_part-2.ensures.reads.counts) c.in_err-is_padded.ensures.reads)

pub returns-then-branch-clause-found : goal.returns-then-branch-clause-found
returns-then-branch-clause-found g c image told =
    let s = g.F.Flash.state c.args.flash.now in
    let positive = prog_positive s.geometry c.requires.valid in
    let size : c.padded_size.result ≡ up s.geometry.prog 24 = c.padded_size.ensures ∙ ap (λ (x : Geometry). up x.prog 24) c.geometry.ensures in
    let first = c.in_ok-read_part.ensures.reads.kept in
    let second = c.in_ok-read_part-2.ensures.reads.kept in
    let payload = c.in_ok-read_part-2.ensures.bytes image (first.image ∙ told) ∙ ap (λ (n : ℕ). part image (c.args.area + n) 12) size in
    let prog = ap (λ (x : Geometry). x.prog) (second.geometry ∙ first.geometry) in
    let pad = subst (λ (p : ℕ). IsPadded p image c.args.area 12) prog ((c.in_ok-is_padded.ensures.padded image (second.image ∙ first.image ∙ told)).0 c.if-branch.true) in
    master_stands s.geometry.prog positive image c.args.area c.in-Some.version (omega arith)
    (sym (c.in_ok-read_part.ensures.bytes image told) ∙ c.in-Some.ensures.header) (sym payload ∙ c.in-Some.ensures.payload) pad

pub returns-else-branch-clause-found : goal.returns-else-branch-clause-found
returns-else-branch-clause-found g c image told version is =
    let s = g.F.Flash.state c.args.flash.now in
    let positive = prog_positive s.geometry c.requires.valid in
    let first = c.in_ok-read_part.ensures.reads.kept in
    let second = c.in_ok-read_part-2.ensures.reads.kept in
    let prog = ap (λ (x : Geometry). x.prog) (second.geometry ∙ first.geometry) in
    let pad = subst (λ (p : ℕ). IsPadded p image c.args.area 12) (sym prog) (padded_of_stand s.geometry.prog positive image c.args.area version is) in
    false≢true (sym c.if-branch.false ∙ (c.in_ok-is_padded.ensures.padded image (second.image ∙ first.image ∙ told)).1 pad)

pub read_part-requires : goal.read_part-requires
read_part-requires g c =
    let s = g.F.Flash.state c.args.flash.now in
    omega (arith, master_inside s.geometry c.args.area c.requires.valid c.requires.area, up-ge s.geometry.prog 24 (prog_positive s.geometry c.requires.valid))

pub returns-then-branch-clause-reads : goal.returns-then-branch-clause-reads
returns-then-branch-clause-reads g c = record {
  kept = OnlyReads-trans c.in_ok-read_part.ensures.reads.kept (OnlyReads-trans c.in_ok-read_part-2.ensures.reads.kept c.in_ok-is_padded.ensures.reads.kept);
  steady = λ steady. refl;
  cause = tt;
  counts = counts_same c.in_ok-read_part.ensures.reads.counts (counts_same c.in_ok-read_part-2.ensures.reads.counts c.in_ok-is_padded.ensures.reads.counts);
}

pub returns-else-branch-clause-reads : goal.returns-else-branch-clause-reads
returns-else-branch-clause-reads g c = record {
  kept = OnlyReads-trans c.in_ok-read_part.ensures.reads.kept (OnlyReads-trans c.in_ok-read_part-2.ensures.reads.kept c.in_ok-is_padded.ensures.reads.kept);
  steady = λ steady. refl;
  cause = tt;
  counts = counts_same c.in_ok-read_part.ensures.reads.counts (counts_same c.in_ok-read_part-2.ensures.reads.counts c.in_ok-is_padded.ensures.reads.counts);
}
