use Rattle.std.proofs.Common.{◌≡◌, ℕ, ◌+◌, ◌∙◌, ap, subst, arith}
use Rattle.flash_core.specs.declared.geometry.Geometry.{Geometry}
use Rattle.flash_core.specs.Sizes.{size_of}
use Rattle.flash_core.proofs.GeometryLaws.{prog_positive}
use Rattle.flash_core.proofs.KeptLaws.{OnlyReads-trans}
use Rattle.base_core.specs.Units.{up}
use Rattle.base_core.proofs.UnitLemmas.{up-ge}
use Rattle.kv_model.specs.Crc.{crc_of}
use Rattle.record_core.specs.Header.{header_front}
use Rattle.record_core.specs.Lookup.{IsCrcOf}
use Rattle.area_log.proofs.AreaLemmas.{area_fits}
use Rattle.area_log.proofs.RangeLemmas.{IsCrcOf-later}
use Rattle.area_log.proofs.ReadLemmas.{value_answer}
use Rattle.area_log.proofs.area.Area.read_at.Goals as goal

pub crc_of_range-requires-clause-inside : goal.crc_of_range-requires-clause-inside
crc_of_range-requires-clause-inside g c =
    let s = g.F.Flash.state c.args.flash.now in
    let kept = c.in_ok-header.ensures.reads.geometry in
    let size : c.padded_size.result ≡ up s.geometry.prog 24 = c.padded_size.ensures ∙ ap (λ (x : Geometry). up x.prog 24) (c.geometry.ensures ∙ kept) in
    let header = c.in_ok-header.header in
    omega (arith, size, c.from.ensures, c.in_ok-header.ensures.answer.head.within, c.requires.inside.to, area_fits s.geometry _ c.requires.can.is_area, ap size_of kept, up-ge s.geometry.prog (header.key_size + header.value_size) (prog_positive s.geometry c.requires.can.valid))

pub read_or_zeros-requires-clause-begun : goal.read_or_zeros-requires-clause-begun
read_or_zeros-requires-clause-begun g c =
    let mid = g.F.Flash.state c.read_header_at.new.flash in
    let header = c.in_ok-header.header in
    let place = c.args.at + c.padded_size.result in
    IsCrcOf-later c.in_ok-start.ensures.reads.kept
    (subst (λ (n : ℕ). IsCrcOf mid place n (crc_of (header_front header.flags header.key_size header.value_size)) c.in_ok-start.start) c.from.ensures
    (subst (λ (n : ℕ). IsCrcOf mid place c.from.result n c.in_ok-start.start) c.crc_of_front-front.ensures c.in_ok-start.ensures.sum))

pub read_or_zeros-requires-clause-inside : goal.read_or_zeros-requires-clause-inside
read_or_zeros-requires-clause-inside g c =
    let s = g.F.Flash.state c.args.flash.now in
    let kept = c.in_ok-header.ensures.reads.geometry in
    let later = c.in_ok-start.ensures.reads.kept.geometry in
    let size : c.padded_size.result ≡ up s.geometry.prog 24 = c.padded_size.ensures ∙ ap (λ (x : Geometry). up x.prog 24) (c.geometry.ensures ∙ kept) in
    let header = c.in_ok-header.header in
    omega (arith, size, c.in_ok-header.ensures.answer.head.within, c.requires.inside.to, area_fits s.geometry _ c.requires.can.is_area, ap size_of kept, ap size_of later, up-ge s.geometry.prog (header.key_size + header.value_size) (prog_positive s.geometry c.requires.can.valid))

pub returns-clause-answer : goal.returns-clause-answer
returns-clause-answer g c =
    let s = g.F.Flash.state c.args.flash.now in
    let reads = c.in_ok-header.ensures.reads in
    let size : c.padded_size.result ≡ up s.geometry.prog 24 = c.padded_size.ensures ∙ ap (λ (x : Geometry). up x.prog 24) (c.geometry.ensures ∙ reads.geometry) in
    value_answer (OnlyReads-trans reads c.in_ok-start.ensures.reads.kept) c.args.at _ (c.args.at + c.padded_size.result) c.args.offset c.in_ok-header.header c.in_ok-header.ensures.answer (ap (λ (n : ℕ). c.args.at + n) size)
    _ c.read_or_zeros.new.buf c.read_or_zeros.result c.read_or_zeros.ensures.cause c.read_or_zeros.ensures.gives
