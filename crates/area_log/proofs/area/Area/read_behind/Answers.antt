use Rattle.std.proofs.Common.{◌≡◌, ℕ, ◌+◌, sym, ◌∙◌, ap, subst, arith}
use Rattle.flash_core.specs.declared.geometry.Geometry.{Geometry}
use Rattle.flash_core.proofs.GeometryLaws.{prog_positive}
use Rattle.flash_core.proofs.KeptLaws.{OnlyReads-refl}
use Rattle.base_core.specs.Units.{up}
use Rattle.base_core.proofs.UnitLemmas.{up-ge}
use Rattle.kv_model.specs.Crc.{crc_from}
use Rattle.record_core.specs.Lookup.{IsSeen}
use Rattle.area_log.proofs.AreaLemmas.{area_fits}
use Rattle.area_log.proofs.ReadLemmas.{value_answer}
use Rattle.area_log.proofs.area.Area.read_behind.Goals as goal

pub read_or_zeros-requires-clause-begun : goal.read_or_zeros-requires-clause-begun
read_or_zeros-requires-clause-begun g c =
    let s = g.F.Flash.state c.args.flash.now in
    let header = c.args.head.now.header in
    let size : c.padded_size.result ≡ up s.geometry.prog 24 = c.padded_size.ensures ∙ ap (λ (x : Geometry). up x.prog 24) c.geometry.ensures in
    record {
      bytes = c.args.key.now;
      seen = subst (λ (n : ℕ). IsSeen s (c.args.head.now.at + n) header.key_size c.args.key.now) (sym size) c.requires.seen.seen;
      is = c.crc-start.ensures ∙ λ i. crc_from (c.crc_of_front.ensures i) (c.as_slice.ensures.bytes i);
    }

pub read_or_zeros-requires-clause-inside : goal.read_or_zeros-requires-clause-inside
read_or_zeros-requires-clause-inside g c =
    let s = g.F.Flash.state c.args.flash.now in
    let header = c.args.head.now.header in
    let size : c.padded_size.result ≡ up s.geometry.prog 24 = c.padded_size.ensures ∙ ap (λ (x : Geometry). up x.prog 24) c.geometry.ensures in
    omega (arith, size, c.requires.seen.head.head.within, c.requires.inside.to, area_fits s.geometry _ c.requires.can.is_area, up-ge s.geometry.prog (header.key_size + header.value_size) (prog_positive s.geometry c.requires.can.valid))

pub returns-clause-answer : goal.returns-clause-answer
returns-clause-answer g c =
    let s = g.F.Flash.state c.args.flash.now in
    let head = c.args.head.now in
    let size : c.padded_size.result ≡ up s.geometry.prog 24 = c.padded_size.ensures ∙ ap (λ (x : Geometry). up x.prog 24) c.geometry.ensures in
    value_answer (OnlyReads-refl s) head.at _ (head.at + c.padded_size.result) c.args.offset head.header c.requires.seen.head (ap (λ (n : ℕ). head.at + n) size)
    _ c.read_or_zeros.new.buf c.read_or_zeros.result c.read_or_zeros.ensures.cause c.read_or_zeros.ensures.gives
