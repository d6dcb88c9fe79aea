use Rattle.std.proofs.Common.{◌≡◌, ap, ◌∙◌, arith}
use Rattle.std.proofs.lemmas.List.{length-take-le}
use Rattle.base_core.specs.Units.{up}
use Rattle.base_core.proofs.UnitLemmas.{up-ge}
use Rattle.flash_core.specs.declared.geometry.Geometry.{Geometry}
use Rattle.flash_core.proofs.GeometryLaws.{prog_positive}
use Rattle.area_collect.proofs.copy.program_header.Goals as goal

pub split_at_mut-front-requires : goal.split_at_mut-front-requires
split_at_mut-front-requires g c =
    let s = g.F.Flash.state c.args.flash.now in
    let size : c.padded_size-size.result ≡ up s.geometry.prog 24 = c.padded_size-size.ensures ∙ ap (λ (x : Geometry). up x.prog 24) c.geometry.ensures in
    omega (arith, size, up-ge s.geometry.prog 24 (prog_positive s.geometry c.requires.valid), length-take-le c.padded_size-size.result c.args.work.now (omega (arith, size, c.requires.room)))
