use Rattle.std.proofs.Common.{◌≡◌, length, ap, ◌∙◌, arith}
use Rattle.std.proofs.lemmas.List.{length-take-le}
use Rattle.flash_core.specs.declared.geometry.Geometry.{Geometry}
use Rattle.flash_core.proofs.GeometryLaws.{prog_positive}
use Rattle.base_core.specs.Units.{up}
use Rattle.base_core.proofs.UnitLemmas.{up-ge}
use Rattle.inc_set.proofs.payload.program_padded.Goals as goal

pub fill_padded-requires : goal.fill_padded-requires
fill_padded-requires g c =
    let same : c.padded_size-size.result ≡ up (g.F.Flash.state c.args.flash.now).geometry.prog (length c.args.bytes.now) =
    c.padded_size-size.ensures ∙ ap (λ (geometry : Geometry). up geometry.prog (length c.args.bytes.now)) c.geometry-prog.ensures in
    let long = length-take-le c.padded_size-size.result c.args.work.now (omega (arith, same, c.requires.room)) in
    let enough = up-ge (g.F.Flash.state c.args.flash.now).geometry.prog (length c.args.bytes.now) (prog_positive _ c.requires.valid) in
    omega (arith, long, enough, same)
