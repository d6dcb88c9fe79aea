use Rattle.std.proofs.Common.{length, ap, arith}
use Rattle.flash_core.specs.declared.geometry.Geometry.{Geometry}
use Rattle.flash_core.proofs.GeometryLaws.{prog_positive}
use Rattle.plain_store.proofs.LookLemmas.{record_below}
use Rattle.plain_store.proofs.setting.size_for.Goals as goal

pub returns-clause-below : goal.returns-clause-below
returns-clause-below g c =
    let prog_is = ap (λ (x : Geometry). x.prog) c.geometry-prog.ensures in
    let valid = c.requires.ready.safe.valid in
    record_below c.geometry-prog.result.prog (length c.as_slice.result.now) c.args.size (omega (arith, prog_is, prog_positive _ valid)) (omega (arith, prog_is, valid.prog_limit))
    (omega (arith, ap length c.as_slice.ensures.bytes, c.as_slice.ensures.at_most)) c.requires.small c.size_of_record.result c.size_of_record.ensures
