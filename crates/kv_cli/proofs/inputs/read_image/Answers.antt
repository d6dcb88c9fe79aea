use Rattle.std.proofs.lemmas.Result.{err_from_is_err_and}
use Rattle.kv_cli.specs.Asked.{asked_in}
use Rattle.kv_cli.proofs.Causes.{image_stops, sized_image, sized_length, sized_stops}
use Rattle.kv_cli.proofs.inputs.read_image.Goals as goal

pub returns-in_err-image-clause-stops : goal.returns-in_err-image-clause-stops
returns-in_err-image-clause-stops g c =
    let p = err_from_is_err_and c.from_residual.result c.from_residual.ensures.1 in
    rw (p.1, p.2) (image_stops (asked_in c.args.asked) _ _ _ c.in_err-image.field-0.0 c.in_err-image.ensures.stops)

pub returns-clause-sized : goal.returns-clause-sized
returns-clause-sized g c = sized_length c.args.asked.geometry _ c.sized.result c.sized.ensures

pub returns-clause-read : goal.returns-clause-read
returns-clause-read g c = sized_image (asked_in c.args.asked) _ _ c.sized.result c.sized.ensures c.in_ok-image.ensures.read

pub returns-clause-stops : goal.returns-clause-stops
returns-clause-stops g c = sized_stops (asked_in c.args.asked) _ _ _ _ c.sized.result c.sized.ensures c.in_ok-image.ensures.read
