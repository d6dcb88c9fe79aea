use Rattle.std.proofs.Common.{◌≡◌, ℕ, List, subst, rules}
use Rattle.std.specs.Prelude.{IfOk}
use Rattle.flash_core.specs.declared.geometry.Geometry.{Geometry}
use Rattle.kv_tools.specs.Checking.{IsCheckOf}
use Rattle.kv_tools.proofs.check.check_image.Goals as goal

pub returns : goal.returns
returns c =
    let device = c.in_ok-flash.ensures.device in
    let copied : c.in_ok-to_vec.field-0.items ≡ c.args.image.now = search rules in
    subst (λ (l : List ℕ). IfOk c.check.result (λ text. IsCheckOf c.args.geometry l text.items)) copied
    (subst (λ (x : Geometry). IfOk c.check.result (λ text. IsCheckOf x c.in_ok-to_vec.field-0.items text.items)) device.geometry_is
    (c.check.ensures c.in_ok-to_vec.field-0.items device.image_is))
