use Rattle.std.proofs.Common.{◌≡◌, List, ℕ, replicate, rules, subst}
use Rattle.flash_core.specs.RecordDevice.{IsMemoryOf, device_state}
use Rattle.flash_core.specs.declared.geometry.Geometry.{Geometry}
use Rattle.area_log.proofs.tests.erased_device.Goals as goal

pub returns : goal.returns
returns c =
    let is : c.in_ok-image.image.items ≡ replicate 512 255 = search rules in
    let flash = c.in_ok-new.field-0 in
    let state = device_state flash.geometry flash.image.items flash.log in
    let device = subst (λ (g : Geometry). IsMemoryOf state g c.in_ok-image.image.items) c.geometry_of.ensures c.in_ok-new.ensures.device in
    subst (λ (l : List ℕ). IsMemoryOf state (record { prog = c.args.prog; erase = 256; units_per_area = 1 }) l) is device
