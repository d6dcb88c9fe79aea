use Rattle.std.proofs.Common.{◌≡◌, List, ℕ, replicate, rules, subst}
use Rattle.flash_core.specs.RecordDevice.{IsLoggedOf, device_state}
use Rattle.record_core.specs.declared.writer_tests.TheConstants.{SMALL}
use Rattle.record_core.proofs.writer_tests.logged_device.Goals as goal

pub returns : goal.returns
returns c =
    let is : c.in_ok-image.image.items ≡ replicate 512 255 = search rules in
    let flash = c.in_ok-with_log.field-0 in
    subst (λ (l : List ℕ). IsLoggedOf (device_state flash.geometry flash.image.items flash.log) SMALL l) is c.in_ok-with_log.ensures.device
