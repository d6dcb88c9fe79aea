-- That a chip is a device.
use Rattle.std.specs.Prelude.{◌≡◌, Bool, true, false, not, ◌&&◌, IsTrue, length, Some, is_some}
use Rattle.std.proofs.Common.{◌∙◌, ap, sym, refl}
use mathlib.Core.Bool.{false≢true}
use Rattle.flash_core.specs.Sizes.{size_of}
use Rattle.flash_core.specs.State.{IsLawful}
use Rattle.flash_sim.specs.ChipState.{ChipState, device_of, is_steady}

some_is : {X : Type 0} (x y : X) → Some x ≡ Some y → x ≡ y
some_is x y same = cc

both : (a b : Bool) → IsTrue (a && b) → IsTrue a
both true b is = refl
both false b is = absurd (false≢true is)

pub chip_is_lawful : (chip : ChipState) → length chip.image ≡ size_of chip.geometry → IsLawful (device_of chip)
chip_is_lawful chip sized = record {
  sized = λ told is. ap length (sym (some_is chip.image told is)) ∙ sized;
  sound_is_steady = λ sound. both (is_steady chip) (not (is_some chip.armed)) sound;
  earlier = λ t u call c le left. left;
  only_now = λ told is call c left. absurd left;
  tells_now = λ tells. absurd (false≢true tells);
}
