-- A device of the tests: no call of it succeeds.
use Rattle.std.specs.Prelude.{◌≡◌, ℕ, ◌-◌, ◌^◌, List, [], false, Option, Some, None}
use mathlib.Core.Bool.{false≢true}
use Rattle.flash_core.specs.declared.geometry.Geometry.{Geometry}
use Rattle.flash_core.specs.State.{FlashState, IsLawful}

-- it tells nothing, and its counts of faults stand at their last values
abbrev pub broken_state : Geometry → FlashState
broken_state geometry = record {
  geometry = geometry;
  image = None;
  read_faults = 2 ^ 64 - 1;
  write_faults = 2 ^ 64 - 1;
  tells_moments = false;
  moment = 0;
  left_since = λ _ _ _. ⊥;
  tells_torn = false;
  torn = None;
  label = [];
  steady = false;
  sound = false;
}

abbrev no_image : Option (List ℕ)
no_image = None

untold : (image : List ℕ) → no_image ≡ Some image → ⊥
untold image told = cc

pub broken_is_lawful : (geometry : Geometry) → IsLawful (broken_state geometry)
broken_is_lawful geometry = record {
  sized = λ image told. absurd (untold image told);
  sound_is_steady = λ sound. sound;
  earlier = λ t u call c le left. left;
  only_now = λ image told call c left. absurd left;
  tells_now = λ tells. absurd (false≢true tells);
}
