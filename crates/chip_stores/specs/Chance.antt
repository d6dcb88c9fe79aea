-- The first record of a torn image that nobody wrote.
use Rattle.std.specs.Prelude.{◌≡◌, ℕ, List, Option, Some, None}
use Rattle.flash_core.specs.declared.geometry.Geometry.{Geometry}
use Rattle.flash_core.specs.State.{DeviceCall, after_of, before_of}
use Rattle.flash_sim.specs.ChipState.{ChipState}
use Rattle.record_core.specs.Chance.{FirstBreak, NoChance}

-- the first record that is there by chance in a torn image, or none
abbrev pub IsChanceIn : Geometry → List ℕ → List ℕ → List ℕ → Option ℕ → Type 0
IsChanceIn g before after torn None = NoChance g before after torn
IsChanceIn g before after torn (Some place) = FirstBreak g before after torn place

-- the same by the call that was torn: where none was, no record is there by chance
abbrev pub IsChanceBy : Geometry → List ℕ → Option DeviceCall → Option ℕ → Type 0
IsChanceBy g image None found = found ≡ None
IsChanceBy g image (Some call) found = IsChanceIn g (before_of call image) (after_of call image) image found

-- of a chip at its last tear
abbrev pub IsChanceOf : ChipState → Option ℕ → Type 0
IsChanceOf chip found = IsChanceBy chip.geometry chip.image chip.torn found
