-- Chips, and what power and geometries are to them.
use Rattle.std.specs.Prelude.{◌≡◌, []}
use Rattle.flash_core.specs.declared.geometry.Geometry.{Geometry}
use Rattle.flash_core.specs.Sizes.{area_size}
use Rattle.flash_core.specs.State.{FlashState}
use Rattle.flash_sim.specs.declared.chip.Chip.{Chip}
use Rattle.flash_sim.specs.ChipState.{ChipState, after_naming, after_power_on, device_of}
use Rattle.flash_sim.specs.Views.{view_of}

-- the device that a chip is
abbrev pub device_in : Chip → FlashState
device_in chip = device_of (view_of chip)

-- a chip with power on, of which no call is to fail
abbrev pub powered : ChipState → ChipState
powered chip = after_power_on (after_naming chip [] [])

-- Areas of one size, in program units of one size: what an image holds goes by these alone.
pub record HasSameAreas (old new : Geometry) : Type 0 where
  pub prog : new.prog ≡ old.prog
  pub area : area_size new ≡ area_size old
