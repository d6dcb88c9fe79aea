-- What the code holds of a write's fate.
use Rattle.std.specs.Prelude.{◌≡◌, Option, Some}
use Rattle.flash_sim.specs.declared.fate.Fate.{Fate as FateHeld}
use Rattle.flash_sim.specs.declared.fate.Fate.TheVariants as held
use Rattle.flash_sim.specs.ChipState.{ArmState, Fate, Goes, Fails, Tears}

-- the fate, without the memory that a tear takes
abbrev pub told_fate : FateHeld → Fate
told_fate held.Goes = Goes
told_fate held.Fails = Fails
told_fate (held.Tears arming) = Tears arming.pattern

-- a tear that is taken is the one to come
abbrev pub IsTaken : Option ArmState → FateHeld → Type 0
IsTaken armed held.Goes = Unit {0}
IsTaken armed held.Fails = Unit {0}
IsTaken armed (held.Tears arming) = armed ≡ Some arming
