-- The chip that the fields of a `Chip` hold.
use Rattle.std.specs.Prelude.{◌≡◌, List, ℕ, [], Option, Some, None}
use Rattle.std.specs.Borrow.{Bor}
use Rattle.flash_core.specs.declared.geometry.Geometry.{Geometry}
use Rattle.flash_core.specs.State.{DeviceCall}
use Rattle.flash_sim.specs.declared.arming.Tear.{Tear}
use Rattle.flash_sim.specs.declared.chip.Chip.{Chip}
use Rattle.flash_sim.specs.declared.chip.Label.{Label}
use Rattle.flash_sim.specs.declared.chip.Label.TheVariants as label
use Rattle.flash_sim.specs.ChipState.{ChipState, new_chip, other_label}
use Rattle.flash_sim.specs.Patterns.{spelling}

-- the device call that a tear tells
abbrev pub call_of : Tear → DeviceCall
call_of tear = record { place = tear.place; before = tear.before.items; after = tear.after.items }

abbrev pub torn_of : Option Tear → Option DeviceCall
torn_of None = None
torn_of (Some tear) = Some (call_of tear)

abbrev pub label_of : Label → List ℕ
label_of label.Empty = []
label_of (label.Of pattern) = spelling pattern
label_of label.Other = other_label

abbrev pub view_of : Chip → ChipState
view_of chip = record {
  geometry = chip.geometry;
  image = chip.image.items;
  torn = torn_of chip.tear;
  reads = chip.reads;
  writes = chip.writes;
  armed = chip.armed;
  label = label_of chip.label;
}

-- the chip behind this tear
abbrev pub torn_chip : Geometry → List ℕ → Tear → ChipState
torn_chip geometry image tear = record (new_chip geometry image) { torn = Some (call_of tear); label = other_label }

-- what is lent is this tear, where there is one
abbrev pub IsLent : Option (Bor Tear) → Option Tear → Type 0
IsLent (Some lent) (Some tear) = lent.now ≡ tear
IsLent None None = Unit {0}
IsLent (Some lent) None = ⊥
IsLent None (Some tear) = ⊥
