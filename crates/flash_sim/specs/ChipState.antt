-- What a chip is, and what a write does to it.
use Rattle.std.specs.Prelude.{ℕ, ◌-◌, Bool, true, false, not, ◌&&◌, nat_le, if◌then◌else◌, is_some, List, [], ◌∷◌, length, Option, Some, None}
use Rattle.kv_model.specs.declared.pattern.Pattern.{Pattern}
use Rattle.flash_core.specs.declared.geometry.Geometry.{Geometry}
use Rattle.flash_core.specs.Images.{part, put}
use Rattle.flash_core.specs.State.{DeviceCall, FlashState, call_at}
use Rattle.flash_sim.specs.Patterns.{spelling, torn_bytes}
use Rattle.flash_sim.specs.Plan.{PlanState, after_call, after_fault, is_named, is_to_come, no_plan}

-- A tear to come: at which write from now, with which pattern, and for how long a range there is memory.
pub record ArmState : Type 0 where
  pub left : ℕ
  pub pattern : Pattern
  pub room : ℕ

-- the next write is torn
abbrev pub is_due : ArmState → Bool
is_due arming = nat_le arming.left 1

abbrev pub one_less : ArmState → ArmState
one_less arming = record arming { left = arming.left - 1 }

-- A chip: its image, the tear since power was on, the plans of its reads and writes, the tear to come, and its label.
pub record ChipState : Type 0 where
  pub geometry : Geometry
  pub image : List ℕ
  pub torn : Option DeviceCall
  pub reads : PlanState
  pub writes : PlanState
  pub armed : Option ArmState
  pub label : List ℕ

-- no fault that is named is still to come, and it was not torn since power was on
abbrev pub is_steady : ChipState → Bool
is_steady chip = not (is_some chip.torn) && (not (is_to_come chip.reads) && not (is_to_come chip.writes))

-- The device that it is. It tells its image and its tear, and no moments.
abbrev pub device_of : ChipState → FlashState
device_of chip = record {
  geometry = chip.geometry;
  image = Some chip.image;
  read_faults = chip.reads.faults;
  write_faults = chip.writes.faults;
  tells_moments = false;
  moment = 0;
  left_since = λ _ _ _. ⊥;
  tells_torn = true;
  torn = chip.torn;
  label = chip.label;
  steady = is_steady chip;
  sound = is_steady chip && not (is_some chip.armed);
}

-- ---- what comes of the next write

pub data Fate : Type 0 where
  Goes : Fate
  Fails : Fate
  Tears : Pattern → Fate

-- A torn chip fails. Else it is torn where that is due, and fails where it is named.
abbrev pub fate_by : Bool → Option ArmState → Bool → Fate
fate_by true armed named = Fails
fate_by false None named = if named then Fails else Goes
fate_by false (Some arming) named = if is_due arming then Tears arming.pattern else (if named then Fails else Goes)

abbrev pub fate_of : ChipState → Fate
fate_of chip = fate_by (is_some chip.torn) chip.armed (is_named chip.writes)

-- a chip that is not torn counts each write
abbrev pub armed_after : Bool → Option ArmState → Option ArmState
armed_after true armed = armed
armed_after false None = None
armed_after false (Some arming) = if is_due arming then None else Some (one_less arming)

-- the chip behind a write of these bytes with this fate
abbrev pub after_write : Fate → ChipState → ℕ → List ℕ → ChipState
after_write Goes chip place bytes = record chip {
  image = put chip.image place bytes;
  writes = after_call chip.writes;
  armed = armed_after (is_some chip.torn) chip.armed;
}
after_write Fails chip place bytes = record chip {
  writes = after_fault (after_call chip.writes);
  armed = armed_after (is_some chip.torn) chip.armed;
}
after_write (Tears pattern) chip place bytes = record chip {
  image = put chip.image place (torn_bytes pattern (part chip.image place (length bytes)) bytes);
  torn = Some (call_at chip.image place bytes);
  writes = after_fault (after_call chip.writes);
  armed = armed_after (is_some chip.torn) chip.armed;
}

-- ---- reads

-- a read fails on a torn chip, and where it is named
abbrev pub read_fails : ChipState → Bool
read_fails chip = if is_some chip.torn then true else is_named chip.reads

abbrev pub after_read : ChipState → ChipState
after_read chip = record chip { reads = if read_fails chip then after_fault (after_call chip.reads) else after_call chip.reads }

-- ---- the other calls

abbrev pub new_chip : Geometry → List ℕ → ChipState
new_chip geometry image = record { geometry = geometry; image = image; torn = None; reads = no_plan; writes = no_plan; armed = None; label = [] }

-- a tear to come; the label of a tear stands
abbrev pub after_arm : ChipState → ℕ → Pattern → ChipState
after_arm chip n pattern = record chip {
  armed = Some (record { left = n; pattern = pattern; room = chip.geometry.erase });
  label = if is_some chip.torn then chip.label else spelling pattern;
}

abbrev pub after_power_on : ChipState → ChipState
after_power_on chip = record chip { torn = None; armed = None; label = [] }

-- calls named from now on
abbrev pub named_by : PlanState → List ℕ → PlanState
named_by plan named = record plan { named = named; next = 1 }

abbrev pub after_naming : ChipState → List ℕ → List ℕ → ChipState
after_naming chip reads writes = record chip { reads = named_by chip.reads reads; writes = named_by chip.writes writes }

-- a label that spells no pattern
abbrev pub other_label : List ℕ
other_label = 5 ∷ []
