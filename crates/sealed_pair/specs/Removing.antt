-- Which of the two stores hold a key that is to be removed.
use Rattle.std.specs.Prelude.{◌≡◌, ◌&&◌, ℕ, Bool, true, false, List, Option, Some, None, Result, Ok, Err, is_none}
use Rattle.std.specs.FinMap.{get}
use Rattle.kv_model.specs.declared.error.KvError.{KvError}
use Rattle.kv_model.specs.declared.error.KvError.TheVariants.{ReadFault}
use Rattle.kv_model.specs.declared.flags.Flags.{Flags}
use Rattle.kv_model.specs.FlaggedMap.{Stored}
use Rattle.kv_model.specs.Flags.{is_write_once}
use Rattle.kv_model.specs.Keys.{is_key}
use Rattle.kv_model.specs.StoreState.{StoreState}
use Rattle.kv_model.specs.Operations as operation
use Rattle.kv_model.specs.Operations.{Operation}
use Rattle.sealed_pair.specs.declared.removing.Held.{Held}
use Rattle.sealed_pair.specs.Going.{WhereStill}
use Rattle.sealed_pair.specs.Reading.{HasRead}
use Rattle.sealed_pair.specs.Running.{Parts}

-- the store holds the key, and may lose it
pub record MayLose (key : List ℕ) (state : StoreState) : Type 0 where
  pub stored : Stored
  pub there : get state.primary key ≡ Some stored
  pub free : is_write_once stored.flags ≡ false

abbrev pub Lacks : List ℕ → StoreState → Type 0
Lacks key state = get state.primary key ≡ None

-- the flags of an entry
pub record HasFlags (found : Option Stored) (flags : Flags) : Type 0 where
  pub stored : Stored
  pub there : found ≡ Some stored
  pub bits : flags.bits ≡ stored.flags

-- whether a store holds a key, and with which flags, or that the device failed
abbrev pub FlagsOr : Option Stored → Result (Option Flags) KvError → Type 0
FlagsOr found (Ok None) = found ≡ None
FlagsOr found (Ok (Some flags)) = HasFlags found flags
FlagsOr found (Err error) = error ≡ ReadFault

-- write-once, where there are flags
abbrev pub is_once : Option Flags → Bool
is_once None = false
is_once (Some flags) = is_write_once flags.bits

-- the store lacks the key, or may lose it
abbrev pub HeldAs : List ℕ → Option Flags → StoreState → Type 0
HeldAs key None = Lacks key
HeldAs key (Some flags) = MayLose key

-- a remove at once, and one that is begun: both are checked alike
pub data Removal : Type 0 where
  AtOnce : Removal
  Begins : Removal

abbrev pub removal : Removal → List ℕ → Operation
removal AtOnce key = operation.Remove key
removal Begins key = operation.RemoveStart key

-- Both stores were read; one of them at least holds the key, and each that does may lose it.
pub record CanRemove (old new : Parts) (key : List ℕ) (held : Held) : Type 0 where
  pub valid : is_key key ≡ true
  pub primary_read : HasRead old.primary new.primary
  pub rollback_read : HasRead old.rollback new.rollback
  pub primary : WhereStill new.above new.primary (HeldAs key held.above)
  pub rollback : WhereStill new.below new.rollback (HeldAs key held.below)
  pub one_has : (is_none held.above && is_none held.below) ≡ false
