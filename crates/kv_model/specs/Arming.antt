-- What arming a store's device does: nothing that a caller of the store can see, but for the device's label and whether
-- calls may fail from now on.
use Rattle.std.specs.Prelude.{◌≡◌, ◌⊎◌, ℕ, ◌≤◌, true, false, List, [], ◌∷◌, Result, Ok, Err}
use Rattle.base_core.specs.declared.no_memory.NoMemory.{NoMemory}
use Rattle.kv_model.specs.declared.pattern.Pattern.{Pattern}
use Rattle.kv_model.specs.FlaggedMap.{FlaggedMap}
use Rattle.kv_model.specs.StoreState.{Maps}
use Rattle.kv_model.specs.Kv.{Clock, KvState}
use Rattle.kv_model.specs.Patterns.{spelling}

-- a clock that tells nothing anew
pub record TellsNothing (old new : Clock) : Type 0 where
  pub moment : old.moment ≤ new.moment
  pub told : (t : ℕ) (map : FlaggedMap) → new.left_since t map → old.left_since t map

-- The label is that of the pattern, or that of a device that was not steady stands; for want of memory it stands.
abbrev pub IsLabelled : KvState → KvState → Pattern → Result Unit NoMemory → Type 0
IsLabelled old new pattern (Ok done) =
    (new.known.labels ≡ spelling pattern ∷ []) ⊎ ((old.known.steady ≡ false) × (new.known.labels ≡ old.known.labels))
IsLabelled old new pattern (Err none) = new.known.labels ≡ old.known.labels

pub record Arms (old new : KvState) (pattern : Pattern) (result : Result Unit NoMemory) : Type 0 where
  pub constants : new.known.constants ≡ old.known.constants
  pub state : new.known.state ≡ old.known.state
  pub log : new.known.log ≡ old.known.log
  pub read_faults : new.known.read_faults ≡ old.known.read_faults
  pub write_faults : new.known.write_faults ≡ old.known.write_faults
  pub steady : old.known.steady ≡ true → new.known.steady ≡ true
  pub label : IsLabelled old new pattern result
  pub tells_moments : new.crash.tells_moments ≡ old.crash.tells_moments
  pub primary : TellsNothing old.crash.primary new.crash.primary
  pub rollback : TellsNothing old.crash.rollback new.crash.rollback
  pub stands : (maps : Maps) → new.crash.stands maps → old.crash.stands maps
