-- What arming one of a store's devices does, by the device's place among its labels.
use Rattle.std.specs.Prelude.{◌≡◌, ◌⊎◌, ℕ, ◌+◌, true, false, List, ◌∷◌, ◌++◌, take, drop, Result, Ok, Err}
use Rattle.base_core.specs.declared.no_memory.NoMemory.{NoMemory}
use Rattle.kv_model.specs.declared.pattern.Pattern.{Pattern}
use Rattle.kv_model.specs.Arming.{TellsNothing}
use Rattle.kv_model.specs.Kv.{KvState}
use Rattle.kv_model.specs.Patterns.{spelling}
use Rattle.kv_model.specs.StoreState.{Maps}

-- the labels with this one at the place
abbrev pub with_label : ℕ → List ℕ → List (List ℕ) → List (List ℕ)
with_label place label labels = take place labels ++ (label ∷ drop (place + 1) labels)

-- The label at the place is that of the pattern, or that of a device that was not steady stands; for want of memory all
-- stand.
abbrev pub IsLabelledAt : ℕ → KvState → KvState → Pattern → Result Unit NoMemory → Type 0
IsLabelledAt place old new pattern (Ok done) =
    (new.known.labels ≡ with_label place (spelling pattern) old.known.labels) ⊎ ((old.known.steady ≡ false) × (new.known.labels ≡ old.known.labels))
IsLabelledAt place old new pattern (Err none) = new.known.labels ≡ old.known.labels

-- Nothing that a caller of the store can see changes, but for the label and whether calls may fail from now on.
pub record ArmsAt (place : ℕ) (old new : KvState) (pattern : Pattern) (result : Result Unit NoMemory) : Type 0 where
  pub constants : new.known.constants ≡ old.known.constants
  pub state : new.known.state ≡ old.known.state
  pub log : new.known.log ≡ old.known.log
  pub read_faults : new.known.read_faults ≡ old.known.read_faults
  pub write_faults : new.known.write_faults ≡ old.known.write_faults
  pub steady : old.known.steady ≡ true → new.known.steady ≡ true
  pub label : IsLabelledAt place old new pattern result
  pub tells_moments : new.crash.tells_moments ≡ old.crash.tells_moments
  pub primary : TellsNothing old.crash.primary new.crash.primary
  pub rollback : TellsNothing old.crash.rollback new.crash.rollback
  pub stands : (maps : Maps) → new.crash.stands maps → old.crash.stands maps
