-- What the laws of a secure store say.
use Rattle.std.specs.Prelude.{◌≡◌, ◌≢◌, ◌⊎◌, ℕ, ◌<◌, ◌≤◌, ◌^◌, true, IsTrue, List, length, Option, Some, None, Contains}
use Rattle.std.specs.Option.{option_map, option_map_or}
use Rattle.std.specs.FinMap.{get}
use Rattle.kv_model.specs.Constants.{Constants, Secure}
use Rattle.kv_model.specs.FlaggedMap.{Stored}
use Rattle.kv_model.specs.Flags.{is_secure_flags}
use Rattle.kv_model.specs.Keys.{is_key}
use Rattle.kv_model.specs.Operations.{Operation}
use Rattle.kv_model.specs.Rules.{cuts}
use Rattle.kv_model.specs.StoreState.{Maps, StoreState, maps_of}
use Rattle.secure_record.specs.declared.metadata.Revision.TheVariants.{Second}
use Rattle.secure_record.specs.Metadata.{HasPrior}
use Rattle.sealed_pair.specs.declared.limits.TheConstants.{MAX_SECURE_VALUE}
use Rattle.sealed_pair.specs.Sealing.{secure_of}
use Rattle.sealed_pair.specs.View.{View, Held, RollbackFailed, view_by, view_of}
use Rattle.sealed_pair.specs.SecureStep.{secure_rules, view}
use Rattle.sealed_pair.specs.Heal.{heal, healed_by, metadata_in, IsHealed}

-- a set that is done: the key has the flags and the value that were set, and every other key has the view that it had
pub record ShowsSet (constants : Constants) (old new : StoreState) (key : List ℕ) (flags : ℕ) (value : List ℕ) : Type 0 where
  pub held : view constants new key ≡ Held flags value
  pub others : (other : List ℕ) → other ≢ key → view constants new other ≡ view constants old other

-- what healing does to the tag of a key: a key without one has none afterwards, and one that stands stays or is healed
abbrev pub HealsKey : Secure → Maps → List ℕ → Option Stored → Option Stored → Type 0
HealsKey secure maps key None new = new ≡ None
HealsKey secure maps key (Some old) None = ⊥
HealsKey secure maps key (Some old) (Some new) = (new ≡ old) ⊎ IsHealed secure maps key old new

-- what a secure store seals
pub record MaySeal (flags iv : ℕ) (prior : Option (List ℕ)) (value : List ℕ) : Type 0 where
  pub secure : IsTrue (is_secure_flags flags)
  pub number : iv < 2 ^ 64
  pub replaced : HasPrior Second prior
  pub most : length value ≤ MAX_SECURE_VALUE

-- the view of a key once these maps are mounted
abbrev pub mounted_view : Constants → Maps → List ℕ → View
mounted_view constants maps key = view_of (secure_of constants).root (heal (secure_of constants) maps) key

-- A cut in a call that sets a key: of whatever the cut leaves, the mount shows the view of the key that a mount would
-- have shown before the call, or the value that the call sets.
abbrev pub ShowsOldOrSet : Constants → StoreState → ℕ → Operation → List ℕ → View → Type 0
ShowsOldOrSet constants state who operation key set = (maps : Maps) → Contains (cuts (secure_rules constants) state who operation) maps
    → (mounted_view constants maps key ≡ mounted_view constants (maps_of state) key) ⊎ (mounted_view constants maps key ≡ set)

-- the same, where a mount may find that the stores don't belong together
abbrev pub ShowsOldSetOrFailed : Constants → StoreState → ℕ → Operation → List ℕ → View → Type 0
ShowsOldSetOrFailed constants state who operation key set = (maps : Maps) → Contains (cuts (secure_rules constants) state who operation) maps
    → (mounted_view constants maps key ≡ mounted_view constants (maps_of state) key)
    ⊎ ((mounted_view constants maps key ≡ set) ⊎ (mounted_view constants maps key ≡ RollbackFailed))

-- both stores hold of a key what they held
abbrev pub LeavesKey : Maps → Maps → List ℕ → Type 0
LeavesKey old new key = (get new.primary key ≡ get old.primary key) × (get new.rollback key ≡ get old.rollback key)

-- whatever a cut leaves, before a mount heals it, the stores hold of every other key what they held
abbrev pub LeavesOthers : Constants → StoreState → ℕ → Operation → List ℕ → Type 0
LeavesOthers constants state who operation key = (maps : Maps) → Contains (cuts (secure_rules constants) state who operation) maps
    → (other : List ℕ) → other ≢ key → LeavesKey (maps_of state) maps other

-- a key's tag once the set that was cut is completed, if there is room for it
abbrev pub completed : Secure → Maps → List ℕ → Stored → Stored
completed secure maps key tag = option_map_or (λ (s : Stored). healed_by true s.bytes (metadata_in secure.root key s.bytes) tag) (get maps.primary key) tag

abbrev pub completed_view : Constants → Maps → List ℕ → View
completed_view constants maps key =
    view_by (secure_of constants).root key (get maps.primary key) (option_map (completed (secure_of constants) maps key) (get maps.rollback key))

-- Whatever a cut leaves, a mount then shows of every other key the view that it had, or the one that completing its own
-- set gives it.
abbrev pub ShowsOthers : Constants → StoreState → ℕ → Operation → List ℕ → Type 0
ShowsOthers constants state who operation key = (maps : Maps) → Contains (cuts (secure_rules constants) state who operation) maps
    → (other : List ℕ) → other ≢ key
    → (mounted_view constants maps other ≡ view constants state other) ⊎ (mounted_view constants maps other ≡ completed_view constants (maps_of state) other)

-- a set that nothing refuses before the stores are asked
pub record MaySetNow (state : StoreState) (key value : List ℕ) (flags : ℕ) : Type 0 where
  pub running : state.doubt ≡ None
  pub valid : is_key key ≡ true
  pub secure : is_secure_flags flags ≡ true
  pub most : length value ≤ MAX_SECURE_VALUE
  pub no_set : state.open_set ≡ None
