-- A recover: it walks over the keys of the primary store, and heals the tag of each.
use Rattle.std.specs.Prelude.{◌≡◌, ◌≢◌, ◌⊎◌, ◌↔◌, ℕ, true, false, IsTrue, List, [], take, Option, Some, None, Result, Ok, Err}
use Rattle.std.specs.FinMap.{get, insert}
use Rattle.std.specs.FinSet.{FinSet, contains, len}
use Rattle.std.specs.Cmp.Lexicographic.{slice_cmp}
use Rattle.std.specs.Ordering.{nat_cmp}
use Rattle.kv_model.specs.declared.error.KvError.{KvError}
use Rattle.kv_model.specs.declared.error.KvError.TheVariants.{Memory, ReadFault, WriteFault}
use Rattle.kv_model.specs.Constants.{Constants, Secure}
use Rattle.kv_model.specs.FlaggedMap.{FlaggedMap}
use Rattle.kv_model.specs.Keys.{is_key}
use Rattle.kv_model.specs.Kv.{Keeps, KvState, TellsOnly}
use Rattle.kv_model.specs.NextKey.{IsNext}
use Rattle.kv_model.specs.Rules.{Rules}
use Rattle.kv_model.specs.StoreState.{Maps, Position, StoreState}
use Rattle.sealed_pair.specs.Going.{WhereStill}
use Rattle.sealed_pair.specs.Heal.{heal}
use Rattle.sealed_pair.specs.Reading.{TellsPlain, WhereTold}
use Rattle.sealed_pair.specs.Recovering.{TellsAmong}

-- ---- the walk over the keys

-- a walk over all keys of a store: who makes it, and the state in which it began
pub record Walk : Type 0 where
  pub who : ℕ
  pub before : StoreState

abbrev pub place : Option (List ℕ) → Position
place last = record { prefix = []; last = last }

-- the state of the store once the walk has given this key
abbrev pub state_at : Walk → Option (List ℕ) → StoreState
state_at walk last = record walk.before { iterators = insert walk.before.iterators (walk.who, 0) (place last) }

-- the walk has given this key of a plain store that tells its state
abbrev pub IsAt : (Constants → Rules) → Walk → Option (List ℕ) → KvState → Type 0
IsAt rules_by walk last s = TellsPlain rules_by s (state_at walk last)

-- What the calls of a walk leave of the store: its map stands, and a power cut leaves it.
pub record HasStayed (rules_by : Constants → Rules) (old new : KvState) : Type 0 where
  pub keeps : Keeps old new
  pub steady : old.known.steady ≡ true → new.known.steady ≡ true
  pub still : WhereTold rules_by old (λ state. (now : StoreState) × TellsPlain rules_by new now × (now.primary ≡ state.primary))
  pub moments : IsTrue old.crash.tells_moments
      → WhereTold rules_by old (λ state. TellsOnly old.crash.primary new.crash.primary state.primary state.primary)

-- the key at the front of a buffer
abbrev pub KeyIn : List ℕ → ℕ → Option (List ℕ) → Type 0
KeyIn out n (Some key) = key ≡ take n out
KeyIn out n None = is_key (take n out) ≡ false

-- a refusal of a store that tells its state, but of a write
abbrev pub IsReadOrWant : KvError → Type 0
IsReadOrWant error = (error ≡ ReadFault) ⊎ (error ≡ Memory)

-- the next key of a walk
abbrev pub GivesNext : (Constants → Rules) → Walk → Option (List ℕ) → KvState → Result (Option (List ℕ)) KvError → Type 0
GivesNext rules_by walk last new (Ok None) =
    IsNext new.known.constants.hash_bits walk.before.primary (place last) None × IsAt rules_by walk last new
GivesNext rules_by walk last new (Ok (Some key)) =
    IsNext new.known.constants.hash_bits walk.before.primary (place last) (Some key) × IsAt rules_by walk (Some key) new
GivesNext rules_by walk last new (Err error) = IsReadOrWant error × ((given : Option (List ℕ)) × IsAt rules_by walk given new)

-- ---- what it makes of the rollback map

-- the rollback map of a told state with all tags healed
abbrev pub all_healed : Secure → FlaggedMap → StoreState → FlaggedMap
all_healed secure primary state = (heal secure (record { primary = primary; rollback = state.primary })).rollback

-- each key has what it had, or what it is to have
abbrev pub IsBetween : FlaggedMap → FlaggedMap → FlaggedMap → Type 0
IsBetween before goal map = (key : List ℕ) → (get map key ≡ get before key) ⊎ (get map key ≡ get goal key)

-- So many keys have another value than before.
pub record HasChanged (before after : FlaggedMap) (count : ℕ) : Type 0 where
  pub keys : FinSet (slice_cmp nat_cmp)
  pub each : (key : List ℕ) → (contains keys key ≡ true) ↔ (get after key ≢ get before key)
  pub counted : len keys ≡ count

-- a write failed, and the images mount to a map between; or the store tells a map between
abbrev pub BreaksOff : KvState → StoreState → FlaggedMap → KvError → Type 0
BreaksOff new before goal error =
    ((error ≡ WriteFault) × ((maps : Maps) → new.crash.stands maps → IsBetween before.primary goal maps.primary))
    ⊎ (IsReadOrWant error × ((map : FlaggedMap) × IsBetween before.primary goal map × (new.known.state ≡ Some (record before { primary = map }))))

abbrev pub Completes : KvState → StoreState → FlaggedMap → Result ℕ KvError → Type 0
Completes new before goal (Ok count) = (new.known.state ≡ Some (record before { primary = goal })) × HasChanged before.primary goal count
Completes new before goal (Err error) = BreaksOff new before goal error

-- Where the store told its state its map became another, key by key, and a count tells how many keys changed; after a
-- refusal and at each moment each key has what it had or what it is to have.
pub record RewritesEach (rules_by : Constants → Rules) (old new : KvState) (goal : StoreState → FlaggedMap) (result : Result ℕ KvError) : Type 0 where
  pub told : WhereStill rules_by old (λ state. Completes new state (goal state) result)
  pub moments : IsTrue old.crash.tells_moments
      → WhereStill rules_by old (λ state. TellsAmong old.crash.primary new.crash.primary (IsBetween state.primary (goal state)))
