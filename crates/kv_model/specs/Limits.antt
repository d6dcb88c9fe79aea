-- Which states of a store there are: every step of a store keeps these limits.
use Rattle.std.specs.Prelude.{◌≡◌, ℕ, ◌+◌, ◌<◌, ◌≤◌, ◌^◌, Bool, true, false, List, length, None, IfSome, MatchBool}
use Rattle.std.specs.FinMap as map
use Rattle.kv_model.specs.declared.limits.TheConstants.{MAX_VALUE, MAX_ITERATORS}
use Rattle.kv_model.specs.Flags.{is_mirrored}
use Rattle.kv_model.specs.FlaggedMap.{FlaggedMap, Stored}
use Rattle.kv_model.specs.Constants.{Constants}
use Rattle.kv_model.specs.Operations.{Operation, Start}
use Rattle.base_core.specs.Sizes.{record_size}
use Rattle.kv_model.specs.Sizes.{used}
use Rattle.kv_model.specs.StoreState.{StoreState, OpenSet, prior_in}

-- each value has at most so many bytes
abbrev pub AreShort : FlaggedMap → Type 0
AreShort stored = (key : List ℕ) → IfSome (map.get stored key) (λ (value : Stored). length value.bytes ≤ MAX_VALUE)

-- what a store lets begin: the flags and the size of an incremental set, and which calls take a vector number
pub record Starts : Type 1 where
  pub may_start : ℕ → ℕ → Type 0
  pub takes_number : Operation → Bool

-- an incremental set that is active beside this rollback map and this next number
pub record IsSet (starts : Starts) (rollback : FlaggedMap) (next_vector : ℕ) (set : OpenSet) : Type 0 where
  pub began : starts.may_start set.flags set.size
  pub fed : length set.bytes ≤ set.size
  -- a set that is not mirrored has no tag in the rollback store
  pub not_mirrored : is_mirrored set.flags ≡ false → map.get rollback set.key ≡ None
  pub numbered : starts.takes_number (Start set.key set.size set.flags) ≡ true → 1 ≤ next_vector
  pub prior : set.prior ≡ prior_in rollback set.flags set.key

-- a set or a remove that is active
abbrev pub IsActive : Starts → FlaggedMap → ℕ → OpenSet → Type 0
IsActive starts rollback next_vector set = MatchBool set.is_remove (set.prior ≡ None) (IsSet starts rollback next_vector set)

-- the limits of a state
pub record IsWithin (starts : Starts) (state : StoreState) : Type 0 where
  pub primary : AreShort state.primary
  pub rollback : AreShort state.rollback
  pub open_set : IfSome state.open_set (IsActive starts state.rollback state.next_vector)
  pub iterators : map.len state.iterators ≤ MAX_ITERATORS
  pub next_vector : state.next_vector < 2 ^ 64

-- what a plain store lets begin
abbrev pub plain_starts : Starts
plain_starts = record {
  may_start = λ flags size. (flags < 2) × (size ≤ MAX_VALUE);
  takes_number = λ operation. false;
}

-- a state of a plain store, which has nothing in the other map
pub record IsPlain (state : StoreState) : Type 0 where
  pub within : IsWithin plain_starts state
  pub no_rollback : state.rollback ≡ map.empty

-- The records of the map fit in the room, and with them that of the set that is active once it is finished.
pub record HasRoom (constants : Constants) (state : StoreState) : Type 0 where
  pub fits : used constants.prog state.primary ≤ constants.room
  pub reserved : IfSome state.open_set (λ (set : OpenSet). MatchBool set.is_remove (Unit {0})
      (used constants.prog state.primary + record_size constants.prog (length set.key) set.size ≤ constants.room))
