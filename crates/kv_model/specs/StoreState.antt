-- The state of a store, as its callers may know it.
use Rattle.std.specs.Prelude.{ℕ, Bool, true, false, ◌==◌, if◌then◌else◌, List, [], length, Option, Some, None}
use Rattle.std.specs.declared.cmp.Ordering.{Ordering}
use Rattle.std.specs.Ordering.{nat_cmp, ordering_then}
use Rattle.std.specs.FinMap.{FinMap, empty, get}
use Rattle.kv_model.specs.FlaggedMap.{FlaggedMap, Stored}
use Rattle.kv_model.specs.Flags.{is_mirrored}
use Rattle.kv_model.specs.Operations.{Operation}

-- the maps of a store; the rollback map is empty in plain mode
pub record Maps : Type 0 where
  pub primary : FlaggedMap
  pub rollback : FlaggedMap

-- the incremental set that is active, or a remove that was begun
pub record OpenSet : Type 0 where
  pub owner : ℕ
  pub key : List ℕ
  pub flags : ℕ
  pub size : ℕ
  -- the bytes that were added so far
  pub bytes : List ℕ
  -- the tag that the rollback map had for the key when the set began, where the set replaces it
  pub prior : Option (List ℕ)
  pub is_remove : Bool

-- a set that begins, and a remove that begins: every active set is one of these with more bytes
abbrev pub begun_set : ℕ → List ℕ → ℕ → ℕ → Option (List ℕ) → OpenSet
begun_set who key flags size prior =
    record { owner = who; key = key; flags = flags; size = size; bytes = []; prior = prior; is_remove = false }

abbrev pub begun_remove : ℕ → List ℕ → OpenSet
begun_remove who key = record { owner = who; key = key; flags = 0; size = 0; bytes = []; prior = None; is_remove = true }

-- a tag has 16 bytes
abbrev pub tag_in : Option Stored → Option (List ℕ)
tag_in None = None
tag_in (Some stored) = if length stored.bytes == 16 then Some stored.bytes else None

-- what a set of these flags replaces in the rollback map: the key's tag, where both the set and the map have one
abbrev pub prior_in : FlaggedMap → ℕ → List ℕ → Option (List ℕ)
prior_in rollback flags key = if is_mirrored flags then tag_in (get rollback key) else None

-- where an iterator stands
pub record Position : Type 0 where
  pub prefix : List ℕ
  -- the key that it gave last
  pub last : Option (List ℕ)

-- iterators belong to an owner and a number
abbrev pub iterator_cmp : ℕ × ℕ → ℕ × ℕ → Ordering
iterator_cmp a b = ordering_then (nat_cmp a.0 b.0) (nat_cmp a.1 b.1)

abbrev pub Iterators : Type 0
Iterators = FinMap iterator_cmp Position

-- the call in which a write fault stopped the store
pub record Doubt : Type 0 where
  pub who : ℕ
  pub operation : Operation

pub record StoreState : Type 0 where
  pub primary : FlaggedMap
  pub rollback : FlaggedMap
  pub open_set : Option OpenSet
  pub iterators : Iterators
  -- the next initialisation vector, as a number
  pub next_vector : ℕ
  -- none while the store runs
  pub doubt : Option Doubt

abbrev pub maps_of : StoreState → Maps
maps_of state = record { primary = state.primary; rollback = state.rollback }

-- what a run begins with over these maps
abbrev pub fresh_state : FlaggedMap → FlaggedMap → ℕ → StoreState
fresh_state primary rollback next_vector = record {
  primary = primary;
  rollback = rollback;
  open_set = None;
  iterators = empty;
  next_vector = next_vector;
  doubt = None;
}
