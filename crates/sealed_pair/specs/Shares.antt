-- What one of the two stores of a secure store has of the set that is active.
use Rattle.std.specs.Prelude.{◌≡◌, ℕ, List, Option, Some, None}
use Rattle.std.specs.FinMap.{get}
use Rattle.kv_model.specs.StoreState.{OpenSet, StoreState}

pub data Share : Type 0 where
  -- no set is active, or none that was begun in this store
  NoShare : Share
  -- this set is active in the store
  HasSet : OpenSet → Share
  -- a remove of this key is active in the other store alone, since this one lacks the key
  LacksKey : List ℕ → Share

-- the set that is active in the store
abbrev pub set_of : Share → Option OpenSet
set_of NoShare = None
set_of (HasSet set) = Some set
set_of (LacksKey key) = None

-- the state of a store that has this
abbrev pub Holds : Share → StoreState → Type 0
Holds NoShare state = state.open_set ≡ None
Holds (HasSet set) state = state.open_set ≡ Some set
Holds (LacksKey key) state = (state.open_set ≡ None) × (get state.primary key ≡ None)

-- a store in which this set is active, or none
abbrev pub share_of : Option OpenSet → Share
share_of None = NoShare
share_of (Some set) = HasSet set
