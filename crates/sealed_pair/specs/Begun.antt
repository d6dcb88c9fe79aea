-- What one of the two stores does of a remove that is begun and finished.
use Rattle.std.specs.Prelude.{ℕ, Bool, List, Option, Some, None, Result, Ok, Err}
use Rattle.std.specs.FinMap.{remove}
use Rattle.kv_model.specs.declared.error.KvError.{KvError}
use Rattle.kv_model.specs.Constants.{Constants}
use Rattle.kv_model.specs.StoreState.{StoreState}
use Rattle.kv_model.specs.Operations.{Finish, RemoveStart}
use Rattle.kv_model.specs.Rules.{Rules}
use Rattle.kv_model.specs.Kv.{KvState}
use Rattle.sealed_pair.specs.declared.active.Active.{Active}
use Rattle.sealed_pair.specs.declared.partial.PartialSet.{PartialSet}
use Rattle.sealed_pair.specs.declared.active.Begun.TheVariants.{Remove, Set}
use Rattle.sealed_pair.specs.Active.{own_of, share_above, share_below}
use Rattle.sealed_pair.specs.Going.{Work}
use Rattle.sealed_pair.specs.Running.{Parts}
use Rattle.sealed_pair.specs.Shares.{NoShare, Share, set_of}

-- the two stores of a secure store with this set active
abbrev pub parts_in : List ℕ → ℕ → Option Active → (Constants → Rules) → KvState → (Constants → Rules) → KvState → Parts
parts_in root number active above primary below rollback = record {
  root = root;
  own = own_of number active;
  above = above;
  primary = primary;
  share_above = share_above root number active;
  below = below;
  rollback = rollback;
  share_below = share_below active;
}

-- a remove, and whether it was begun in the primary store and in the rollback store
abbrev pub active_remove : ℕ → List ℕ → Bool → Bool → Option Active
active_remove who key above below = Some (record { owner = who; begun = Remove key; above = above; below = below })

-- a set in pieces; it says nothing of where it was begun
abbrev pub active_set : ℕ → PartialSet → Bool → Bool → Option Active
active_set who set above below = Some (record { owner = who; begun = Set set; above = above; below = below })

-- what is active once a call on it was answered so
abbrev pub set_or : ℕ → Bool → Bool → Result PartialSet KvError → Option Active
set_or who above below (Ok set) = active_set who set above below
set_or who above below (Err error) = None

-- what is active once a call that begins was answered so
abbrev pub begun_or : Result Active KvError → Option Active
begun_or (Ok active) = Some active
begun_or (Err error) = None

-- the same of a remove that is begun
abbrev pub removing_or : ℕ → List ℕ → Bool → Bool → Result Unit KvError → Option Active
removing_or who key above below (Ok done) = active_remove who key above below
removing_or who key above below (Err error) = None

-- the state of a store with this share, and once the key is gone
abbrev pub with_share : Share → StoreState → StoreState
with_share share state = record state { open_set = set_of share }

abbrev pub with_key_gone : List ℕ → StoreState → StoreState
with_key_gone key state = record state { primary = remove state.primary key; open_set = None }

abbrev pub begins_remove : ℕ → List ℕ → Share → Work
begins_remove who key share = record { share = NoShare; who = who; operation = RemoveStart key; after = with_share share }

abbrev pub finishes_remove : ℕ → List ℕ → Share → Work
finishes_remove who key share = record { share = share; who = who; operation = Finish; after = with_key_gone key }
