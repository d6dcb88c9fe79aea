-- The set that is active, as contracts see it.
use Rattle.std.specs.Prelude.{ℕ, ◌==◌, if◌then◌else◌, Bool, false, List, ◌++◌, Option, Some, None}
use Rattle.std.specs.Option.{option_map, option_map_or}
use Rattle.kv_model.specs.declared.error.KvError.{KvError}
use Rattle.kv_model.specs.declared.error.KvError.TheVariants.{Busy, SetOpen}
use Rattle.kv_model.specs.StoreState.{OpenSet, begun_remove}
use Rattle.plain_store.specs.declared.active.ActiveSet.{ActiveSet}
use Rattle.plain_store.specs.declared.active.Begun.{Begun}
use Rattle.plain_store.specs.declared.active.Begun.TheVariants.{Remove, Set}

-- what was begun as a set of the state: of a set that is written in pieces its bytes are noted
abbrev pub opened_by : ℕ → Begun → OpenSet
opened_by owner (Set set place fed) = record {
  owner = owner;
  key = set.key;
  flags = set.flags;
  size = set.size;
  bytes = fed.bytes;
  prior = None;
  is_remove = false;
}
opened_by owner (Remove key place copied) = begun_remove owner key

abbrev pub open_of : ActiveSet → OpenSet
open_of active = opened_by active.owner active.begun

-- the active set as a set of the state
abbrev pub set_in : Option ActiveSet → Option OpenSet
set_in active = option_map open_of active

-- whether the caller's own set is active
abbrev pub owns : Option ActiveSet → ℕ → Bool
owns active who = option_map_or (λ (a : ActiveSet). a.owner == who) active false

-- what a caller is answered who wants to change the map while a set is active
abbrev pub taken : Option ActiveSet → ℕ → Option KvError
taken None who = None
taken (Some active) who = Some (if active.owner == who then SetOpen else Busy active.owner)

-- a set with these bytes behind its own
abbrev pub with_more : List ℕ → OpenSet → OpenSet
with_more value set = record set { bytes = set.bytes ++ value }
