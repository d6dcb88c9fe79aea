-- An incremental set of a store in memory, as a set of the state.
use Rattle.std.specs.Prelude.{ℕ, List, ◌++◌, None}
use Rattle.kv_model.specs.StoreState.{OpenSet}
use Rattle.kv_memory.specs.declared.held.HeldSet.{HeldSet}

abbrev pub set_of : HeldSet → OpenSet
set_of held = record {
  owner = held.owner;
  key = held.key;
  flags = held.flags.bits;
  size = held.size;
  bytes = held.bytes.items;
  prior = None;
  is_remove = held.is_remove;
}

-- a set with more bytes
abbrev pub with_bytes : OpenSet → List ℕ → OpenSet
with_bytes set value = record set { bytes = set.bytes ++ value }
