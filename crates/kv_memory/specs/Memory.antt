-- The constants and the state of a store in memory.
use Rattle.std.specs.Option.{option_map}
use Rattle.kv_model.specs.Constants.{Constants}
use Rattle.kv_model.specs.StoreState.{StoreState}
use Rattle.kv_model.specs.Kv.{KvState}
use Rattle.kv_memory.specs.HeldSets.{set_of}
use Rattle.kv_memory.specs.Telling.{plain_constants, running, telling}
use Rattle.kv_memory.specs.declared.memory.MemoryStore.{MemoryStore}

abbrev pub constants_in : MemoryStore → Constants
constants_in store = plain_constants store.hash_bits store.prog store.room

abbrev pub state_in : MemoryStore → StoreState
state_in store = running store.entries.map (option_map set_of store.held) store.iterators

abbrev pub known_of : MemoryStore → KvState
known_of store = telling (constants_in store) (state_in store)
