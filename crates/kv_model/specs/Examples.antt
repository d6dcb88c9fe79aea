-- The stores of the worked examples: a program unit of 8 bytes, and areas of 65,536.
use Rattle.std.specs.Prelude.{ℕ, List, [], ◌∷◌, Option, None, codes}
use Rattle.std.specs.FinMap.{empty, insert}
use Rattle.kv_model.specs.FlaggedMap.{FlaggedMap}
use Rattle.kv_model.specs.Sizes.{room_of}
use Rattle.kv_model.specs.StoreState.{StoreState, Iterators, Position, fresh_state}
use Rattle.kv_model.specs.Constants.{Constants}

abbrev pub example_store : Constants
example_store = record { hash_bits = 32; prog = 8; room = room_of 8 65536; secure = None }

abbrev pub empty_store : StoreState
empty_store = fresh_state empty empty 1

abbrev pub k : List ℕ
k = codes "k"

-- a map of keys of one letter each
abbrev pub map_of_keys : List ℕ → FlaggedMap
map_of_keys [] = empty
map_of_keys (letter ∷ letters) = insert (map_of_keys letters) (letter ∷ []) (record { flags = 0; bytes = [] })

-- an iterator over all keys that gave this one last
abbrev pub position_behind : Option (List ℕ) → Position
position_behind last = record { prefix = []; last = last }

-- iterators of client 1 by these numbers, over all keys
abbrev pub opened_iterators : List ℕ → Iterators
opened_iterators [] = empty
opened_iterators (n ∷ numbers) = insert (opened_iterators numbers) (1, n) (position_behind None)

abbrev pub with_iterators : List ℕ → StoreState
with_iterators numbers = record empty_store { iterators = opened_iterators numbers }
