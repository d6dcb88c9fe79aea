-- An iterator's place, and the iterators of a store by owner and number.
use Rattle.std.specs.Prelude.{ℕ, List, Some}
use Rattle.kv_model.specs.StoreState.{Position}
use Rattle.kv_memory.specs.declared.cursor.Cursor.{Cursor}

abbrev pub position_of : Cursor → Position
position_of cursor = record { prefix = cursor.prefix; last = cursor.last }

-- an iterator that gave this key
abbrev pub behind : Position → List ℕ → Position
behind position key = record position { last = Some key }
