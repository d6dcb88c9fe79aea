-- What the worked examples of iterators speak of.
use Rattle.std.specs.Prelude.{ℕ, zero, suc, List, [], ◌∷◌, Option, Some, None, codes}
use Rattle.std.specs.FinMap.{empty, insert, remove}
use Rattle.kv_model.specs.declared.call.Call.{Call}
use Rattle.kv_model.specs.declared.call.Call.TheVariants as call
use Rattle.kv_model.specs.declared.call.Reply.{Reply}
use Rattle.kv_model.specs.declared.call.Reply.TheVariants as reply
use Rattle.kv_model.specs.declared.call.Entry.{Entry}
use Rattle.kv_model.specs.FlaggedMap.{FlaggedMap}
use Rattle.kv_model.specs.Constants.{Constants}
use Rattle.kv_model.specs.StoreState.{StoreState, Position}
use Rattle.kv_model.specs.NextKey.{next_key}
use Rattle.kv_model.specs.Examples.{example_store, empty_store, map_of_keys}

abbrev pub map_of_names : List (List ℕ) → FlaggedMap
map_of_names [] = empty
map_of_names (name ∷ names) = insert (map_of_names names) name (record { flags = 0; bytes = [] })

-- an iterator over a prefix that has given nothing yet
abbrev pub begins_with : List ℕ → Position
begins_with prefix = record { prefix = prefix; last = None }

abbrev pub moved_on : Position → Option (List ℕ) → Position
moved_on position None = position
moved_on position (Some key) = record position { last = Some key }

-- what an iterator gives in so many calls, over a map that stays
abbrev pub given : ℕ → FlaggedMap → Position → ℕ → List (Option (List ℕ))
given hash_bits map position zero = []
given hash_bits map position (suc calls) =
    next_key hash_bits map position ∷ given hash_bits map (moved_on position (next_key hash_bits map position)) calls

-- ---- a history of a store with the keys a and c, all hashes equal: client 1 opens an iterator, gets a from it, takes c
-- away, and gets the end

abbrev pub one_hash_store : Constants
one_hash_store = record example_store { hash_bits = 0 }

abbrev two_keys : FlaggedMap
two_keys = map_of_keys (codes "ca")

abbrev entry_of : ℕ → Call → Reply → Entry
entry_of index call reply = record { seq = index; who = 1; index = index; call = call; reply = reply }

abbrev pub opening : Entry
opening = entry_of 1 (call.IterOpen 0 []) reply.Done

abbrev pub during : List Entry
during = entry_of 2 (call.Next 0) (reply.Found (codes "a")) ∷ entry_of 3 (call.Remove (codes "c")) reply.Done ∷ []

abbrev pub ending : Entry
ending = entry_of 4 (call.Next 0) reply.End

abbrev pub with_two_keys : StoreState
with_two_keys = record empty_store { primary = two_keys }

abbrev pub opened : StoreState
opened = record with_two_keys { iterators = insert empty (1, 0) (begins_with []) }

abbrev pub gave_a : StoreState
gave_a = record opened { iterators = insert opened.iterators (1, 0) (record { prefix = []; last = Some (codes "a") }) }

abbrev pub without_c : StoreState
without_c = record gave_a { primary = remove two_keys (codes "c") }
