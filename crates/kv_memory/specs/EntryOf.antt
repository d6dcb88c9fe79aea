-- An item of the entries as a key and what is stored.
use Rattle.std.specs.Prelude.{◌≡◌, ℕ, true, List, map}
use Rattle.std.specs.Ordering.{nat_cmp}
use Rattle.std.specs.Cmp.Lexicographic.{slice_cmp}
use Rattle.std.specs.FinMap.{from_sorted}
use Rattle.std.specs.FinMap.Entries.{is_sorted}
use Rattle.kv_model.specs.FlaggedMap.{FlaggedMap, Stored}
use Rattle.kv_memory.specs.declared.entries.Item.{Item}

abbrev pub key_of : Item → List ℕ
key_of item = item.key

abbrev pub stored_of : Item → Stored
stored_of item = record { flags = item.flags.bits; bytes = item.value }

abbrev pub pair_of : Item → List ℕ × Stored
pair_of item = (key_of item, stored_of item)

-- the map of items whose keys rise
abbrev pub map_of : List Item → FlaggedMap
map_of items = from_sorted (map pair_of items)

abbrev pub Rise : List Item → Type 0
Rise items = is_sorted (slice_cmp nat_cmp) (map pair_of items) ≡ true
