-- A slot as an iterator's name and where it stands.
use Rattle.std.specs.Prelude.{◌≡◌, ℕ, true, List, map}
use Rattle.std.specs.FinMap.{from_sorted}
use Rattle.std.specs.FinMap.Entries.{is_sorted}
use Rattle.kv_model.specs.StoreState.{Position, Iterators, iterator_cmp}
use Rattle.kv_memory.specs.declared.iterators.Slot.{Slot}
use Rattle.kv_memory.specs.Cursors.{position_of}

abbrev pub name_of : Slot → ℕ × ℕ
name_of slot = (slot.who, slot.n)

abbrev pub standing : Slot → Position
standing slot = position_of slot.cursor

abbrev pub slot_pair : Slot → (ℕ × ℕ) × Position
slot_pair slot = (name_of slot, standing slot)

-- the map of slots whose names rise
abbrev pub map_of : List Slot → Iterators
map_of slots = from_sorted (map slot_pair slots)

abbrev pub Rise : List Slot → Type 0
Rise slots = is_sorted iterator_cmp (map slot_pair slots) ≡ true
