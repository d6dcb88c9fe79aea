-- What a table is to its callers: its entries, and how many more it can take without memory.
use Rattle.std.specs.Prelude.{ℕ, ◌+◌, ◌≤◌, Bool, true, false, List, length, get_or, slice_set}
use Rattle.std.specs.List.{insert, remove}
use Rattle.ram_table.specs.declared.table.Entry.{Entry}
use Rattle.ram_table.specs.declared.table.Place.{Place}

pub record TableState : Type 0 where
  pub entries : List Entry
  pub spare : ℕ

-- A table never has more.
abbrev pub most_entries : ℕ
most_entries = 4294967295

-- the entry at a place below the length
abbrev pub entry_at : List Entry → ℕ → Entry
entry_at entries i = get_or entries i (record { hash = 0; offset = 0 })

-- What a table could hold without memory it still can.
abbrev pub KeepsRoom : TableState → TableState → Type 0
KeepsRoom old new = length old.entries + old.spare ≤ length new.entries + new.spare

-- The entries once the last record of a key was taken in, where the key has this place: a remove takes the key's entry
-- out, and another record's offset becomes the entry's.
abbrev pub changed_by : List Entry → ℕ → ℕ → ℕ → Bool → Bool → List Entry
changed_by entries at hash offset true true = remove entries at
changed_by entries at hash offset true false = entries
changed_by entries at hash offset false true = slice_set entries at (record { hash = (entry_at entries at).hash; offset = offset })
changed_by entries at hash offset false false = insert entries at (record { hash = hash; offset = offset })

abbrev pub changed : List Entry → Place → ℕ → ℕ → Bool → List Entry
changed entries place hash offset is_remove = changed_by entries place.at hash offset is_remove place.found
