-- Areas by their numbers, and room in tables.
use Rattle.std.specs.Prelude.{ℕ, ◌+◌, ◌*◌, ◌<◌, ◌≤◌, List, length}
use Rattle.flash_core.specs.declared.geometry.Geometry.{Geometry}
use Rattle.flash_core.specs.Sizes.{area_size}
use Rattle.area_log.specs.declared.area.Area.{Area}
use Rattle.area_log.specs.Areas.{end_of}
use Rattle.ram_table.specs.declared.table.Entry.{Entry}
use Rattle.ram_table.specs.Table.{TableState, entry_at}

-- the area of this number
abbrev pub area_of : Geometry → ℕ → Area
area_of g number = record { base = number * area_size g; size = area_size g }

-- each entry's header lies in the area
abbrev pub AreIn : Area → List Entry → Type 0
AreIn area entries = (i : ℕ) → i < length entries → (area.base ≤ (entry_at entries i).offset) × ((entry_at entries i).offset + 24 ≤ end_of area)

-- one table has room for the entries of another
abbrev pub HasRoomFor : TableState → TableState → Type 0
HasRoomFor spare table = length table.entries ≤ length spare.entries + spare.spare
