-- How much of an area the records of a map take. prog is the device's program unit in bytes.
use Rattle.std.specs.Prelude.{ℕ, ◌+◌, ◌-◌, List, [], ◌∷◌, length}
use Rattle.std.specs.FinMap.{entries}
use Rattle.base_core.specs.Sizes.{record_size, master_size}
use Rattle.kv_model.specs.FlaggedMap.{Stored, FlaggedMap}

-- what an area has for records
abbrev pub room_of : ℕ → ℕ → ℕ
room_of prog area_size = area_size - master_size prog

abbrev pub used_by : ℕ → List (List ℕ × Stored) → ℕ
used_by prog [] = 0
used_by prog (entry ∷ entries) = record_size prog (length entry.0) (length entry.1.bytes) + used_by prog entries

-- the sizes of the map's records, one for each key
abbrev pub used : ℕ → FlaggedMap → ℕ
used prog map = used_by prog (entries map)
