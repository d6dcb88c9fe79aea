-- How much of an area one key of a map takes.
use Rattle.std.specs.Prelude.{ℕ, List, length}
use Rattle.std.specs.Option.{option_map_or}
use Rattle.std.specs.FinMap.{get}
use Rattle.kv_model.specs.FlaggedMap.{Stored, FlaggedMap}
use Rattle.base_core.specs.Sizes.{record_size}

-- the size of the key's record, and 0 where the map lacks the key
abbrev pub key_size : ℕ → FlaggedMap → List ℕ → ℕ
key_size prog map key = option_map_or (λ (stored : Stored). record_size prog (length key) (length stored.bytes)) (get map key) 0
