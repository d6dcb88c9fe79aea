-- A record of a log, and the map for which records one behind another stand.
use Rattle.std.specs.Prelude.{ℕ, ◌==◌, if◌then◌else◌, List, [], ◌∷◌}
use Rattle.std.specs.FinMap as map
use Rattle.kv_model.specs.FlaggedMap.{FlaggedMap}
use Rattle.kv_model.specs.Flags.{remove_flags}

pub record Write : Type 0 where
  pub flags : ℕ
  pub key : List ℕ
  pub value : List ℕ

-- a record takes its key out, or gives it its flags and value
abbrev pub applied : Write → FlaggedMap → FlaggedMap
applied r m = if r.flags == remove_flags then map.remove m r.key else map.insert m r.key (record { flags = r.flags; bytes = r.value })

abbrev pub map_after : FlaggedMap → List Write → FlaggedMap
map_after m [] = m
map_after m (r ∷ rs) = map_after (applied r m) rs

-- the map that records stand for, the last of a key deciding
abbrev pub map_of : List Write → FlaggedMap
map_of records = map_after map.empty records
