-- What contracts see of the entries of a store in memory: the map, and how many keys more it takes without memory.
use Rattle.std.specs.Prelude.{ℕ, List, refl}
use Rattle.std.specs.Coded.{Coded, coded_ℕ, coded×, coded_list, code_by}
use Rattle.std.specs.FinMap as map
use Rattle.kv_model.specs.FlaggedMap.{FlaggedMap, Stored}

pub record EntriesState : Type 0 where
  pub map : FlaggedMap
  pub spare : ℕ

abbrev pub stored_code : Coded Stored
stored_code = code_by (ℕ × List ℕ) (coded× coded_ℕ (coded_list coded_ℕ)) (λ s. (s.flags, s.bytes)) (λ t. record { flags = t.0; bytes = t.1 }) (λ _. refl)

abbrev pub entries_code : Coded EntriesState
entries_code = code_by (FlaggedMap × ℕ) (coded× (map.code (coded_list coded_ℕ) stored_code) coded_ℕ)
    (λ e. (e.map, e.spare)) (λ t. record { map = t.0; spare = t.1 }) (λ _. refl)
