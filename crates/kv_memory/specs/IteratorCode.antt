-- The code of a map of iterators.
use Rattle.std.specs.Prelude.{ℕ, List, Option, refl}
use Rattle.std.specs.Coded.{Coded, coded_ℕ, coded_list, coded_option, coded×, code_by}
use Rattle.std.specs.FinMap as map
use Rattle.kv_model.specs.StoreState.{Position, Iterators}

abbrev pub position_code : Coded Position
position_code = code_by (List ℕ × Option (List ℕ)) (coded× (coded_list coded_ℕ) (coded_option (coded_list coded_ℕ))) (λ p. (p.prefix, p.last))
    (λ t. record { prefix = t.0; last = t.1 }) (λ _. refl)

abbrev pub iterators_code : Coded Iterators
iterators_code = map.code (coded× coded_ℕ coded_ℕ) position_code
