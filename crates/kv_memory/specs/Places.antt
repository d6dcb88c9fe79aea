-- Where a key stands in a list whose keys rise.
use Rattle.std.specs.Prelude.{ℕ, ◌+◌, List, [], ◌∷◌, Result, Ok, Err}
use Rattle.std.specs.declared.cmp.Ordering.{Ordering}
use Rattle.std.specs.FinMap.Entries.{by_order}

abbrev pub later : ℕ → Result ℕ ℕ → Result ℕ ℕ
later n (Ok at) = Ok (n + at)
later n (Err at) = Err (n + at)

-- the place of the first item whose key isn't below k, as Ok where it has the key k
abbrev pub place_of : {A K : Type 0} → (K → K → Ordering) → (A → K) → K → List A → Result ℕ ℕ
place_of order key k [] = Err 0
place_of order key k (item ∷ items) = by_order (order k (key item)) (Err 0) (Ok 0) (later 1 (place_of order key k items))
