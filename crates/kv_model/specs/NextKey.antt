-- What an iterator gives next.
use Rattle.std.specs.Prelude.{◌≡◌, ◌⊎◌, ℕ, Bool, true, ◌&&◌, List, [], ◌∷◌, ◌++◌, Option, Some, None, IfSome, if◌then◌else◌, filter, nat_eq}
use Rattle.std.specs.List.{starts_with}
use Rattle.std.specs.FinMap.{keys, contains_key}
use Rattle.kv_model.specs.FlaggedMap.{FlaggedMap}
use Rattle.kv_model.specs.KeyOrder.{is_below}
use Rattle.kv_model.specs.StoreState.{Position}

abbrev pub lesser_key : ℕ → List ℕ → Option (List ℕ) → Option (List ℕ)
lesser_key hash_bits a None = Some a
lesser_key hash_bits a (Some b) = if is_below hash_bits b a then Some b else Some a

-- the least in the key order
abbrev pub least_key : ℕ → List (List ℕ) → Option (List ℕ)
least_key hash_bits [] = None
least_key hash_bits (key ∷ keys) = lesser_key hash_bits key (least_key hash_bits keys)

-- any key stands above none
abbrev pub is_above_last : ℕ → Option (List ℕ) → List ℕ → Bool
is_above_last hash_bits None key = true
is_above_last hash_bits (Some last) key = is_below hash_bits last key

-- whether a key has the prefix and stands above the last one given
abbrev pub may_give : ℕ → Position → List ℕ → Bool
may_give hash_bits position key = starts_with nat_eq key position.prefix && is_above_last hash_bits position.last key

-- the least such key of the map
abbrev pub next_key : ℕ → FlaggedMap → Position → Option (List ℕ)
next_key hash_bits map position = least_key hash_bits (filter (may_give hash_bits position) (keys map))

abbrev pub HasPrefix : List ℕ → List ℕ → Type 0
HasPrefix prefix key = (rest : List ℕ) × (key ≡ prefix ++ rest)

-- a key that the iterator has yet to give: the map has it, it has the prefix, and the last key given is below it
pub record IsAhead (hash_bits : ℕ) (map : FlaggedMap) (position : Position) (key : List ℕ) : Type 0 where
  pub present : contains_key map key ≡ true
  pub prefixed : HasPrefix position.prefix key
  pub above : IfSome position.last (λ (last : List ℕ). is_below hash_bits last key ≡ true)

-- the key ahead that is below every other one, and none where no key is ahead
abbrev pub IsNext : ℕ → FlaggedMap → Position → Option (List ℕ) → Type 0
IsNext hash_bits map position None = (key : List ℕ) → IsAhead hash_bits map position key → ⊥
IsNext hash_bits map position (Some key) = IsAhead hash_bits map position key
    × ((other : List ℕ) → IsAhead hash_bits map position other → (other ≡ key) ⊎ (is_below hash_bits key other ≡ true))
