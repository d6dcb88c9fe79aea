-- Numbers of each pass, added up, and how often a number stands in a list.
use Rattle.std.specs.Prelude.{ℕ, zero, suc, ◌+◌, ◌-◌, ◌==◌, min, List, [], ◌∷◌, if◌then◌else◌}

abbrev pub total : {A : Type 0} → (A → ℕ) → List A → ℕ
total f [] = 0
total f (x ∷ xs) = f x + total f xs

abbrev pub is_one : ℕ → ℕ → ℕ
is_one x y = if x == y then 1 else 0

abbrev pub times : ℕ → List ℕ → ℕ
times x [] = 0
times x (y ∷ ys) = is_one x y + times x ys

-- 1 for each position in a list of n entries, counted from 1, and else 0
abbrev pub once : ℕ → ℕ → ℕ
once zero n = 0
once (suc before) n = min 1 (n - before)
