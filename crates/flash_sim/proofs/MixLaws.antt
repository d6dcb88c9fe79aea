-- The generator's numbers, one after another.
use Rattle.std.proofs.Common.{◌≡◌, ℕ, zero, suc, ◌+◌, ◌/◌, ◌^◌, ◌<◌, List, length, get_or, set, inl, inr, refl, sym, ◌∙◌, ap, arith}
use Rattle.std.proofs.lemmas.List.{ext_get_or, get_or-set_other, get_or-set_same}
use Rattle.std.proofs.lemmas.Bool.{cases_lt}
use Rattle.flash_sim.specs.Patterns.{mixed, next_number, number_at}

pub number_next : (y i : ℕ) → number_at y (suc i) ≡ next_number (number_at y i)
unfolding number_at
number_next y zero = refl
number_next y (suc i) = number_next (next_number y) i

pub length-mixed : (y n : ℕ) → length (mixed y n) ≡ n
unfolding mixed
length-mixed y zero = refl
length-mixed y (suc n) = omega (arith, length-mixed (next_number y) n)

pub get_or-mixed : (y n k : ℕ) → k < n → get_or (mixed y n) k 0 ≡ number_at y (suc k) / 2 ^ 24
unfolding mixed number_at
get_or-mixed y zero k lt = absurd (omega arith)
get_or-mixed y (suc n) zero lt = refl
get_or-mixed y (suc n) (suc k) lt = get_or-mixed (next_number y) n k (omega arith)

-- a list of these bytes
pub mixed_is : (y n : ℕ) (bytes : List ℕ) → length bytes ≡ n → ((k : ℕ) → k < n → get_or bytes k 0 ≡ number_at y (suc k) / 2 ^ 24) → bytes ≡ mixed y n
mixed_is y n bytes long each = ext_get_or 0 bytes (mixed y n) (long ∙ sym (length-mixed y n)) (λ k lt.
    let less : k < n = omega (arith, lt, long) in
    each k less ∙ sym (get_or-mixed y n k less))

-- one byte more
pub mixed_more : (y i byte : ℕ) (bytes : List ℕ) → i < length bytes → byte ≡ number_at y (suc i) / 2 ^ 24 → ((k : ℕ) → k < i → get_or bytes k 0 ≡ number_at y (suc k) / 2 ^ 24)
    → (k : ℕ) → k < i + 1 → get_or (set bytes i byte) k 0 ≡ number_at y (suc k) / 2 ^ 24
mixed_more y i byte bytes inside is each k lt = elim (cases_lt k i) [
  | inl below ↦ get_or-set_other bytes i k byte 0 (λ same. absurd (omega (arith, same, below))) ∙ each k below
  | inr at ↦
      let same : k ≡ i = omega arith in
      ap (λ (n : ℕ). get_or (set bytes i byte) n 0) same ∙ get_or-set_same bytes i byte 0 inside ∙ is ∙ ap (λ (n : ℕ). number_at y (suc n) / 2 ^ 24) (sym same)
]
