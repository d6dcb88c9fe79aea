-- Totals over the views, where one view changes, or one is added.
use Rattle.std.proofs.Common.{◌≡◌, ◌≢◌, ℕ, zero, suc, ◌+◌, ◌≤◌, ◌<◌, List, [], ◌∷◌, ◌++◌, set, refl, sym, ap, ◌∙◌, if◌then◌else◌, ◌==◌, Bool, true, false, length, arith, eq-eqb, ne_eqb}
use mathlib.Core.Option.{some, some-injective, some-ne-none}
use mathlib.Core.Logic.{dite}
use native.Mathlib.Decide.{ℕ_discrete}
use lib.ListN.{get_elem?}
use Rattle.turn_lock.specs.Totals.{total, is_one, times, once}

pub set_at : {A : Type 0} (xs : List A) (i : ℕ) (x y : A) → get_elem? xs i ≡ some x → get_elem? (set xs i y) i ≡ some y
set_at [] i x y at = absurd (some-ne-none x (sym at))
set_at (z ∷ xs) zero x y at = refl
set_at (z ∷ xs) (suc i) x y at = set_at xs i x y at

module _ {A : Type 0} (f : A → ℕ) where
  pub total-set : (xs : List A) (i : ℕ) (x y : A) → get_elem? xs i ≡ some x → total f (set xs i y) + f x ≡ total f xs + f y
  total-set [] i x y at = absurd (some-ne-none x (sym at))
  total-set (z ∷ xs) zero x y at = omega (arith, ap f (some-injective z x at))
  total-set (z ∷ xs) (suc i) x y at = omega (arith, total-set xs i x y at)

  pub total-at : (xs : List A) (i : ℕ) (x : A) → get_elem? xs i ≡ some x → f x ≤ total f xs
  total-at [] i x at = absurd (some-ne-none x (sym at))
  total-at (z ∷ xs) zero x at = omega (arith, ap f (some-injective z x at))
  total-at (z ∷ xs) (suc i) x at = omega (arith, total-at xs i x at)

  pub total-push : (xs : List A) (y : A) → total f (xs ++ y ∷ []) ≡ total f xs + f y
  total-push [] y = omega arith
  total-push (x ∷ xs) y = omega (arith, total-push xs y)

  module _ (g : A → ℕ) where
    pub total-le : (xs : List A) → ((i : ℕ) (x : A) → get_elem? xs i ≡ some x → f x ≤ g x) → total f xs ≤ total g xs
    total-le [] le = omega arith
    total-le (x ∷ xs) le = omega (arith, le 0 x refl, total-le xs (λ i y at. le (suc i) y at))

pub times-append : (x : ℕ) (xs ys : List ℕ) → times x (xs ++ ys) ≡ times x xs + times x ys
times-append x [] ys = omega arith
times-append x (y ∷ xs) ys = omega (arith, times-append x xs ys)

pub times-length : (x : ℕ) (xs : List ℕ) → times x xs ≤ length xs
times-length x [] = omega arith
times-length x (y ∷ ys) = omega (arith, times-length x ys, at_most_one (x == y)) where
  at_most_one : (b : Bool) → (if b then 1 else 0) ≤ 1
  at_most_one true = omega arith
  at_most_one false = omega arith

pub is_one-same : (x : ℕ) → is_one x x ≡ 1
is_one-same x = ap (λ b. if b then 1 else 0) (eq-eqb x x refl)

pub is_one-other : (x y : ℕ) → x ≢ y → is_one x y ≡ 0
is_one-other x y other = ap (λ b. if b then 1 else 0) (ne_eqb x y other)

-- a list that is one entry longer has one position more
pub once-more : (p n : ℕ) → once p (n + 1) ≡ once p n + is_one p (n + 1)
once-more zero n = omega (arith, is_one-other zero (n + 1) (λ e. omega arith))
once-more (suc k) n = dite (ℕ_discrete (suc k) (n + 1))
    (λ same. omega (arith, ap (λ y. is_one (suc k) y) (sym same) ∙ is_one-same (suc k)))
    (λ other. omega (arith, is_one-other (suc k) (n + 1) other))

pub once-within : (p n : ℕ) → 0 < once p n → p ≤ n
once-within zero n in_it = omega arith
once-within (suc k) n in_it = omega arith
