-- A number of one bit is a power of two.
use Rattle.std.proofs.Common.{◌≡◌, ℕ, zero, suc, ◌+◌, ◌*◌, ◌/◌, ◌%◌, ◌^◌, ◌<◌, ◌≤◌, refl, sym, ◌∙◌, ap, inl, inr, arith, add-zero}
use Rattle.std.specs.Prelude.{IsTrue}
use Rattle.std.specs.Int.{is_power_of_two}
use Rattle.std.proofs.Math.Nat.{one-mul, two-pow-succ}
use Rattle.std.proofs.lemmas.Bool.{cases_lt, eq-eqb, eqb-true}
use Rattle.std.proofs.lemmas.Nat.{mod_below, ones_cat, pow_pos, pow_below, zero_from_ones}
use lib.Count.{ones, ones_step}
use Rattle.flash_core.specs.declared.geometry.Geometry.{Geometry}
use Rattle.flash_core.specs.Sizes.{IsValid}

ones_of_zero : ones 0 ≡ 0
unfolding ones
ones_of_zero = refl

ones_of_one : ones 1 ≡ 1
unfolding ones
ones_of_one = refl

-- by the number's digits in base two, of which there are at most this many
power_of_digits : (digits n : ℕ) → n < 2 ^ digits → ones n ≡ 1 → (k : ℕ) × (n ≡ 2 ^ k)
power_of_digits zero n small one =
    let none : n ≡ 0 = omega arith in
    absurd (omega (arith, ap ones none ∙ ones_of_zero, one))
power_of_digits (suc digits) n small one = elim (cases_lt (n % 2) 1) [
  | inl even ↦
      let half = power_of_digits digits (n / 2) (omega (arith, small, two-pow-succ digits)) (omega (arith, ones_step n, one, even)) in
      (suc half.0, omega (arith, half.1, even, two-pow-succ half.0))
  | inr odd ↦
      let none : n / 2 ≡ 0 = zero_from_ones (n / 2) (omega (arith, ones_step n, one, odd)) in
      (0, omega (arith, none, odd, mod_below n 2 (omega arith)))
]

-- `is_power_of_two` in words, up to the largest program unit
pub power_of_two_is : (n : ℕ) → n ≤ 4096 → IsTrue (is_power_of_two n) → (k : ℕ) × (k ≤ 12) × (n ≡ 2 ^ k)
power_of_two_is n small power =
    let found = power_of_digits 13 n (omega arith) (eqb-true (ones n) 1 power) in
    elim (cases_lt 12 found.0) [
      | inl large ↦ absurd (omega (arith, pow_below 12 found.0 large, found.1, small))
      | inr low ↦ (found.0, low, found.1)
    ]

pub is_power_of_two-pow : (k : ℕ) → IsTrue (is_power_of_two (2 ^ k))
is_power_of_two-pow k = eq-eqb (ones (2 ^ k)) 1
    (ap ones (sym (add-zero (1 * 2 ^ k) ∙ one-mul (2 ^ k))) ∙ ones_cat k 1 0 (pow_pos k) ∙ ap (λ (n : ℕ). n + ones 0) ones_of_one ∙ ap (λ (n : ℕ). 1 + n) ones_of_zero)

-- the program unit of a valid geometry
pub prog_is : (g : Geometry) → IsValid g → (k : ℕ) × (k ≤ 12) × (g.prog ≡ 2 ^ k)
prog_is g valid = power_of_two_is g.prog valid.prog_limit valid.prog_is_power
