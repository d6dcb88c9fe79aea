-- Sums of bytes in the field.
use Rattle.std.proofs.Common.{◌≡◌, ℕ, zero, suc, ◌+◌, ◌*◌, ◌/◌, ◌^◌, ◌<◌, List, get_or, refl, sym, ap, ap₂, ◌∙◌, arith}
use Rattle.std.specs.Prelude.{map, bit_xor}
use Rattle.std.specs.List.{range_with_len}
use Rattle.std.proofs.lemmas.List.FromFn.{get_or-map-range_with_len}
use Rattle.std.proofs.lemmas.Nat.{xor_shr, xor_comm, xor_block}
use lib.Bits.{xor_assoc}
use Rattle.aes_core.specs.Aes.{◌⊕◌, times_x, product, product_of_bits}

-- two functions that agree on each byte, by computing both
pub of_each_byte : {A : Type 0} (f g : ℕ → A) (d : A) → map f (range_with_len 0 256) ≡ map g (range_with_len 0 256) → (x : ℕ) → x < 256 → f x ≡ g x
of_each_byte f g d same x h =
    sym (get_or-map-range_with_len f 0 256 x x d h (omega arith))
    ∙ ap (λ (rows : List _). get_or rows x d) same ∙ get_or-map-range_with_len g 0 256 x x d h (omega arith)

times_x_computed : map times_x (range_with_len 0 256) ≡ map (λ x. (2 * x) ⊕ (x / 128 * 0x11b)) (range_with_len 0 256)
unfolding times_x
times_x_computed = refl

twice_computed : map (product 2) (range_with_len 0 256) ≡ map times_x (range_with_len 0 256)
unfolding product product_of_bits times_x
twice_computed = refl

thrice_computed : map (product 3) (range_with_len 0 256) ≡ map (λ x. times_x x ⊕ x) (range_with_len 0 256)
unfolding product product_of_bits times_x
thrice_computed = refl

pub product_2 : (x : ℕ) → x < 256 → product 2 x ≡ times_x x
product_2 = of_each_byte (product 2) times_x 0 twice_computed

pub product_3 : (x : ℕ) → x < 256 → product 3 x ≡ times_x x ⊕ x
product_3 = of_each_byte (product 3) (λ x. times_x x ⊕ x) 0 thrice_computed

interchange : (a b c d : ℕ) → (a ⊕ b) ⊕ (c ⊕ d) ≡ (a ⊕ c) ⊕ (b ⊕ d)
interchange a b c d =
    xor_assoc a b (c ⊕ d) ∙ ap (bit_xor a) (sym (xor_assoc b c d) ∙ ap (λ (n : ℕ). n ⊕ d) (xor_comm b c) ∙ xor_assoc c b d) ∙ sym (xor_assoc a c (b ⊕ d))

reduced : (h k : ℕ) → h < 2 → k < 2 → (h ⊕ k) * 0x11b ≡ (h * 0x11b) ⊕ (k * 0x11b)
reduced zero zero p q = refl
reduced zero (suc zero) p q = refl
reduced (suc zero) zero p q = refl
reduced (suc zero) (suc zero) p q = refl
reduced zero (suc (suc k)) p q = absurd (omega (arith, q))
reduced (suc zero) (suc (suc k)) p q = absurd (omega (arith, q))
reduced (suc (suc h)) k p q = absurd (omega (arith, p))

twice-⊕ : (a b : ℕ) → 2 * (a ⊕ b) ≡ (2 * a) ⊕ (2 * b)
twice-⊕ a b =
    let left : a * 2 ^ 1 + 0 ≡ 2 * a = omega arith in
    let right : b * 2 ^ 1 + 0 ≡ 2 * b = omega arith in
    let all : (a ⊕ b) * 2 ^ 1 + bit_xor 0 0 ≡ 2 * (a ⊕ b) = omega arith in
    sym all ∙ sym (xor_block 1 a b 0 0 (omega arith) (omega arith)) ∙ ap₂ bit_xor left right

times_x-is : (x : ℕ) → x < 256 → times_x x ≡ (2 * x) ⊕ (x / 128 * 0x11b)
times_x-is = of_each_byte times_x (λ x. (2 * x) ⊕ (x / 128 * 0x11b)) 0 times_x_computed

pub times_x-⊕ : (a b : ℕ) → a < 256 → b < 256 → a ⊕ b < 256 → times_x (a ⊕ b) ≡ times_x a ⊕ times_x b
times_x-⊕ a b ha hb hab =
    times_x-is (a ⊕ b) hab
    ∙ ap₂ bit_xor (twice-⊕ a b) (ap (λ (n : ℕ). n * 0x11b) (xor_shr a b 7) ∙ reduced (a / 128) (b / 128) (omega arith) (omega arith))
    ∙ interchange (2 * a) (2 * b) (a / 128 * 0x11b) (b / 128 * 0x11b)
    ∙ sym (ap₂ bit_xor (times_x-is a ha) (times_x-is b hb))

-- the four rows of a mixed column, from the sum that the registers hold: a is the row's own byte
module _ (a b c d : ℕ) (ha : a < 256) (hb : b < 256) (hab : a ⊕ b < 256) where
  sum : times_x (a ⊕ b) ⊕ b ⊕ (c ⊕ d) ≡ (product 2 a ⊕ product 3 b) ⊕ (c ⊕ d)
  sum =
      ap (λ (n : ℕ). n ⊕ (c ⊕ d))
      (ap (λ (n : ℕ). n ⊕ b) (times_x-⊕ a b ha hb hab) ∙ xor_assoc (times_x a) (times_x b) b ∙ sym (ap₂ bit_xor (product_2 a ha) (product_3 b hb)))

  pub row_0 : times_x (a ⊕ b) ⊕ b ⊕ (c ⊕ d) ≡ product 2 a ⊕ product 3 b ⊕ c ⊕ d
  row_0 = sum ∙ sym (xor_assoc (product 2 a ⊕ product 3 b) c d)

  pub row_1 : times_x (a ⊕ b) ⊕ b ⊕ (c ⊕ d) ≡ d ⊕ product 2 a ⊕ product 3 b ⊕ c
  row_1 =
      sum ∙ ap (bit_xor (product 2 a ⊕ product 3 b)) (xor_comm c d) ∙ sym (xor_assoc (product 2 a ⊕ product 3 b) d c)
      ∙ ap (λ (n : ℕ). n ⊕ c) (xor_comm (product 2 a ⊕ product 3 b) d ∙ sym (xor_assoc d (product 2 a) (product 3 b)))

  pub row_2 : times_x (a ⊕ b) ⊕ b ⊕ (c ⊕ d) ≡ c ⊕ d ⊕ product 2 a ⊕ product 3 b
  row_2 = sum ∙ xor_comm (product 2 a ⊕ product 3 b) (c ⊕ d) ∙ sym (xor_assoc (c ⊕ d) (product 2 a) (product 3 b))

  pub row_3 : times_x (a ⊕ b) ⊕ b ⊕ (c ⊕ d) ≡ product 3 b ⊕ c ⊕ d ⊕ product 2 a
  row_3 =
      sum ∙ xor_assoc (product 2 a) (product 3 b) (c ⊕ d) ∙ xor_comm (product 2 a) (product 3 b ⊕ (c ⊕ d))
      ∙ ap (λ (n : ℕ). n ⊕ product 2 a) (sym (xor_assoc (product 3 b) c d))
