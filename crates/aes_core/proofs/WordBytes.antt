-- The bytes of an exclusive or of words.
use Rattle.std.proofs.Common.{◌≡◌, ℕ, zero, suc, List, [], ◌∷◌, ◌++◌, refl, ap, ◌∙◌, ◌/◌, ◌%◌, ◌^◌, ◌<◌, get_or, arith}
use Rattle.std.specs.Int.{to_be_bytes, from_be_bytes, w32}
use Rattle.std.proofs.lemmas.Nat.{xor_shr, xor_mod, be_bytes_4}
use Rattle.aes_core.specs.Aes.{◌⊕◌, xor_bytes}

pub cells : (a b c d a' b' c' d' : ℕ) → a ≡ a' → b ≡ b' → c ≡ c' → d ≡ d'
    → ◌≡◌ {A = List ℕ} (a ∷ b ∷ c ∷ d ∷ []) (a' ∷ b' ∷ c' ∷ d' ∷ [])
cells a b c d a' b' c' d' e f g h = cc

pub to_be_bytes-⊕ : (x y : ℕ) → to_be_bytes w32 (x ⊕ y) ≡ xor_bytes (to_be_bytes w32 x) (to_be_bytes w32 y)
to_be_bytes-⊕ x y =
    cells _ _ _ _ _ _ _ _ (byte 24) (byte 16) (byte 8) (xor_mod x y 8)
  where
    byte : (k : ℕ) → (x ⊕ y) / 2 ^ k % 2 ^ 8 ≡ (x / 2 ^ k % 2 ^ 8) ⊕ (y / 2 ^ k % 2 ^ 8)
    byte k = ap (λ (n : ℕ). n % 2 ^ 8) (xor_shr x y k) ∙ xor_mod (x / 2 ^ k) (y / 2 ^ k) 8

-- the word of four bytes has these bytes
pub to_be_bytes-from : (a b c d n : ℕ) → a < 256 → b < 256 → c < 256 → d < 256
    → n ≡ from_be_bytes w32 (a ∷ b ∷ c ∷ d ∷ []) → to_be_bytes w32 n ≡ a ∷ b ∷ c ∷ d ∷ []
to_be_bytes-from a b c d n p q r s = be_bytes_4 (a ∷ b ∷ c ∷ d ∷ []) n refl within
  where
    within : (i : ℕ) → get_or (a ∷ b ∷ c ∷ d ∷ []) i 0 < 256
    within zero = p
    within (suc zero) = q
    within (suc (suc zero)) = r
    within (suc (suc (suc zero))) = s
    within (suc (suc (suc (suc i)))) = omega arith

pub four : (a b c d a' b' c' d' : List ℕ) → a ≡ a' → b ≡ b' → c ≡ c' → d ≡ d'
    → a ++ (b ++ (c ++ d)) ≡ a' ++ (b' ++ (c' ++ d'))
four a b c d a' b' c' d' e f g h = cc
