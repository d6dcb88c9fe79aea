-- Bits of bytes and of registers.
use Rattle.std.proofs.Common.{◌≡◌, ℕ, zero, suc, ◌/◌, ◌%◌, ◌^◌, ◌<◌, List, [], get_or, replicate, refl, sym, ap, ap₂, ◌∙◌, arith}
use Rattle.std.specs.Prelude.{map, bit_xor, bit_and}
use Rattle.std.specs.List.{range_with_len}
use Rattle.std.specs.Simd.Lanes.{zip2}
use Rattle.std.proofs.lemmas.List.FromFn.{get_or-map-range_with_len}
use Rattle.std.proofs.lemmas.Nat.{xor_shr, xor_mod, and_shr, and_mod}
use Rattle.std.proofs.lemmas.Simd.{length-zip2, get_or-zip2, get_or-replicate}
use Rattle.std.proofs.Math.Nat.{zero-div}
use Rattle.aes_core.specs.Bits.{bit_of}
use Rattle.aes_core.specs.Aes.{s_box, affine, inverse, product_of_squares, product, product_of_bits, times_x, rotated_left}
use Rattle.aes_lanes.specs.Circuit.{lanes, bits, outputs_of}
use Rattle.aes_lanes.specs.SBox.{s_box_bits}
use Rattle.aes_lanes.specs.Sliced.{IsBit, bits_of}
use Rattle.aes_lanes.proofs.Lift.{Keeps}

pub bit_of-xor : (a b i : ℕ) → bit_of (bit_xor a b) i ≡ bit_xor (bit_of a i) (bit_of b i)
bit_of-xor a b i = ap (λ (n : ℕ). n % 2 ^ 1) (xor_shr a b i) ∙ xor_mod (a / 2 ^ i) (b / 2 ^ i) 1

pub bit_of-and : (a b i : ℕ) → bit_of (bit_and a b) i ≡ bit_and (bit_of a i) (bit_of b i)
bit_of-and a b i = ap (λ (n : ℕ). n % 2 ^ 1) (and_shr a b i) ∙ and_mod (a / 2 ^ i) (b / 2 ^ i) 1

bit_of-255 : (i : ℕ) → i < 8 → bit_of 255 i ≡ 1
bit_of-255 zero h = refl
bit_of-255 (suc zero) h = refl
bit_of-255 (suc (suc zero)) h = refl
bit_of-255 (suc (suc (suc zero))) h = refl
bit_of-255 (suc (suc (suc (suc zero)))) h = refl
bit_of-255 (suc (suc (suc (suc (suc zero))))) h = refl
bit_of-255 (suc (suc (suc (suc (suc (suc zero)))))) h = refl
bit_of-255 (suc (suc (suc (suc (suc (suc (suc zero))))))) h = refl
bit_of-255 (suc (suc (suc (suc (suc (suc (suc (suc i)))))))) h = absurd (omega (arith, h))

pub IsBit-ones : (lane place : ℕ) → lane < 16 → place < 8 → IsBit lane place (replicate 16 255) 1
IsBit-ones lane place l p = record { long = refl; here = ap (λ (n : ℕ). bit_of n place) (get_or-replicate 16 lane 255 0 l) ∙ bit_of-255 place p }

pub IsBit-none : (lane place : ℕ) → lane < 16 → IsBit lane place (replicate 16 0) 0
IsBit-none lane place l = record {
  long = refl;
  here = ap (λ (n : ℕ). bit_of n place) (get_or-replicate 16 lane 0 0 l) ∙ ap (λ (n : ℕ). n % 2) (zero-div (2 ^ place));
}

pub IsBit-xor : (lane place : ℕ) → lane < 16 → (r s : List ℕ) (a b : ℕ) → IsBit lane place r a → IsBit lane place s b
    → IsBit lane place (zip2 bit_xor r s) (bit_xor a b)
IsBit-xor lane place l r s a b h k = record {
  long = length-zip2 bit_xor r s (h.long ∙ sym k.long) ∙ h.long;
  here =
      ap (λ (n : ℕ). bit_of n place) (get_or-zip2 bit_xor r s lane 0 0 0 (omega (arith, h.long, l)) (omega (arith, k.long, l)))
      ∙ bit_of-xor (get_or r lane 0) (get_or s lane 0) place ∙ ap₂ bit_xor h.here k.here;
}

pub IsBit-and : (lane place : ℕ) → lane < 16 → (r s : List ℕ) (a b : ℕ) → IsBit lane place r a → IsBit lane place s b
    → IsBit lane place (zip2 bit_and r s) (bit_and a b)
IsBit-and lane place l r s a b h k = record {
  long = length-zip2 bit_and r s (h.long ∙ sym k.long) ∙ h.long;
  here =
      ap (λ (n : ℕ). bit_of n place) (get_or-zip2 bit_and r s lane 0 0 0 (omega (arith, h.long, l)) (omega (arith, k.long, l)))
      ∙ bit_of-and (get_or r lane 0) (get_or s lane 0) place ∙ ap₂ bit_and h.here k.here;
}

pub IsBit-kept : (lane place : ℕ) → lane < 16 → Keeps (IsBit lane place) lanes bits
IsBit-kept lane place l = record {
  xor = λ r s a b h k. IsBit-xor lane place l r s a b h k;
  «and» = λ r s a b h k. IsBit-and lane place l r s a b h k;
  none = IsBit-none lane place l;
}

-- the circuit over the bits of each byte, computed
substitutes_computed : map (λ x. s_box_bits bits 1 (bits_of x)) (range_with_len 0 256) ≡ map (λ x. bits_of (s_box x)) (range_with_len 0 256)
unfolding outputs_of s_box affine inverse product_of_squares product product_of_bits times_x rotated_left
substitutes_computed = refl

pub bits_of-s_box : (x : ℕ) → x < 256 → s_box_bits bits 1 (bits_of x) ≡ bits_of (s_box x)
bits_of-s_box x h =
    sym (get_or-map-range_with_len (λ n. s_box_bits bits 1 (bits_of n)) 0 256 x x [] h (omega arith))
    ∙ ap (λ (rows : List (List ℕ)). get_or rows x []) substitutes_computed
    ∙ get_or-map-range_with_len (λ n. bits_of (s_box n)) 0 256 x x [] h (omega arith)
