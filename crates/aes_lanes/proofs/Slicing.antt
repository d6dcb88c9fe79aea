-- Blocks into sliced registers, and back.
use Rattle.std.proofs.Common.{◌≡◌, ℕ, zero, suc, ◌+◌, ◌*◌, ◌<◌, List, [], ◌∷◌, length, get_or, refl, sym, ap, ◌∙◌, arith, subst, w8}
use Rattle.std.specs.Prelude.{map, bit_xor}
use Rattle.std.specs.List.{range_with_len}
use Rattle.std.specs.Int.{to_be_bytes, w128}
use Rattle.std.specs.Simd.Lanes.{zip2}
use Rattle.std.proofs.lemmas.List.{ext_get_or}
use Rattle.std.proofs.lemmas.Simd.{Each1-get_or}
use mir.Val.{Fits}
use Rattle.aes_core.specs.Bits.{bit_of}
use Rattle.aes_core.specs.Aes.{◌⊕◌, xor_bytes}
use Rattle.aes_lanes.specs.declared.registers.Registers.{Registers}
use Rattle.aes_lanes.specs.Sliced.{IsBit, Related, HasByte, HasBlock, HasBits, register, bits_of}
use Rattle.aes_lanes.proofs.XorSums.{of_each_byte}
use Rattle.aes_lanes.proofs.Bytes.{eight}
use Rattle.aes_lanes.proofs.Exchange.{IsVector}

-- what the transposition gives
pub record IsTransposed (q r : Registers) : Type 0 where
  pub turned : (lane i n bit : ℕ) → lane < 16 → i < 8 → n < 8 → IsBit lane i (register q n) bit → IsBit lane n (register r i) bit

pub register-same : (v : List ℕ) (n : ℕ) → n < 8
    → register (record { bit0 = v; bit1 = v; bit2 = v; bit3 = v; bit4 = v; bit5 = v; bit6 = v; bit7 = v }) n ≡ v
register-same v zero h = refl
register-same v (suc zero) h = refl
register-same v (suc (suc zero)) h = refl
register-same v (suc (suc (suc zero))) h = refl
register-same v (suc (suc (suc (suc zero)))) h = refl
register-same v (suc (suc (suc (suc (suc zero))))) h = refl
register-same v (suc (suc (suc (suc (suc (suc zero)))))) h = refl
register-same v (suc (suc (suc (suc (suc (suc (suc zero))))))) h = refl
register-same v (suc (suc (suc (suc (suc (suc (suc (suc n)))))))) h = absurd (omega (arith, h))

pub register-each : (q : Registers) (f : ℕ → List ℕ) → q.bit0 ≡ f 0 → q.bit1 ≡ f 1 → q.bit2 ≡ f 2 → q.bit3 ≡ f 3
    → q.bit4 ≡ f 4 → q.bit5 ≡ f 5 → q.bit6 ≡ f 6 → q.bit7 ≡ f 7 → (n : ℕ) → n < 8 → register q n ≡ f n
register-each q f e0 e1 e2 e3 e4 e5 e6 e7 zero h = e0
register-each q f e0 e1 e2 e3 e4 e5 e6 e7 (suc zero) h = e1
register-each q f e0 e1 e2 e3 e4 e5 e6 e7 (suc (suc zero)) h = e2
register-each q f e0 e1 e2 e3 e4 e5 e6 e7 (suc (suc (suc zero))) h = e3
register-each q f e0 e1 e2 e3 e4 e5 e6 e7 (suc (suc (suc (suc zero)))) h = e4
register-each q f e0 e1 e2 e3 e4 e5 e6 e7 (suc (suc (suc (suc (suc zero))))) h = e5
register-each q f e0 e1 e2 e3 e4 e5 e6 e7 (suc (suc (suc (suc (suc (suc zero)))))) h = e6
register-each q f e0 e1 e2 e3 e4 e5 e6 e7 (suc (suc (suc (suc (suc (suc (suc zero))))))) h = e7
register-each q f e0 e1 e2 e3 e4 e5 e6 e7 (suc (suc (suc (suc (suc (suc (suc (suc n)))))))) h = absurd (omega (arith, h))

pub HasBlock-sliced : (q r : Registers) → IsTransposed q r → (place : ℕ) → place < 8 → (block : List ℕ) → register q place ≡ block
    → length block ≡ 16 → ((n : ℕ) → n < 16 → get_or block n 0 < 256) → HasBlock r place block
HasBlock-sliced q r move place p block is long small = record { long = long; bytes = byte }
  where
    bit : (lane i : ℕ) → lane < 16 → i < 8 → IsBit lane place (register r i) (bit_of (get_or block lane 0) i)
    bit lane i l h =
        move.turned lane i place (bit_of (get_or block lane 0) i) l h p
        (record { long = ap length is ∙ long; here = ap (λ (v : List ℕ). bit_of (get_or v lane 0) i) is })

    byte : (lane : ℕ) → lane < 16 → HasByte r lane place (get_or block lane 0)
    byte lane l = record {
      small = small lane l;
      bits = eight lane place (get_or block lane 0) l r
          (bit lane 0 l (omega arith)) (bit lane 1 l (omega arith)) (bit lane 2 l (omega arith)) (bit lane 3 l (omega arith))
          (bit lane 4 l (omega arith)) (bit lane 5 l (omega arith)) (bit lane 6 l (omega arith)) (bit lane 7 l (omega arith));
    }

get_or-bits_of : (x i : ℕ) → i < 8 → get_or (bits_of x) i 0 ≡ bit_of x i
get_or-bits_of x zero h = refl
get_or-bits_of x (suc zero) h = refl
get_or-bits_of x (suc (suc zero)) h = refl
get_or-bits_of x (suc (suc (suc zero))) h = refl
get_or-bits_of x (suc (suc (suc (suc zero)))) h = refl
get_or-bits_of x (suc (suc (suc (suc (suc zero))))) h = refl
get_or-bits_of x (suc (suc (suc (suc (suc (suc zero)))))) h = refl
get_or-bits_of x (suc (suc (suc (suc (suc (suc (suc zero))))))) h = refl
get_or-bits_of x (suc (suc (suc (suc (suc (suc (suc (suc i)))))))) h = absurd (omega (arith, h))

pub HasBits-unsliced : (q r : Registers) → IsTransposed q r → (place : ℕ) → place < 8 → (block : List ℕ) → HasBlock q place block
    → HasBits (register r place) block
unfolding Related
HasBits-unsliced q r move place p block h = record {
  long = h.long;
  small = λ lane l. (h.bytes lane l).small;
  here = λ lane i l hi.
      move.turned lane place i (bit_of (get_or block lane 0) i) l p hi
      (subst (IsBit lane place (register q i)) (get_or-bits_of (get_or block lane 0) i hi) ((h.bytes lane l).bits i));
}

-- ---- a register is the block whose bits it has

abbrev number_of : List ℕ → ℕ
number_of [] = 0
number_of (b ∷ bs) = b + 2 * number_of bs

number_computed : map (λ x. number_of (bits_of x)) (range_with_len 0 256) ≡ map (λ x. x) (range_with_len 0 256)
number_computed = refl

same_byte : (x y : ℕ) → x < 256 → y < 256 → ((i : ℕ) → i < 8 → bit_of x i ≡ bit_of y i) → x ≡ y
same_byte x y hx hy same =
    let is = of_each_byte (λ (n : ℕ). number_of (bits_of n)) (λ (n : ℕ). n) 0 number_computed in
    sym (is x hx) ∙ ap number_of (cells _ _ _ _ _ _ _ _ _ _ _ _ _ _ _ _ (same 0 (omega arith)) (same 1 (omega arith)) (same 2 (omega arith)) (same 3 (omega arith)) (same 4 (omega arith)) (same 5 (omega arith)) (same 6 (omega arith)) (same 7 (omega arith)))
    ∙ is y hy
  where
    cells : (a b c d e f g h a' b' c' d' e' f' g' h' : ℕ) → a ≡ a' → b ≡ b' → c ≡ c' → d ≡ d' → e ≡ e' → f ≡ f' → g ≡ g' → h ≡ h'
        → ◌≡◌ {A = List ℕ} (a ∷ b ∷ c ∷ d ∷ e ∷ f ∷ g ∷ h ∷ []) (a' ∷ b' ∷ c' ∷ d' ∷ e' ∷ f' ∷ g' ∷ h' ∷ [])
    cells a b c d e f g h a' b' c' d' e' f' g' h' p0 p1 p2 p3 p4 p5 p6 p7 = cc

pub block_of_bits : (v block : List ℕ) → IsVector v → HasBits v block → v ≡ block
block_of_bits v block vector h =
    ext_get_or 0 v block (vector.long ∙ sym h.long) (λ lane l.
    let lt : lane < 16 = omega (arith, vector.long, l) in
    let fits : get_or v lane 0 < 256 = (Each1-get_or (Fits w8) v lane 0 l vector.fits).fits in
    same_byte (get_or v lane 0) (get_or block lane 0) fits (h.small lane lt) (λ i hi. (h.here lane i lt hi).here))

pub xor_bytes-zip2 : (xs ys : List ℕ) → zip2 bit_xor xs ys ≡ xor_bytes xs ys
xor_bytes-zip2 [] ys = refl
xor_bytes-zip2 (x ∷ xs) [] = refl
xor_bytes-zip2 (x ∷ xs) (y ∷ ys) = ap (λ (zs : List ℕ). x ⊕ y ∷ zs) (xor_bytes-zip2 xs ys)

-- ---- the bytes of a number

pub be_bytes-small : (n k : ℕ) → k < 16 → get_or (to_be_bytes w128 n) k 0 < 256
be_bytes-small n zero h = omega arith
be_bytes-small n (suc zero) h = omega arith
be_bytes-small n (suc (suc zero)) h = omega arith
be_bytes-small n (suc (suc (suc zero))) h = omega arith
be_bytes-small n (suc (suc (suc (suc zero)))) h = omega arith
be_bytes-small n (suc (suc (suc (suc (suc zero))))) h = omega arith
be_bytes-small n (suc (suc (suc (suc (suc (suc zero)))))) h = omega arith
be_bytes-small n (suc (suc (suc (suc (suc (suc (suc zero))))))) h = omega arith
be_bytes-small n (suc (suc (suc (suc (suc (suc (suc (suc zero)))))))) h = omega arith
be_bytes-small n (suc (suc (suc (suc (suc (suc (suc (suc (suc zero))))))))) h = omega arith
be_bytes-small n (suc (suc (suc (suc (suc (suc (suc (suc (suc (suc zero)))))))))) h = omega arith
be_bytes-small n (suc (suc (suc (suc (suc (suc (suc (suc (suc (suc (suc zero))))))))))) h = omega arith
be_bytes-small n (suc (suc (suc (suc (suc (suc (suc (suc (suc (suc (suc (suc zero)))))))))))) h = omega arith
be_bytes-small n (suc (suc (suc (suc (suc (suc (suc (suc (suc (suc (suc (suc (suc zero))))))))))))) h = omega arith
be_bytes-small n (suc (suc (suc (suc (suc (suc (suc (suc (suc (suc (suc (suc (suc (suc zero)))))))))))))) h = omega arith
be_bytes-small n (suc (suc (suc (suc (suc (suc (suc (suc (suc (suc (suc (suc (suc (suc (suc zero))))))))))))))) h = omega arith
be_bytes-small n (suc (suc (suc (suc (suc (suc (suc (suc (suc (suc (suc (suc (suc (suc (suc (suc k)))))))))))))))) h = absurd (omega (arith, h))
