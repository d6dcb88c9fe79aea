-- The layers of the transposition.
use Rattle.std.proofs.Common.{◌≡◌, ℕ, zero, suc, ◌+◌, ◌-◌, ◌*◌, ◌/◌, ◌%◌, ◌^◌, ◌<◌, List, [], ◌∷◌, length, get_or, replicate, refl, sym, ap, ap₂, ◌∙◌, arith, subst, w8}
use Rattle.std.specs.Prelude.{map, bit_xor, bit_and}
use Rattle.std.specs.List.{range_with_len}
use Rattle.std.specs.Simd.Lanes.{zip2, Each1}
use Rattle.std.proofs.lemmas.List.FromFn.{get_or-map-range_with_len}
use Rattle.std.proofs.lemmas.Simd.{length-zip2, get_or-zip2, get_or-replicate, Each1-get_or}
use lib.Bits.{xor_zero_l, xor_zero_r}
use mir.Val.{Fits}
use Rattle.aes_core.specs.Bits.{bit_of}
use Rattle.aes_lanes.specs.Transposed.{IsExchanged}
use Rattle.aes_lanes.proofs.Bits.{bit_of-xor}

-- layer t exchanges at this distance, under these masks
abbrev pub distance : ℕ → ℕ
distance t = get_or (1 ∷ 2 ∷ 4 ∷ []) t 0

abbrev pub even : ℕ → ℕ
even t = get_or (0x55 ∷ 0x33 ∷ 0x0f ∷ []) t 0

abbrev pub odd : ℕ → ℕ
odd t = get_or (0xaa ∷ 0xcc ∷ 0xf0 ∷ []) t 0

abbrev chosen : ℕ → List ℕ → List ℕ → List ℕ
chosen zero xs ys = xs
chosen (suc n) xs ys = ys

-- bits of a byte under the masks, and what they are
abbrev masked : ℕ → ℕ → ℕ → List ℕ
masked t x p =
    bit_of (bit_and x (even t)) p ∷ bit_of (bit_and x (even t) * 2 ^ distance t % 2 ^ 8) p
    ∷ bit_of (bit_and x (odd t) / 2 ^ distance t) p ∷ bit_of (bit_and x (odd t)) p ∷ []

abbrev digit : ℕ → ℕ → ℕ
digit t p = p / distance t % 2

abbrev sorted : ℕ → ℕ → ℕ → List ℕ
sorted t x p =
    chosen (digit t p) (bit_of x p ∷ 0 ∷ bit_of x (p + distance t) ∷ 0 ∷ [])
    (0 ∷ bit_of x (p - distance t) ∷ 0 ∷ bit_of x p ∷ [])

computed : map (λ n. masked (n / 2048) (n / 8 % 256) (n % 8)) (range_with_len 0 6144) ≡ map (λ n. sorted (n / 2048) (n / 8 % 256) (n % 8)) (range_with_len 0 6144)
computed = refl

masked-sorted : (t x p : ℕ) → t < 3 → x < 256 → p < 8 → masked t x p ≡ sorted t x p
masked-sorted t x p ht hx hp =
    let n = 2048 * t + 8 * x + p in
    let is_t : n / 2048 ≡ t = omega arith in
    let is_x : n / 8 % 256 ≡ x = omega arith in
    let is_p : n % 8 ≡ p = omega arith in
    let left = get_or-map-range_with_len (λ k. masked (k / 2048) (k / 8 % 256) (k % 8)) 0 6144 n n [] (omega arith) (omega arith) in
    let right = get_or-map-range_with_len (λ k. sorted (k / 2048) (k / 8 % 256) (k % 8)) 0 6144 n n [] (omega arith) (omega arith) in
    subst (λ (a : ℕ). masked a x p ≡ sorted a x p) is_t
    (subst (λ (b : ℕ). masked (n / 2048) b p ≡ sorted (n / 2048) b p) is_x
    (subst (λ (c : ℕ). masked (n / 2048) (n / 8 % 256) c ≡ sorted (n / 2048) (n / 8 % 256) c) is_p
    (sym left ∙ ap (λ (rows : List (List ℕ)). get_or rows n []) computed ∙ right)))

-- entry k of what is known of a place
entry : (t x p d k : ℕ) → t < 3 → x < 256 → p < 8 → digit t p ≡ d
    → get_or (masked t x p) k 0 ≡ get_or (chosen d (bit_of x p ∷ 0 ∷ bit_of x (p + distance t) ∷ 0 ∷ []) (0 ∷ bit_of x (p - distance t) ∷ 0 ∷ bit_of x p ∷ [])) k 0
entry t x p d k ht hx hp e =
    ap (λ (xs : List ℕ). get_or xs k 0)
    (masked-sorted t x p ht hx hp
    ∙ ap (λ (m : ℕ). chosen m (bit_of x p ∷ 0 ∷ bit_of x (p + distance t) ∷ 0 ∷ []) (0 ∷ bit_of x (p - distance t) ∷ 0 ∷ bit_of x p ∷ [])) e)

pub record IsVector (v : List ℕ) : Type 0 where
  pub long : length v ≡ 16
  pub fits : Each1 (Fits w8) v

small : (v : List ℕ) (lane : ℕ) → lane < 16 → IsVector v → get_or v lane 0 < 256
small v lane l h = (Each1-get_or (Fits w8) v lane 0 (omega (arith, h.long, l)) h.fits).fits

splat-long : (f : ℕ → ℕ → ℕ) (v : List ℕ) (k : ℕ) → length v ≡ 16 → length (zip2 f v (replicate 16 k)) ≡ 16
splat-long f v k h = length-zip2 f v (replicate 16 k) h ∙ h

splat-at : (f : ℕ → ℕ → ℕ) (v : List ℕ) (k lane : ℕ) → length v ≡ 16 → lane < 16 → get_or (zip2 f v (replicate 16 k)) lane 0 ≡ f (get_or v lane 0) k
splat-at f v k lane h l = get_or-zip2 f v (replicate 16 k) lane 0 0 0 (omega (arith, h, l)) l ∙ ap (f (get_or v lane 0)) (get_or-replicate 16 lane k 0 l)

abbrev pub up : ℕ → ℕ → ℕ
up a b = a * 2 ^ b % 2 ^ 8

abbrev pub down : ℕ → ℕ → ℕ
down a b = a / 2 ^ b

abbrev pub new_low : ℕ → List ℕ → List ℕ → List ℕ
new_low t low high =
    zip2 bit_xor (zip2 bit_and low (replicate 16 (even t))) (zip2 up (zip2 bit_and high (replicate 16 (even t))) (replicate 16 (distance t)))

abbrev pub new_high : ℕ → List ℕ → List ℕ → List ℕ
new_high t low high =
    zip2 bit_xor (zip2 down (zip2 bit_and low (replicate 16 (odd t))) (replicate 16 (distance t))) (zip2 bit_and high (replicate 16 (odd t)))

module _ (t : ℕ) (ht : t < 3) (low high : List ℕ) (first : IsVector low) (second : IsVector high) where
  low-long : length (new_low t low high) ≡ 16
  low-long =
      length-zip2 bit_xor (zip2 bit_and low (replicate 16 (even t))) (zip2 up (zip2 bit_and high (replicate 16 (even t))) (replicate 16 (distance t)))
      (splat-long bit_and low (even t) first.long ∙ sym (splat-long up _ (distance t) (splat-long bit_and high (even t) second.long)))
      ∙ splat-long bit_and low (even t) first.long

  high-long : length (new_high t low high) ≡ 16
  high-long =
      length-zip2 bit_xor (zip2 down (zip2 bit_and low (replicate 16 (odd t))) (replicate 16 (distance t))) (zip2 bit_and high (replicate 16 (odd t)))
      (splat-long down _ (distance t) (splat-long bit_and low (odd t) first.long) ∙ sym (splat-long bit_and high (odd t) second.long))
      ∙ splat-long down _ (distance t) (splat-long bit_and low (odd t) first.long)

  low-bit : (lane p : ℕ) → lane < 16 → bit_of (get_or (new_low t low high) lane 0) p
      ≡ bit_xor (get_or (masked t (get_or low lane 0) p) 0 0) (get_or (masked t (get_or high lane 0) p) 1 0)
  low-bit lane p l =
      let one = splat-long bit_and low (even t) first.long in
      let inner = splat-long bit_and high (even t) second.long in
      let two = splat-long up (zip2 bit_and high (replicate 16 (even t))) (distance t) inner in
      ap (λ (n : ℕ). bit_of n p)
      (get_or-zip2 bit_xor (zip2 bit_and low (replicate 16 (even t))) (zip2 up (zip2 bit_and high (replicate 16 (even t))) (replicate 16 (distance t))) lane 0 0 0 (omega (arith, one, l)) (omega (arith, two, l))
      ∙ ap₂ bit_xor (splat-at bit_and low (even t) lane first.long l)
      (splat-at up (zip2 bit_and high (replicate 16 (even t))) (distance t) lane inner l ∙ ap (λ (n : ℕ). up n (distance t)) (splat-at bit_and high (even t) lane second.long l)))
      ∙ bit_of-xor (bit_and (get_or low lane 0) (even t)) (up (bit_and (get_or high lane 0) (even t)) (distance t)) p

  high-bit : (lane p : ℕ) → lane < 16 → bit_of (get_or (new_high t low high) lane 0) p
      ≡ bit_xor (get_or (masked t (get_or low lane 0) p) 2 0) (get_or (masked t (get_or high lane 0) p) 3 0)
  high-bit lane p l =
      let inner = splat-long bit_and low (odd t) first.long in
      let one = splat-long down (zip2 bit_and low (replicate 16 (odd t))) (distance t) inner in
      let two = splat-long bit_and high (odd t) second.long in
      ap (λ (n : ℕ). bit_of n p)
      (get_or-zip2 bit_xor (zip2 down (zip2 bit_and low (replicate 16 (odd t))) (replicate 16 (distance t))) (zip2 bit_and high (replicate 16 (odd t))) lane 0 0 0 (omega (arith, one, l)) (omega (arith, two, l))
      ∙ ap₂ bit_xor
      (splat-at down (zip2 bit_and low (replicate 16 (odd t))) (distance t) lane inner l ∙ ap (λ (n : ℕ). down n (distance t)) (splat-at bit_and low (odd t) lane first.long l))
      (splat-at bit_and high (odd t) lane second.long l))
      ∙ bit_of-xor (down (bit_and (get_or low lane 0) (odd t)) (distance t)) (bit_and (get_or high lane 0) (odd t)) p

  pub exchanged : IsExchanged (distance t) low high (new_low t low high) (new_high t low high)
  exchanged = record {
    low_stays = λ lane p bit l hp e h. record {
      long = low-long;
      here =
          low-bit lane p l
          ∙ ap₂ bit_xor (entry t (get_or low lane 0) p 0 0 ht (small low lane l first) hp e) (entry t (get_or high lane 0) p 0 1 ht (small high lane l second) hp e)
          ∙ xor_zero_r (bit_of (get_or low lane 0) p) ∙ h.here;
    };
    high_comes = λ lane p bit l hp e h. record {
      long = low-long;
      here =
          low-bit lane p l
          ∙ ap₂ bit_xor (entry t (get_or low lane 0) p 1 0 ht (small low lane l first) hp e) (entry t (get_or high lane 0) p 1 1 ht (small high lane l second) hp e)
          ∙ xor_zero_l (bit_of (get_or high lane 0) (p - distance t)) ∙ h.here;
    };
    low_comes = λ lane p bit l hp e h. record {
      long = high-long;
      here =
          high-bit lane p l
          ∙ ap₂ bit_xor (entry t (get_or low lane 0) p 0 2 ht (small low lane l first) hp e) (entry t (get_or high lane 0) p 0 3 ht (small high lane l second) hp e)
          ∙ xor_zero_r (bit_of (get_or low lane 0) (p + distance t)) ∙ h.here;
    };
    high_stays = λ lane p bit l hp e h. record {
      long = high-long;
      here =
          high-bit lane p l
          ∙ ap₂ bit_xor (entry t (get_or low lane 0) p 1 2 ht (small low lane l first) hp e) (entry t (get_or high lane 0) p 1 3 ht (small high lane l second) hp e)
          ∙ xor_zero_l (bit_of (get_or high lane 0) p) ∙ h.here;
    };
  }
