-- Bytes and blocks of sliced registers, step by step.
use Rattle.std.proofs.Common.{◌≡◌, ℕ, zero, suc, ◌+◌, ◌*◌, ◌/◌, ◌%◌, ◌<◌, List, [], ◌∷◌, ◌++◌, length, get_or, replicate, refl, sym, ap, ◌∙◌, arith, subst}
use Rattle.std.specs.Prelude.{map, bit_xor, nat_lt, true}
use Rattle.std.specs.List.{range_with_len}
use Rattle.std.specs.Simd.Lanes.{zip2, pick_l}
use Rattle.std.proofs.lemmas.List.{length-map, get_or-map, get_or_append_left}
use Rattle.std.proofs.lemmas.Bool.{ltb-true}
use Rattle.std.proofs.lemmas.List.FromFn.{get_or-map-range_with_len}
use Rattle.std.proofs.lemmas.Nat.{xor_of_8}
use Rattle.aes_core.specs.Bits.{bit_of}
use Rattle.aes_core.specs.Aes.{◌⊕◌, s_box, affine, inverse, product_of_squares, product, product_of_bits, times_x, rotated_left, state_of, byte_at, sub_bytes, shift_rows, mix_columns, mixed_column, add_round_key}
use Rattle.aes_lanes.specs.declared.registers.Registers.{Registers}
use Rattle.aes_lanes.specs.Circuit.{Part, lanes, bits, outputs_of}
use Rattle.aes_lanes.specs.Circuit.Gate.{Xor}
use Rattle.aes_lanes.specs.SBox.{s_box_bits}
use Rattle.aes_lanes.specs.Sliced.{IsBit, Related, HasByte, HasBlock, registers_of, bits_of}
use Rattle.aes_lanes.proofs.Lift.{Related-part, Related-s_box_bits, Related-[], Related-∷}
use Rattle.aes_lanes.proofs.Bits.{bit_of-xor, IsBit-xor, IsBit-none, IsBit-ones, IsBit-kept, bits_of-s_box}
use Rattle.aes_lanes.proofs.XorBytes.{length-xor_bytes, get_or-xor_bytes}
use Rattle.aes_lanes.proofs.XorSums.{of_each_byte, row_0, row_1, row_2, row_3}

-- eight registers, one by one
pub eight : (lane place byte : ℕ) → lane < 16 → (q : Registers)
    → IsBit lane place q.bit0 (bit_of byte 0) → IsBit lane place q.bit1 (bit_of byte 1) → IsBit lane place q.bit2 (bit_of byte 2) → IsBit lane place q.bit3 (bit_of byte 3)
    → IsBit lane place q.bit4 (bit_of byte 4) → IsBit lane place q.bit5 (bit_of byte 5) → IsBit lane place q.bit6 (bit_of byte 6) → IsBit lane place q.bit7 (bit_of byte 7)
    → Related (IsBit lane place) (replicate 16 0) 0 (registers_of q) (bits_of byte)
eight lane place byte l q b0 b1 b2 b3 b4 b5 b6 b7 =
    more _ _ _ _ b0 (more _ _ _ _ b1 (more _ _ _ _ b2 (more _ _ _ _ b3
    (more _ _ _ _ b4 (more _ _ _ _ b5 (more _ _ _ _ b6 (more _ _ _ _ b7
    (Related-[] (IsBit lane place) (replicate 16 0) 0 (IsBit-none lane place l)))))))))
  where
    more : (x : List ℕ) (y : ℕ) (xs : List (List ℕ)) (ys : List ℕ) → IsBit lane place x y → Related (IsBit lane place) (replicate 16 0) 0 xs ys
        → Related (IsBit lane place) (replicate 16 0) 0 (x ∷ xs) (y ∷ ys)
    more = Related-∷ (IsBit lane place) (replicate 16 0) 0

-- ---- the exclusive or

xor_bit : (lane place : ℕ) → lane < 16 → (r s : List ℕ) (x y i : ℕ) → IsBit lane place r (bit_of x i) → IsBit lane place s (bit_of y i)
    → IsBit lane place (zip2 bit_xor r s) (bit_of (x ⊕ y) i)
xor_bit lane place l r s x y i h k =
    subst (IsBit lane place (zip2 bit_xor r s)) (sym (bit_of-xor x y i)) (IsBit-xor lane place l r s (bit_of x i) (bit_of y i) h k)

pub HasByte-xor : (q r : Registers) (lane place x y : ℕ) → lane < 16 → HasByte q lane place x → HasByte r lane place y
    → HasByte (record {
      bit0 = zip2 bit_xor q.bit0 r.bit0;
      bit1 = zip2 bit_xor q.bit1 r.bit1;
      bit2 = zip2 bit_xor q.bit2 r.bit2;
      bit3 = zip2 bit_xor q.bit3 r.bit3;
      bit4 = zip2 bit_xor q.bit4 r.bit4;
      bit5 = zip2 bit_xor q.bit5 r.bit5;
      bit6 = zip2 bit_xor q.bit6 r.bit6;
      bit7 = zip2 bit_xor q.bit7 r.bit7;
    }) lane place (x ⊕ y)
unfolding Related
HasByte-xor q r lane place x y l h k = record {
  small = xor_of_8 x y h.small k.small;
  bits = eight lane place (x ⊕ y) l _
      (xor_bit lane place l q.bit0 r.bit0 x y 0 (h.bits 0) (k.bits 0))
      (xor_bit lane place l q.bit1 r.bit1 x y 1 (h.bits 1) (k.bits 1))
      (xor_bit lane place l q.bit2 r.bit2 x y 2 (h.bits 2) (k.bits 2))
      (xor_bit lane place l q.bit3 r.bit3 x y 3 (h.bits 3) (k.bits 3))
      (xor_bit lane place l q.bit4 r.bit4 x y 4 (h.bits 4) (k.bits 4))
      (xor_bit lane place l q.bit5 r.bit5 x y 5 (h.bits 5) (k.bits 5))
      (xor_bit lane place l q.bit6 r.bit6 x y 6 (h.bits 6) (k.bits 6))
      (xor_bit lane place l q.bit7 r.bit7 x y 7 (h.bits 7) (k.bits 7));
}

-- ---- times x

doubling : Part
doubling = record {
  inputs = 8;
  gates = Xor 7 0 ∷ Xor 5 0 ∷ Xor 4 0 ∷ [];
  outputs = 0 ∷ 8 ∷ 6 ∷ 9 ∷ 10 ∷ 3 ∷ 2 ∷ 1 ∷ [];
}

doubling_computed : map (λ x. outputs_of bits doubling (bits_of x)) (range_with_len 0 256) ≡ map (λ x. bits_of (times_x x)) (range_with_len 0 256)
unfolding outputs_of doubling times_x
doubling_computed = refl

times_x_small : map (λ x. nat_lt (times_x x) 256) (range_with_len 0 256) ≡ map (λ x. true) (range_with_len 0 256)
unfolding times_x
times_x_small = refl

s_box_small : map (λ x. nat_lt (s_box x) 256) (range_with_len 0 256) ≡ map (λ x. true) (range_with_len 0 256)
unfolding s_box affine inverse product_of_squares product product_of_bits times_x rotated_left
s_box_small = refl

small_of : (f : ℕ → ℕ) → map (λ x. nat_lt (f x) 256) (range_with_len 0 256) ≡ map (λ x. true) (range_with_len 0 256) → (x : ℕ) → x < 256 → f x < 256
small_of f computed x h = omega (arith, ltb-true (f x) 256 (of_each_byte (λ (n : ℕ). nat_lt (f n) 256) (λ (n : ℕ). true) true computed x h))

pub HasByte-doubled : (q : Registers) (lane place byte : ℕ) → lane < 16 → HasByte q lane place byte
    → HasByte (record {
      bit0 = q.bit7;
      bit1 = zip2 bit_xor q.bit0 q.bit7;
      bit2 = q.bit1;
      bit3 = zip2 bit_xor q.bit2 q.bit7;
      bit4 = zip2 bit_xor q.bit3 q.bit7;
      bit5 = q.bit4;
      bit6 = q.bit5;
      bit7 = q.bit6;
    }) lane place (times_x byte)
unfolding outputs_of doubling
HasByte-doubled q lane place byte l h = record {
  small = small_of times_x times_x_small byte h.small;
  bits =
      subst (Related (IsBit lane place) (replicate 16 0) 0 (outputs_of lanes doubling (registers_of q)))
      (of_each_byte (λ x. outputs_of bits doubling (bits_of x)) (λ x. bits_of (times_x x)) [] doubling_computed byte h.small)
      (Related-part (IsBit lane place) lanes bits (IsBit-kept lane place l) doubling (registers_of q) (bits_of byte) h.bits);
}

-- ---- bytes of other lanes

picked_bit : (ks : List ℕ) (from lane place : ℕ) (v : List ℕ) (bit : ℕ) → length ks ≡ 16 → lane < 16 → get_or ks lane 0 ≡ from → from < 16
    → IsBit from place v bit → IsBit lane place (pick_l 0 (v ++ v) ks) bit
picked_bit ks from lane place v bit long l is within h = record {
  long = length-map ks _ ∙ long;
  here =
      ap (λ (n : ℕ). bit_of n place)
      (get_or-map (λ k. get_or (v ++ v) k 0) ks lane 0 0 (omega (arith, long, l)) ∙ ap (λ (k : ℕ). get_or (v ++ v) k 0) is
      ∙ get_or_append_left v v 0 from (omega (arith, h.long, within)))
      ∙ h.here;
}

abbrev pub picked : List ℕ → Registers → Registers
picked ks q = record {
  bit0 = pick_l 0 (q.bit0 ++ q.bit0) ks;
  bit1 = pick_l 0 (q.bit1 ++ q.bit1) ks;
  bit2 = pick_l 0 (q.bit2 ++ q.bit2) ks;
  bit3 = pick_l 0 (q.bit3 ++ q.bit3) ks;
  bit4 = pick_l 0 (q.bit4 ++ q.bit4) ks;
  bit5 = pick_l 0 (q.bit5 ++ q.bit5) ks;
  bit6 = pick_l 0 (q.bit6 ++ q.bit6) ks;
  bit7 = pick_l 0 (q.bit7 ++ q.bit7) ks;
}

pub HasByte-picked : (ks : List ℕ) (q : Registers) (from lane place byte : ℕ) → length ks ≡ 16 → lane < 16 → get_or ks lane 0 ≡ from → from < 16
    → HasByte q from place byte → HasByte (picked ks q) lane place byte
unfolding Related
HasByte-picked ks q from lane place byte long l is within h = record {
  small = h.small;
  bits = eight lane place byte l (picked ks q)
      (picked_bit ks from lane place q.bit0 (bit_of byte 0) long l is within (h.bits 0))
      (picked_bit ks from lane place q.bit1 (bit_of byte 1) long l is within (h.bits 1))
      (picked_bit ks from lane place q.bit2 (bit_of byte 2) long l is within (h.bits 2))
      (picked_bit ks from lane place q.bit3 (bit_of byte 3) long l is within (h.bits 3))
      (picked_bit ks from lane place q.bit4 (bit_of byte 4) long l is within (h.bits 4))
      (picked_bit ks from lane place q.bit5 (bit_of byte 5) long l is within (h.bits 5))
      (picked_bit ks from lane place q.bit6 (bit_of byte 6) long l is within (h.bits 6))
      (picked_bit ks from lane place q.bit7 (bit_of byte 7) long l is within (h.bits 7));
}

-- ---- blocks

get_or-state_of : (f : ℕ → ℕ → ℕ) (lane : ℕ) → lane < 16 → get_or (state_of f) lane 0 ≡ f (lane % 4) (lane / 4)
get_or-state_of f zero h = refl
get_or-state_of f (suc zero) h = refl
get_or-state_of f (suc (suc zero)) h = refl
get_or-state_of f (suc (suc (suc zero))) h = refl
get_or-state_of f (suc (suc (suc (suc zero)))) h = refl
get_or-state_of f (suc (suc (suc (suc (suc zero))))) h = refl
get_or-state_of f (suc (suc (suc (suc (suc (suc zero)))))) h = refl
get_or-state_of f (suc (suc (suc (suc (suc (suc (suc zero))))))) h = refl
get_or-state_of f (suc (suc (suc (suc (suc (suc (suc (suc zero)))))))) h = refl
get_or-state_of f (suc (suc (suc (suc (suc (suc (suc (suc (suc zero))))))))) h = refl
get_or-state_of f (suc (suc (suc (suc (suc (suc (suc (suc (suc (suc zero)))))))))) h = refl
get_or-state_of f (suc (suc (suc (suc (suc (suc (suc (suc (suc (suc (suc zero))))))))))) h = refl
get_or-state_of f (suc (suc (suc (suc (suc (suc (suc (suc (suc (suc (suc (suc zero)))))))))))) h = refl
get_or-state_of f (suc (suc (suc (suc (suc (suc (suc (suc (suc (suc (suc (suc (suc zero))))))))))))) h = refl
get_or-state_of f (suc (suc (suc (suc (suc (suc (suc (suc (suc (suc (suc (suc (suc (suc zero)))))))))))))) h = refl
get_or-state_of f (suc (suc (suc (suc (suc (suc (suc (suc (suc (suc (suc (suc (suc (suc (suc zero))))))))))))))) h = refl
get_or-state_of f (suc (suc (suc (suc (suc (suc (suc (suc (suc (suc (suc (suc (suc (suc (suc (suc n)))))))))))))))) h = absurd (omega (arith, h))

get_or-sub_bytes : (block : List ℕ) (lane : ℕ) → lane < 16 → get_or (sub_bytes block) lane 0 ≡ s_box (get_or block lane 0)
unfolding sub_bytes
get_or-sub_bytes block lane l =
    let here : lane % 4 + 4 * (lane / 4) ≡ lane = omega arith in
    get_or-state_of (λ row column. s_box (byte_at block row column)) lane l ∙ ap (λ (n : ℕ). s_box (get_or block n 0)) here

length-sub_bytes : (block : List ℕ) → length (sub_bytes block) ≡ 16
unfolding sub_bytes
length-sub_bytes block = refl

pub HasBlock-substituted : (q r : Registers) (place : ℕ) (block : List ℕ) → registers_of r ≡ s_box_bits lanes (replicate 16 255) (registers_of q)
    → place < 8 → HasBlock q place block → HasBlock r place (sub_bytes block)
HasBlock-substituted q r place block is p h = record {
  long = length-sub_bytes block;
  bytes = λ lane l. subst (HasByte r lane place) (sym (get_or-sub_bytes block lane l)) (byte lane l);
}
  where
    byte : (lane : ℕ) → lane < 16 → HasByte r lane place (s_box (get_or block lane 0))
    byte lane l =
        let x = get_or block lane 0 in
        let old = h.bytes lane l in
        record {
          small = small_of s_box s_box_small x old.small;
          bits =
              subst (λ (rs : List (List ℕ)). Related (IsBit lane place) (replicate 16 0) 0 rs (bits_of (s_box x))) (sym is)
              (subst (Related (IsBit lane place) (replicate 16 0) 0 (s_box_bits lanes (replicate 16 255) (registers_of q))) (bits_of-s_box x old.small)
              (Related-s_box_bits (IsBit lane place) lanes bits (IsBit-kept lane place l) (replicate 16 255) 1 (registers_of q) (bits_of x)
              (IsBit-ones lane place l p) old.bits));
        }

get_or-shift_rows : (block : List ℕ) (lane : ℕ) → lane < 16 → get_or (shift_rows block) lane 0 ≡ get_or block (lane % 4 + 4 * ((lane / 4 + lane % 4) % 4)) 0
unfolding shift_rows
get_or-shift_rows block lane l = get_or-state_of (λ row column. byte_at block row ((column + row) % 4)) lane l

length-shift_rows : (block : List ℕ) → length (shift_rows block) ≡ 16
unfolding shift_rows
length-shift_rows block = refl

pub HasBlock-shifted : (ks : List ℕ) → length ks ≡ 16
    → ks ≡ map (λ lane. lane % 4 + 4 * ((lane / 4 + lane % 4) % 4)) (range_with_len 0 16)
    → (q : Registers) (place : ℕ) (block : List ℕ) → HasBlock q place block → HasBlock (picked ks q) place (shift_rows block)
HasBlock-shifted ks long are q place block h = record {
  long = length-shift_rows block;
  bytes = λ lane l.
      let from = lane % 4 + 4 * ((lane / 4 + lane % 4) % 4) in
      let is : get_or ks lane 0 ≡ from =
      ap (λ (xs : List ℕ). get_or xs lane 0) are ∙ get_or-map-range_with_len (λ n. n % 4 + 4 * ((n / 4 + n % 4) % 4)) 0 16 lane lane 0 l (omega arith) in
      let within : from < 16 = omega arith in
      subst (HasByte (picked ks q) lane place) (sym (get_or-shift_rows block lane l))
      (HasByte-picked ks q from lane place (get_or block from 0) long l is within (h.bytes from within));
}

-- the byte k rows below, the first row behind the last
abbrev pub below : ℕ → ℕ → ℕ
below k lane = 4 * (lane / 4) + (lane + k) % 4

pub HasByte-below : (k : ℕ) (ks : List ℕ) → length ks ≡ 16 → ks ≡ map (below k) (range_with_len 0 16)
    → (q : Registers) (lane place byte : ℕ) → lane < 16 → HasByte q (below k lane) place byte → HasByte (picked ks q) lane place byte
HasByte-below k ks long are q lane place byte l h =
    HasByte-picked ks q (below k lane) lane place byte long l
    (ap (λ (xs : List ℕ). get_or xs lane 0) are ∙ get_or-map-range_with_len (below k) 0 16 lane lane 0 l (omega arith)) (omega arith) h

length-mix_columns : (block : List ℕ) → length (mix_columns block) ≡ 16
unfolding mix_columns mixed_column
length-mix_columns block = refl

pub mixed : (block : List ℕ) (lane : ℕ) → lane < 16 → ((n : ℕ) → n < 16 → get_or block n 0 < 256)
    → times_x (get_or block lane 0 ⊕ get_or block (below 1 lane) 0) ⊕ get_or block (below 1 lane) 0
    ⊕ (get_or block (below 2 lane) 0 ⊕ get_or block (below 1 (below 2 lane)) 0)
    ≡ get_or (mix_columns block) lane 0
unfolding mix_columns mixed_column
mixed block zero h small = row_0 (get_or block 0 0) (get_or block 1 0) (get_or block 2 0) (get_or block 3 0) (small 0 (omega arith)) (small 1 (omega arith)) (xor_of_8 (get_or block 0 0) (get_or block 1 0) (small 0 (omega arith)) (small 1 (omega arith)))
mixed block (suc zero) h small = row_1 (get_or block 1 0) (get_or block 2 0) (get_or block 3 0) (get_or block 0 0) (small 1 (omega arith)) (small 2 (omega arith)) (xor_of_8 (get_or block 1 0) (get_or block 2 0) (small 1 (omega arith)) (small 2 (omega arith)))
mixed block (suc (suc zero)) h small = row_2 (get_or block 2 0) (get_or block 3 0) (get_or block 0 0) (get_or block 1 0) (small 2 (omega arith)) (small 3 (omega arith)) (xor_of_8 (get_or block 2 0) (get_or block 3 0) (small 2 (omega arith)) (small 3 (omega arith)))
mixed block (suc (suc (suc zero))) h small = row_3 (get_or block 3 0) (get_or block 0 0) (get_or block 1 0) (get_or block 2 0) (small 3 (omega arith)) (small 0 (omega arith)) (xor_of_8 (get_or block 3 0) (get_or block 0 0) (small 3 (omega arith)) (small 0 (omega arith)))
mixed block (suc (suc (suc (suc zero)))) h small = row_0 (get_or block 4 0) (get_or block 5 0) (get_or block 6 0) (get_or block 7 0) (small 4 (omega arith)) (small 5 (omega arith)) (xor_of_8 (get_or block 4 0) (get_or block 5 0) (small 4 (omega arith)) (small 5 (omega arith)))
mixed block (suc (suc (suc (suc (suc zero))))) h small = row_1 (get_or block 5 0) (get_or block 6 0) (get_or block 7 0) (get_or block 4 0) (small 5 (omega arith)) (small 6 (omega arith)) (xor_of_8 (get_or block 5 0) (get_or block 6 0) (small 5 (omega arith)) (small 6 (omega arith)))
mixed block (suc (suc (suc (suc (suc (suc zero)))))) h small = row_2 (get_or block 6 0) (get_or block 7 0) (get_or block 4 0) (get_or block 5 0) (small 6 (omega arith)) (small 7 (omega arith)) (xor_of_8 (get_or block 6 0) (get_or block 7 0) (small 6 (omega arith)) (small 7 (omega arith)))
mixed block (suc (suc (suc (suc (suc (suc (suc zero))))))) h small = row_3 (get_or block 7 0) (get_or block 4 0) (get_or block 5 0) (get_or block 6 0) (small 7 (omega arith)) (small 4 (omega arith)) (xor_of_8 (get_or block 7 0) (get_or block 4 0) (small 7 (omega arith)) (small 4 (omega arith)))
mixed block (suc (suc (suc (suc (suc (suc (suc (suc zero)))))))) h small = row_0 (get_or block 8 0) (get_or block 9 0) (get_or block 10 0) (get_or block 11 0) (small 8 (omega arith)) (small 9 (omega arith)) (xor_of_8 (get_or block 8 0) (get_or block 9 0) (small 8 (omega arith)) (small 9 (omega arith)))
mixed block (suc (suc (suc (suc (suc (suc (suc (suc (suc zero))))))))) h small = row_1 (get_or block 9 0) (get_or block 10 0) (get_or block 11 0) (get_or block 8 0) (small 9 (omega arith)) (small 10 (omega arith)) (xor_of_8 (get_or block 9 0) (get_or block 10 0) (small 9 (omega arith)) (small 10 (omega arith)))
mixed block (suc (suc (suc (suc (suc (suc (suc (suc (suc (suc zero)))))))))) h small = row_2 (get_or block 10 0) (get_or block 11 0) (get_or block 8 0) (get_or block 9 0) (small 10 (omega arith)) (small 11 (omega arith)) (xor_of_8 (get_or block 10 0) (get_or block 11 0) (small 10 (omega arith)) (small 11 (omega arith)))
mixed block (suc (suc (suc (suc (suc (suc (suc (suc (suc (suc (suc zero))))))))))) h small = row_3 (get_or block 11 0) (get_or block 8 0) (get_or block 9 0) (get_or block 10 0) (small 11 (omega arith)) (small 8 (omega arith)) (xor_of_8 (get_or block 11 0) (get_or block 8 0) (small 11 (omega arith)) (small 8 (omega arith)))
mixed block (suc (suc (suc (suc (suc (suc (suc (suc (suc (suc (suc (suc zero)))))))))))) h small = row_0 (get_or block 12 0) (get_or block 13 0) (get_or block 14 0) (get_or block 15 0) (small 12 (omega arith)) (small 13 (omega arith)) (xor_of_8 (get_or block 12 0) (get_or block 13 0) (small 12 (omega arith)) (small 13 (omega arith)))
mixed block (suc (suc (suc (suc (suc (suc (suc (suc (suc (suc (suc (suc (suc zero))))))))))))) h small = row_1 (get_or block 13 0) (get_or block 14 0) (get_or block 15 0) (get_or block 12 0) (small 13 (omega arith)) (small 14 (omega arith)) (xor_of_8 (get_or block 13 0) (get_or block 14 0) (small 13 (omega arith)) (small 14 (omega arith)))
mixed block (suc (suc (suc (suc (suc (suc (suc (suc (suc (suc (suc (suc (suc (suc zero)))))))))))))) h small = row_2 (get_or block 14 0) (get_or block 15 0) (get_or block 12 0) (get_or block 13 0) (small 14 (omega arith)) (small 15 (omega arith)) (xor_of_8 (get_or block 14 0) (get_or block 15 0) (small 14 (omega arith)) (small 15 (omega arith)))
mixed block (suc (suc (suc (suc (suc (suc (suc (suc (suc (suc (suc (suc (suc (suc (suc zero))))))))))))))) h small = row_3 (get_or block 15 0) (get_or block 12 0) (get_or block 13 0) (get_or block 14 0) (small 15 (omega arith)) (small 12 (omega arith)) (xor_of_8 (get_or block 15 0) (get_or block 12 0) (small 15 (omega arith)) (small 12 (omega arith)))
mixed block (suc (suc (suc (suc (suc (suc (suc (suc (suc (suc (suc (suc (suc (suc (suc (suc n)))))))))))))))) h small = absurd (omega (arith, h))

pub HasBlock-mixed : (r : Registers) (place : ℕ) (block : List ℕ) → ((n : ℕ) → n < 16 → get_or block n 0 < 256)
    → ((lane : ℕ) → lane < 16 → HasByte r lane place (times_x (get_or block lane 0 ⊕ get_or block (below 1 lane) 0) ⊕ get_or block (below 1 lane) 0
    ⊕ (get_or block (below 2 lane) 0 ⊕ get_or block (below 1 (below 2 lane)) 0)))
    → HasBlock r place (mix_columns block)
HasBlock-mixed r place block small each = record {
  long = length-mix_columns block;
  bytes = λ lane l. subst (HasByte r lane place) (mixed block lane l small) (each lane l);
}

pub HasBlock-keyed : (q key r : Registers) (place : ℕ) (block round_key : List ℕ)
    → ((lane place x y : ℕ) → lane < 16 → HasByte q lane place x → HasByte key lane place y → HasByte r lane place (x ⊕ y))
    → HasBlock q place block → HasBlock key place round_key → HasBlock r place (add_round_key block round_key)
unfolding add_round_key
HasBlock-keyed q key r place block round_key each h k = record {
  long = length-xor_bytes block round_key (omega (arith, h.long, k.long)) ∙ h.long;
  bytes = λ lane l. subst (HasByte r lane place)
      (sym (get_or-xor_bytes block round_key lane (omega (arith, h.long, l)) (omega (arith, h.long, k.long))))
      (each lane place (get_or block lane 0) (get_or round_key lane 0) l (h.bytes lane l) (k.bytes lane l));
}
