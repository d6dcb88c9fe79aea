-- A step of the CRC by a table of the bytes' shifts: shifting is linear over exclusive-or.
use Rattle.std.proofs.Common.{◌≡◌, ◌⊎◌, ℕ, zero, suc, ◌+◌, ◌*◌, ◌/◌, ◌%◌, ◌^◌, ◌<◌, refl, sym, ◌∙◌, ap, inl, inr, arith, ⊎_elim, List, [], ◌∷◌, ◌++◌, take, get_or, length, add-one}
use Rattle.std.specs.Int.Bits.{bit_xor, bit_and, xor_self, xor_zero_l, xor_zero_r, xor_assoc, xor_disjoint}
use Rattle.std.proofs.lemmas.Nat.{xor_shr, xor_mod, xor_comm, and_block, and_mask, and_comm}
use Rattle.std.proofs.Math.Nat.{mod-lt, mul-mod_left, mul_assoc, pow-suc}
use Rattle.std.proofs.Math.Seq.{take-suc}
use Rattle.kv_model.specs.Crc.{shifted, shifted_times, crc_step, crc_from}
use Rattle.kv_model.proofs.CrcLemmas.{crc_from-append}

low_bit : (n : ℕ) → n < 2 → (n ≡ 0) ⊎ (n ≡ 1)
low_bit zero h = inl refl
low_bit (suc zero) h = inr refl
low_bit (suc (suc n)) h = absurd (omega arith)

shifted_by_bit : (x : ℕ) → shifted x ≡ bit_xor (x / 2) (x % 2 * 0xEDB8_8320)
shifted_by_bit x = ⊎_elim
    (λ (even : x % 2 ≡ 0). rw even (sym (xor_zero_r (x / 2))))
    (λ (odd : x % 2 ≡ 1). rw odd refl)
    (low_bit (x % 2) (mod-lt x (omega arith)))

-- of two bits, each with the polynomial where it is 1
xor_by_bits : (p q m : ℕ) → p < 2 → q < 2 → bit_xor p q * m ≡ bit_xor (p * m) (q * m)
xor_by_bits p q m hp hq =
    let none : 0 * m ≡ 0 = omega arith in ⊎_elim
    (λ (p0 : p ≡ 0). rw p0 (sym (ap (λ (x : ℕ). bit_xor x (q * m)) none ∙ xor_zero_l (q * m))))
    (λ (p1 : p ≡ 1). ⊎_elim
    (λ (q0 : q ≡ 0). rw (p1, q0) (sym (ap (bit_xor (1 * m)) none ∙ xor_zero_r (1 * m))))
    (λ (q1 : q ≡ 1). rw (p1, q1) (none ∙ sym (xor_self (1 * m))))
    (low_bit q hq))
    (low_bit p hp)

xor_swap : (a b c d : ℕ) → bit_xor (bit_xor a b) (bit_xor c d) ≡ bit_xor (bit_xor a c) (bit_xor b d)
xor_swap a b c d =
    xor_assoc a b (bit_xor c d)
    ∙ ap (bit_xor a) (sym (xor_assoc b c d) ∙ ap (λ (x : ℕ). bit_xor x d) (xor_comm b c) ∙ xor_assoc c b d)
    ∙ sym (xor_assoc a c (bit_xor b d))

pub shifted-xor : (a b : ℕ) → shifted (bit_xor a b) ≡ bit_xor (shifted a) (shifted b)
shifted-xor a b =
    let halves : bit_xor a b / 2 ≡ bit_xor (a / 2) (b / 2) = xor_shr a b 1 in
    let bits : bit_xor a b % 2 ≡ bit_xor (a % 2) (b % 2) = xor_mod a b 1 in
    let apart : bit_xor (a % 2) (b % 2) * 0xEDB8_8320 ≡ bit_xor (a % 2 * 0xEDB8_8320) (b % 2 * 0xEDB8_8320) =
    xor_by_bits (a % 2) (b % 2) 0xEDB8_8320 (mod-lt a (omega arith)) (mod-lt b (omega arith)) in
    shifted_by_bit (bit_xor a b)
    ∙ ap (λ (x : ℕ). bit_xor x (bit_xor a b % 2 * 0xEDB8_8320)) halves
    ∙ ap (λ (x : ℕ). bit_xor (bit_xor (a / 2) (b / 2)) (x * 0xEDB8_8320)) bits
    ∙ ap (bit_xor (bit_xor (a / 2) (b / 2))) apart
    ∙ xor_swap (a / 2) (b / 2) (a % 2 * 0xEDB8_8320) (b % 2 * 0xEDB8_8320)
    ∙ sym (ap (λ (x : ℕ). bit_xor x (shifted b)) (shifted_by_bit a) ∙ ap (bit_xor (bit_xor (a / 2) (a % 2 * 0xEDB8_8320))) (shifted_by_bit b))

pub shifted_times-xor : (n a b : ℕ) → shifted_times n (bit_xor a b) ≡ bit_xor (shifted_times n a) (shifted_times n b)
unfolding shifted_times
shifted_times-xor zero a b = refl
shifted_times-xor (suc n) a b = ap (shifted_times n) (shifted-xor a b) ∙ shifted_times-xor n (shifted a) (shifted b)

shifted_even : (y : ℕ) → shifted (y * 2) ≡ y
shifted_even y =
    let even : y * 2 % 2 ≡ 0 = mul-mod_left y 2 in
    let half : y * 2 / 2 ≡ y = omega arith in
    shifted_by_bit (y * 2) ∙ ap (λ (x : ℕ). bit_xor (y * 2 / 2) (x * 0xEDB8_8320)) even ∙ xor_zero_r (y * 2 / 2) ∙ half

-- bits of which none leaves but zeros
pub shifted_times-pow : (n y : ℕ) → shifted_times n (y * 2 ^ n) ≡ y
unfolding shifted_times
shifted_times-pow zero y = omega arith
shifted_times-pow (suc n) y =
    let doubled : y * 2 ^ suc n ≡ y * 2 ^ n * 2 = ap (λ (x : ℕ). y * x) (pow-suc 2 n) ∙ sym (mul_assoc y (2 ^ n) 2) in
    ap (λ (x : ℕ). shifted_times n (shifted x)) doubled ∙ ap (shifted_times n) (shifted_even (y * 2 ^ n)) ∙ shifted_times-pow n y

-- the low eight bits by the table, and the others eight places down
pub shifted_byte_and_rest : (x : ℕ) → shifted_times 8 x ≡ bit_xor (shifted_times 8 (bit_and x 255)) (x / 256)
shifted_byte_and_rest x =
    let low : ℕ = x % 256 in
    let high : ℕ = x / 256 in
    let in_byte : low < 2 ^ 8 = mod-lt x (omega arith) in
    let apart : bit_and (0 * 2 ^ 8 + low) (high * 2 ^ 8 + 0) ≡ 0 =
    and_block 8 0 high low 0 in_byte (omega arith) ∙ ap (λ (n : ℕ). 0 * 256 + n) (and_comm low 0) in
    let joined : bit_xor (0 * 2 ^ 8 + low) (high * 2 ^ 8 + 0) ≡ x = xor_disjoint _ _ apart ∙ omega arith in
    let first : 0 * 256 + low ≡ low = omega arith in
    let second : high * 256 + 0 ≡ high * 256 = omega arith in
    let whole : x ≡ bit_xor low (high * 256) = sym joined ∙ ap (λ (n : ℕ). bit_xor n (high * 256 + 0)) first ∙ ap (bit_xor low) second in
    ap (shifted_times 8) whole
    ∙ shifted_times-xor 8 low (high * 256)
    ∙ ap (bit_xor (shifted_times 8 low)) (shifted_times-pow 8 high)
    ∙ ap (λ (n : ℕ). bit_xor (shifted_times 8 n) high) (sym (and_mask x 8))

pub crc_from-more : (start i : ℕ) (bytes : List ℕ) → i < length bytes → crc_from start (take (i + 1) bytes) ≡ crc_step (crc_from start (take i bytes)) (get_or bytes i 0)
unfolding crc_from
crc_from-more start i bytes inside =
    let more : take (i + 1) bytes ≡ take i bytes ++ get_or bytes i 0 ∷ [] = rw add-one (take-suc bytes i 0 inside) in
    ap (crc_from start) more ∙ crc_from-append start (take i bytes) (get_or bytes i 0 ∷ [])
