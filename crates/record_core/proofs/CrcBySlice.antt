-- A slice of bytes in one step of the CRC: each byte leaves by its own number of shifts.
use Rattle.std.proofs.Common.{◌≡◌, ℕ, zero, suc, ◌+◌, ◌*◌, ◌/◌, ◌%◌, ◌^◌, ◌<◌, refl, sym, ◌∙◌, ap, ap₂, arith, List, [], ◌∷◌, take, drop, get_or, length}
use Rattle.std.specs.Int.Bits.{bit_xor, bit_and, xor_assoc, xor_disjoint}
use Rattle.std.proofs.lemmas.Nat.{and_block, and_mask, and_comm}
use Rattle.std.proofs.lemmas.List.{drop_more, drop-drop, take-append-drop}
use Rattle.std.proofs.Math.Seq.{take-add, drop-length}
use Rattle.std.specs.Simd.{first_chunks}
use Rattle.kv_model.specs.Crc.{shifted, shifted_times, crc_step, crc_from}
use Rattle.kv_model.proofs.CrcLemmas.{crc_from-append}
use Rattle.record_core.proofs.CrcByTable.{shifted_times-xor, shifted_times-pow, shifted_byte_and_rest}

shifted_times-add : (n m x : ℕ) → shifted_times (n + m) x ≡ shifted_times m (shifted_times n x)
unfolding shifted_times
shifted_times-add zero m x = let none : 0 + m ≡ m = omega arith in ap (λ (k : ℕ). shifted_times k x) none
shifted_times-add (suc n) m x =
    let one : suc n + m ≡ suc (n + m) = omega arith in
    ap (λ (k : ℕ). shifted_times k x) one ∙ shifted_times-add n m (shifted x)

-- the low eight bits leave, and the others are eight places down by then
shifted-low_byte : (n k x : ℕ) → 8 + n ≡ k → shifted_times k x ≡ bit_xor (shifted_times k (x % 256)) (shifted_times n (x / 256))
shifted-low_byte n k x total =
    let whole : (y : ℕ) → shifted_times k y ≡ shifted_times n (shifted_times 8 y) =
    λ y. ap (λ (j : ℕ). shifted_times j y) (sym total) ∙ shifted_times-add 8 n y in
    let low : shifted_times n (shifted_times 8 (bit_and x 255)) ≡ shifted_times k (x % 256) =
    sym (whole (bit_and x 255)) ∙ ap (shifted_times k) (and_mask x 8) in
    whole x
    ∙ ap (shifted_times n) (shifted_byte_and_rest x)
    ∙ shifted_times-xor n (shifted_times 8 (bit_and x 255)) (x / 256)
    ∙ ap (λ (y : ℕ). bit_xor y (shifted_times n (x / 256))) low

xor_four : (a b c d : ℕ) → bit_xor a (bit_xor b (bit_xor c d)) ≡ bit_xor (bit_xor (bit_xor a b) c) d
xor_four a b c d = sym (xor_assoc a b (bit_xor c d)) ∙ sym (xor_assoc (bit_xor a b) c d)

-- a word by its bytes: each leaves in as many shifts as it has bits before it and behind it
pub shifted-word : (row x : ℕ) → x < 2 ^ 32
    → shifted_times (8 * (row + 4)) x
    ≡ bit_xor (bit_xor (bit_xor
    (shifted_times (8 * (row + 3 + 1)) (x % 256))
    (shifted_times (8 * (row + 2 + 1)) (x / 256 % 256)))
    (shifted_times (8 * (row + 1 + 1)) (x / 65536 % 256)))
    (shifted_times (8 * (row + 1)) (x / 16777216 % 256))
shifted-word row x fits =
    let one : ℕ = 8 * (row + 3 + 1) in
    let two : ℕ = 8 * (row + 2 + 1) in
    let three : ℕ = 8 * (row + 1 + 1) in
    let four : ℕ = 8 * (row + 1) in
    let a : ℕ = shifted_times one (x % 256) in
    let b : ℕ = shifted_times two (x / 256 % 256) in
    let whole : 8 * (row + 4) ≡ one = omega arith in
    let is_third : x / 256 / 256 ≡ x / 65536 = omega arith in
    let is_last : x / 256 / 256 / 256 ≡ x / 16777216 % 256 = omega arith in
    ap (λ (k : ℕ). shifted_times k x) whole
    ∙ shifted-low_byte two one x (omega arith)
    ∙ ap (bit_xor a) (shifted-low_byte three two (x / 256) (omega arith)
    ∙ ap (bit_xor b) (shifted-low_byte four three (x / 256 / 256) (omega arith)))
    ∙ xor_four a b (shifted_times three (x / 256 / 256 % 256)) (shifted_times four (x / 256 / 256 / 256))
    ∙ ap₂ (λ (c d : ℕ). bit_xor (bit_xor (bit_xor a b) (shifted_times three (c % 256))) (shifted_times four d)) is_third is_last

-- one byte, and those behind it as a number
step-joins : (n crc byte more : ℕ) → byte < 256 → shifted_times n (bit_xor (crc_step crc byte) more) ≡ shifted_times (8 + n) (bit_xor crc (byte + more * 256))
unfolding crc_step
step-joins n crc byte more in_byte =
    let apart : bit_and (0 * 2 ^ 8 + byte) (more * 2 ^ 8 + 0) ≡ 0 =
    and_block 8 0 more byte 0 in_byte (omega arith) ∙ ap (λ (n : ℕ). 0 * 256 + n) (and_comm byte 0) in
    let first : byte ≡ 0 * 2 ^ 8 + byte = omega arith in
    let second : more * 256 ≡ more * 2 ^ 8 + 0 = omega arith in
    let sums : 0 * 2 ^ 8 + byte + (more * 2 ^ 8 + 0) ≡ byte + more * 256 = omega arith in
    let joined : bit_xor byte (more * 256) ≡ byte + more * 256 = ap₂ bit_xor first second ∙ xor_disjoint _ _ apart ∙ sums in
    ap (λ (y : ℕ). shifted_times n (bit_xor (shifted_times 8 (bit_xor crc byte)) y)) (sym (shifted_times-pow 8 more))
    ∙ ap (shifted_times n) (sym (shifted_times-xor 8 (bit_xor crc byte) (more * 256)))
    ∙ sym (shifted_times-add 8 n (bit_xor (bit_xor crc byte) (more * 256)))
    ∙ ap (shifted_times (8 + n)) (xor_assoc crc byte (more * 256) ∙ ap (bit_xor crc) joined)

-- four bytes as a number
crc_from-four : (crc a b c d : ℕ) → a < 256 → b < 256 → c < 256 → crc_from crc (a ∷ b ∷ c ∷ d ∷ []) ≡ shifted_times 32 (bit_xor crc (a + b * 256 + c * 65536 + d * 16777216))
unfolding crc_from crc_step
crc_from-four crc a b c d in_a in_b in_c =
    let whole : a + (b + (c + d * 256) * 256) * 256 ≡ a + b * 256 + c * 65536 + d * 16777216 = omega arith in
    step-joins 8 (crc_step (crc_step crc a) b) c d in_c
    ∙ step-joins 16 (crc_step crc a) b (c + d * 256) in_b
    ∙ step-joins 24 crc a (b + (c + d * 256) * 256) in_a
    ∙ ap (λ (y : ℕ). shifted_times 32 (bit_xor crc y)) whole

eight : (xs : List ℕ) → length xs ≡ 8 → xs ≡ get_or xs 0 0 ∷ get_or xs 1 0 ∷ get_or xs 2 0 ∷ get_or xs 3 0 ∷ get_or xs 4 0 ∷ get_or xs 5 0 ∷ get_or xs 6 0 ∷ get_or xs 7 0 ∷ []
eight xs long =
    drop_more xs 0 0 (omega arith) ∙ ap (λ (more : List ℕ). get_or xs 0 0 ∷ more) (drop_more xs 1 0 (omega arith)
    ∙ ap (λ (more : List ℕ). get_or xs 1 0 ∷ more) (drop_more xs 2 0 (omega arith)
    ∙ ap (λ (more : List ℕ). get_or xs 2 0 ∷ more) (drop_more xs 3 0 (omega arith)
    ∙ ap (λ (more : List ℕ). get_or xs 3 0 ∷ more) (drop_more xs 4 0 (omega arith)
    ∙ ap (λ (more : List ℕ). get_or xs 4 0 ∷ more) (drop_more xs 5 0 (omega arith)
    ∙ ap (λ (more : List ℕ). get_or xs 5 0 ∷ more) (drop_more xs 6 0 (omega arith)
    ∙ ap (λ (more : List ℕ). get_or xs 6 0 ∷ more) (drop_more xs 7 0 (omega arith)
    ∙ ap (λ (more : List ℕ). get_or xs 7 0 ∷ more) (ap (λ (n : ℕ). drop n xs) (sym long) ∙ drop-length xs))))))))

-- eight bytes as two numbers
pub crc_from-eight : (crc : ℕ) (xs : List ℕ) → length xs ≡ 8 → ((i : ℕ) → get_or xs i 0 < 256)
    → crc_from crc xs
    ≡ bit_xor
    (shifted_times 64 (bit_xor crc (get_or xs 0 0 + get_or xs 1 0 * 256 + get_or xs 2 0 * 65536 + get_or xs 3 0 * 16777216)))
    (shifted_times 32 (get_or xs 4 0 + get_or xs 5 0 * 256 + get_or xs 6 0 * 65536 + get_or xs 7 0 * 16777216))
crc_from-eight crc xs long bytes =
    let front : ℕ = get_or xs 0 0 + get_or xs 1 0 * 256 + get_or xs 2 0 * 65536 + get_or xs 3 0 * 16777216 in
    let back : ℕ = get_or xs 4 0 + get_or xs 5 0 * 256 + get_or xs 6 0 * 65536 + get_or xs 7 0 * 16777216 in
    let firsts : List ℕ = get_or xs 0 0 ∷ get_or xs 1 0 ∷ get_or xs 2 0 ∷ get_or xs 3 0 ∷ [] in
    let lasts : List ℕ = get_or xs 4 0 ∷ get_or xs 5 0 ∷ get_or xs 6 0 ∷ get_or xs 7 0 ∷ [] in
    ap (crc_from crc) (eight xs long)
    ∙ crc_from-append crc firsts lasts
    ∙ ap (λ (n : ℕ). crc_from n lasts) (crc_from-four crc (get_or xs 0 0) (get_or xs 1 0) (get_or xs 2 0) (get_or xs 3 0) (bytes 0) (bytes 1) (bytes 2))
    ∙ crc_from-four (shifted_times 32 (bit_xor crc front)) (get_or xs 4 0) (get_or xs 5 0) (get_or xs 6 0) (get_or xs 7 0) (bytes 4) (bytes 5) (bytes 6)
    ∙ shifted_times-xor 32 (shifted_times 32 (bit_xor crc front)) back
    ∙ ap (λ (n : ℕ). bit_xor n (shifted_times 32 back)) (sym (shifted_times-add 32 32 (bit_xor crc front)))

slice-at : (k i : ℕ) (xs : List ℕ) → i < k → get_or (first_chunks 8 k xs) i [] ≡ take 8 (drop (i * 8) xs)
slice-at zero i xs h = absurd (omega arith)
slice-at (suc k) zero xs h = refl
slice-at (suc k) (suc i) xs h =
    let place : 8 + i * 8 ≡ suc i * 8 = omega arith in
    slice-at k i (drop 8 xs) (omega arith) ∙ ap (take 8) (drop-drop (i * 8) 8 xs ∙ ap (λ (n : ℕ). drop n xs) place)

-- one slice more
pub crc_from-slice : (start k i : ℕ) (bytes : List ℕ) → i < k → crc_from start (take ((i + 1) * 8) bytes) ≡ crc_from (crc_from start (take (i * 8) bytes)) (get_or (first_chunks 8 k bytes) i [])
crc_from-slice start k i bytes inside =
    let place : (i + 1) * 8 ≡ i * 8 + 8 = omega arith in
    ap (λ (n : ℕ). crc_from start (take n bytes)) place
    ∙ ap (crc_from start) (take-add (i * 8) 8 bytes)
    ∙ crc_from-append start (take (i * 8) bytes) (take 8 (drop (i * 8) bytes))
    ∙ ap (crc_from (crc_from start (take (i * 8) bytes))) (sym (slice-at k i bytes inside))

pub crc_from-rest : (start n : ℕ) (bytes : List ℕ) → crc_from (crc_from start (take n bytes)) (drop n bytes) ≡ crc_from start bytes
crc_from-rest start n bytes = sym (crc_from-append start (take n bytes) (drop n bytes)) ∙ ap (crc_from start) (take-append-drop n bytes)
