-- AES-128, as FIPS 197 defines it. A state is the list of its sixteen bytes, column by column: the byte
-- in row r of column c is at r + 4 * c. A round key and a word are lists of bytes too.
use Rattle.std.specs.Prelude.{ℕ, ◌+◌, ◌*◌, ◌/◌, ◌%◌, ◌^◌, zero, suc, nat_lt, if◌then◌else◌, List, [], ◌∷◌, ◌++◌, bit_xor, slice_index}

-- the sum of two elements, and the exclusive or of two bytes or words
infixl 68 ◌⊕◌
abbrev pub ◌⊕◌ : ℕ → ℕ → ℕ
x ⊕ y = bit_xor x y

-- ---- the field of 2 ^ 8 elements: a byte is the polynomial whose coefficients are its bits

-- x times an element: a shift, reduced by x ^ 8 + x ^ 4 + x ^ 3 + x + 1
unfoldable pub times_x : ℕ → ℕ
times_x a = if nat_lt a 128 then 2 * a else 2 * a ⊕ 0x11b

-- a times the n lowest bits of b
unfoldable pub product_of_bits : ℕ → ℕ → ℕ → ℕ
product_of_bits zero a b = 0
product_of_bits (suc n) a b = b % 2 * a ⊕ product_of_bits n (times_x a) (b / 2)

-- the product of two elements
unfoldable pub product : ℕ → ℕ → ℕ
product a b = product_of_bits 8 a b

-- a * a ^ 2 * a ^ 4 * .., n factors
unfoldable pub product_of_squares : ℕ → ℕ → ℕ
product_of_squares zero a = 1
product_of_squares (suc n) a = product a (product_of_squares n (product a a))

-- the inverse of an element, and 0 for 0: its power 254 = 2 + 4 + .. + 128
unfoldable pub inverse : ℕ → ℕ
inverse a = product_of_squares 7 (product a a)

-- ---- the S-box

-- the eight bits of b turned left by k places
unfoldable pub rotated_left : ℕ → ℕ → ℕ
rotated_left b k = b * 2 ^ k % 256 + b * 2 ^ k / 256

-- bit i becomes the sum of the bits i, i + 4, i + 5, i + 6, i + 7 (modulo 8), and of bit i of 0x63
unfoldable pub affine : ℕ → ℕ
affine b = b ⊕ rotated_left b 1 ⊕ rotated_left b 2 ⊕ rotated_left b 3 ⊕ rotated_left b 4 ⊕ 0x63

-- what a byte is replaced by
unfoldable pub s_box : ℕ → ℕ
s_box a = affine (inverse a)

-- ---- the steps of a round

-- the byte in a row of a column
abbrev pub byte_at : List ℕ → ℕ → ℕ → ℕ
byte_at s row column = slice_index s (row + 4 * column)

-- the state with f row column in each place
abbrev pub state_of : (ℕ → ℕ → ℕ) → List ℕ
state_of f =
    f 0 0 ∷ f 1 0 ∷ f 2 0 ∷ f 3 0 ∷ f 0 1 ∷ f 1 1 ∷ f 2 1 ∷ f 3 1
    ∷ f 0 2 ∷ f 1 2 ∷ f 2 2 ∷ f 3 2 ∷ f 0 3 ∷ f 1 3 ∷ f 2 3 ∷ f 3 3 ∷ []

-- each byte goes through the S-box
unfoldable pub sub_bytes : List ℕ → List ℕ
sub_bytes s = state_of (λ row column. s_box (byte_at s row column))

-- row r turns left by r places
unfoldable pub shift_rows : List ℕ → List ℕ
shift_rows s = state_of (λ row column. byte_at s row ((column + row) % 4))

-- a column times the polynomial 3 x ^ 3 + x ^ 2 + x + 2, modulo x ^ 4 + 1
unfoldable pub mixed_column : ℕ → ℕ → ℕ → ℕ → List ℕ
mixed_column a b c d =
    product 2 a ⊕ product 3 b ⊕ c ⊕ d
    ∷ a ⊕ product 2 b ⊕ product 3 c ⊕ d
    ∷ a ⊕ b ⊕ product 2 c ⊕ product 3 d
    ∷ product 3 a ⊕ b ⊕ c ⊕ product 2 d
    ∷ []

-- the same of a column of a state
abbrev pub mixed_column_of : List ℕ → ℕ → List ℕ
mixed_column_of s column = mixed_column (byte_at s 0 column) (byte_at s 1 column) (byte_at s 2 column) (byte_at s 3 column)

-- each column is mixed
unfoldable pub mix_columns : List ℕ → List ℕ
mix_columns s = mixed_column_of s 0 ++ (mixed_column_of s 1 ++ (mixed_column_of s 2 ++ mixed_column_of s 3))

-- the exclusive or, byte by byte; what the longer list has beyond the other is left out
abbrev pub xor_bytes : List ℕ → List ℕ → List ℕ
xor_bytes [] ys = []
xor_bytes (x ∷ xs) [] = []
xor_bytes (x ∷ xs) (y ∷ ys) = x ⊕ y ∷ xor_bytes xs ys

-- a state, combined with a round key
unfoldable pub add_round_key : List ℕ → List ℕ → List ℕ
add_round_key s key = xor_bytes s key

-- ---- the round keys

-- x ^ n, the constant of round key n + 1
unfoldable pub round_constant : ℕ → ℕ
round_constant zero = 1
round_constant (suc n) = times_x (round_constant n)

-- word i of a round key
abbrev pub word_at : List ℕ → ℕ → List ℕ
word_at key i = byte_at key 0 i ∷ byte_at key 1 i ∷ byte_at key 2 i ∷ byte_at key 3 i ∷ []

-- a word turned left by a byte, each byte through the S-box, and the constant added to the first
unfoldable pub turned_word : ℕ → List ℕ → List ℕ
turned_word constant word =
    s_box (slice_index word 1) ⊕ constant ∷ s_box (slice_index word 2) ∷ s_box (slice_index word 3) ∷ s_box (slice_index word 0) ∷ []

-- the round key with this first word after another one: each word is the sum of the one before it and of the one
-- four before it
unfoldable pub words_from : List ℕ → List ℕ → List ℕ
words_from key first =
    let second = xor_bytes (word_at key 1) first in
    let third = xor_bytes (word_at key 2) second in
    first ++ (second ++ (third ++ xor_bytes (word_at key 3) third))

-- the first word is the sum of the one four before it and of the turned last word
unfoldable pub next_round_key : ℕ → List ℕ → List ℕ
next_round_key constant key = words_from key (xor_bytes (word_at key 0) (turned_word constant (word_at key 3)))

-- round key 0 is the key
unfoldable pub round_key : List ℕ → ℕ → List ℕ
round_key key zero = key
round_key key (suc n) = next_round_key (round_constant n) (round_key key n)

-- ---- the cipher

-- a block after n rounds
unfoldable pub after_rounds : List ℕ → List ℕ → ℕ → List ℕ
after_rounds key block zero = add_round_key block (round_key key 0)
after_rounds key block (suc n) = add_round_key (mix_columns (shift_rows (sub_bytes (after_rounds key block n)))) (round_key key (suc n))

-- ten rounds, of which the last mixes no columns
unfoldable pub encrypted : List ℕ → List ℕ → List ℕ
encrypted key block = add_round_key (shift_rows (sub_bytes (after_rounds key block 9))) (round_key key 10)
