use Rattle.std.proofs.Common.{◌≡◌, ℕ, suc, List, [], ◌∷◌, length, refl, ap, ◌∙◌, arith}
use Rattle.aes_core.specs.Aes.{xor_bytes, round_key, round_constant, next_round_key, words_from, turned_word, add_round_key, shift_rows, sub_bytes, after_rounds, encrypted}
use Rattle.aes_core.proofs.laws.ciphers_are_blocks.Goals as goal

length-xor_bytes : (xs ys : List ℕ) → length xs ≡ length ys → length (xor_bytes xs ys) ≡ length xs
length-xor_bytes [] ys h = refl
length-xor_bytes (x ∷ xs) [] h = absurd (omega (arith, h))
length-xor_bytes (x ∷ xs) (y ∷ ys) h = ap suc (length-xor_bytes xs ys (omega (arith, h)))

length-next_round_key : (constant : ℕ) (key : List ℕ) → length (next_round_key constant key) ≡ 16
unfolding next_round_key words_from turned_word
length-next_round_key constant key = refl

length-shift_rows : (s : List ℕ) → length (shift_rows s) ≡ 16
unfolding shift_rows
length-shift_rows s = refl

length-round_key : (key : List ℕ) (n : ℕ) → length (round_key key (suc n)) ≡ 16
unfolding round_key
length-round_key key n = length-next_round_key (round_constant n) (round_key key n)

pub returns : goal.returns
unfolding encrypted add_round_key
returns c key block =
    let state = shift_rows (sub_bytes (after_rounds key block 9)) in
    let last = length-round_key key 9 in
    let long = length-shift_rows (sub_bytes (after_rounds key block 9)) in
    length-xor_bytes state (round_key key 10) (omega (arith, last, long)) ∙ long
