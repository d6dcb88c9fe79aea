use Rattle.std.proofs.Common.{◌≡◌, ℕ, zero, suc, ◌<◌, List, refl, arith, add-one}
use Rattle.aes_core.specs.Aes.{xor_bytes, word_at, turned_word, words_from, next_round_key, round_constant, round_key}
use Rattle.aes_core.proofs.laws.words_of_the_expanded_key.Goals as goal

first-next_round_key : (constant : ℕ) (key : List ℕ) → word_at (next_round_key constant key) 0 ≡ xor_bytes (word_at key 0) (turned_word constant (word_at key 3))
unfolding next_round_key words_from turned_word
first-next_round_key constant key = refl

others-next_round_key : (constant : ℕ) (key : List ℕ) (i : ℕ) → i < 3
    → word_at (next_round_key constant key) (suc i) ≡ xor_bytes (word_at key (suc i)) (word_at (next_round_key constant key) i)
unfolding next_round_key words_from turned_word
others-next_round_key constant key zero h = refl
others-next_round_key constant key (suc zero) h = refl
others-next_round_key constant key (suc (suc zero)) h = refl
others-next_round_key constant key (suc (suc (suc i))) h = absurd (omega (arith, h))

pub returns-clause-first : goal.returns-clause-first
unfolding round_key
returns-clause-first c key n = rw (add-one n) (first-next_round_key (round_constant n) (round_key key n))

pub returns-clause-others : goal.returns-clause-others
unfolding round_key
returns-clause-others c key n i h = rw (add-one n, add-one i) (others-next_round_key (round_constant n) (round_key key n) i h)
