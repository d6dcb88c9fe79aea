-- The round keys so far, and the rounds so far.
use Rattle.std.proofs.Common.{◌≡◌, ℕ, zero, suc, ◌+◌, ◌<◌, List, ◌∷◌, length, get_or, set, refl, sym, ap, ap₂, inl, inr, ◌∙◌, arith, add-one, get_or-set_other}
use Rattle.std.specs.List.{range_with_len}
use Rattle.std.specs.Prelude.{map}
use Rattle.std.proofs.lemmas.List.FromFn.{get_or-map-range_with_len}
use Rattle.std.proofs.lemmas.Bool.{cases_eq}
use Rattle.std.proofs.lemmas.Grind.{get_or-set_at}
use Rattle.aes_core.specs.Aes.{round_key, round_constant, times_x, next_round_key, after_rounds, add_round_key, mix_columns, shift_rows, sub_bytes}
use Rattle.aes_core.specs.Words.{bytes_of, AreRoundKeys}
use Rattle.aes_core.specs.declared.columns.Columns.{Columns}
use Rattle.aes_core.specs.declared.TheConstants.{ROUND_CONSTANTS}

pub get_or-ROUND_CONSTANTS : (n : ℕ) → n < 10 → get_or ROUND_CONSTANTS n 0 ≡ round_constant n
unfolding round_constant times_x
get_or-ROUND_CONSTANTS n h =
    let computed : ROUND_CONSTANTS ≡ map round_constant (range_with_len 0 10) = refl in
    ap (λ (xs : List ℕ). get_or xs n 0) computed ∙ get_or-map-range_with_len round_constant 0 10 n n 0 h (omega arith)

round_key-more : (key : List ℕ) (n : ℕ) → round_key key (n + 1) ≡ next_round_key (round_constant n) (round_key key n)
unfolding round_key
round_key-more key n = rw (add-one n) refl

pub after_rounds-more : (key block : List ℕ) (n : ℕ)
    → after_rounds key block (n + 1) ≡ add_round_key (mix_columns (shift_rows (sub_bytes (after_rounds key block n)))) (round_key key (n + 1))
unfolding after_rounds
after_rounds-more key block n = rw (add-one n) refl

pub AreRoundKeys-none : (key : List ℕ) (k : Columns) (keys : List Columns) → bytes_of k ≡ key → AreRoundKeys key 0 (k ∷ keys)
unfolding round_key
AreRoundKeys-none key k keys e zero d h = e
AreRoundKeys-none key k keys e (suc n) d h = absurd (omega (arith, h))

pub AreRoundKeys-more : (key : List ℕ) (keys : List Columns) (last constant : ℕ) (b next : Columns)
    → AreRoundKeys key last keys → last + 1 < length keys → constant ≡ round_constant last
    → bytes_of next ≡ next_round_key constant (bytes_of (get_or keys last b)) → AreRoundKeys key (last + 1) (set keys (last + 1) next)
AreRoundKeys-more key keys last constant b next known within of step n d h =
    elim (cases_eq n (last + 1)) [
      | inl e ↦ ap bytes_of (get_or-set_at keys (last + 1) n next d e within) ∙ step
          ∙ ap₂ next_round_key of (known last b (omega arith)) ∙ sym (round_key-more key last) ∙ ap (round_key key) (sym e)
      | inr ne ↦ ap bytes_of (get_or-set_other keys (last + 1) n next d ne) ∙ known n d (omega arith)
    ]
