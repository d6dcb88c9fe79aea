-- The lines of a script that is drawn.
use Rattle.std.proofs.Common.{◌≡◌, ℕ, zero, suc, ◌+◌, ◌<◌, ◌≤◌, ◌%◌, Bool, true, false, List, [], ◌∷◌, ◌++◌, length, replicate, get_or, refl, sym, ◌∙◌, ap, subst, arith, zero-add}
use Rattle.std.specs.Prelude.{IsTrue, All, codes, map, nat_lt, ◌==◌, if◌then◌else◌}
use Rattle.std.specs.Fmt.{decimal, digits}
use Rattle.std.specs.List.{range_with_len}
use Rattle.std.proofs.Math.Nat.{mod-lt}
use Rattle.std.proofs.lemmas.List.{append-nil, append_assoc, get_or-replicate}
use Rattle.std.proofs.lemmas.List.Elements.{All-cons, All-nil}
use Rattle.std.proofs.lemmas.List.FromFn.{get_or-map-range_with_len}
use Rattle.flash_sim.specs.Patterns.{next_number}
use Rattle.kv_model.specs.declared.call.Call.TheVariants as call
use Rattle.script_core.specs.declared.line.Act.TheVariants.{Do}
use Rattle.script_core.specs.declared.line.Line.{Line}
use Rattle.script_core.specs.Grammar.{AreLines, IsLine, is_key_word}
use Rattle.kv_tools.specs.Generating.{drawn, fourth, key_of, kind_of, line_at, lines_from, number_behind, third}

-- ---- each line is one of a script

abbrev is_word : ℕ → Bool
is_word n = is_key_word (codes "k" ++ decimal n)

words : map is_word (range_with_len 0 24) ≡ replicate 24 true
unfolding is_key_word digits
words = refl

valid_word : (n : ℕ) → n < 24 → IsTrue (is_word n)
valid_word n lt =
    sym (get_or-map-range_with_len is_word 0 24 n n false lt (zero-add n))
    ∙ ap (λ (xs : List Bool). get_or xs n false) words
    ∙ get_or-replicate 24 n true false lt

valid_by : (who : ℕ) (key value : List ℕ) → 1 ≤ who → who ≤ 16 → IsTrue (is_key_word key) → (a b c : Bool)
    → IsLine (record { who = who; act = Do (if a then call.Set key value (record { bits = 0 }) else (if b then call.Get key else (if c then call.Remove key else call.Info key))) })
valid_by who key value some most word true b c = ((some, most), (word, (false, false, false, refl)))
valid_by who key value some most word false true c = ((some, most), word)
valid_by who key value some most word false false true = ((some, most), word)
valid_by who key value some most word false false false = ((some, most), word)

module _ (clients : ℕ) (some : 1 ≤ clients) (most : clients ≤ 16) where
  valid_line : (place number : ℕ) → IsLine (line_at clients place number)
  valid_line place number =
      let kind : ℕ = kind_of number in
      let below : drawn (next_number number) % clients < clients = mod-lt (drawn (next_number number)) some in
      valid_by _ (key_of (drawn (third number))) (replicate (drawn (fourth number) % 40) (place % 256)) (omega arith) (omega (arith, below, most))
      (valid_word (drawn (third number) % 24) (mod-lt (drawn (third number)) (omega arith))) (nat_lt kind 4) (nat_lt kind 6) (kind == 6)

  valid_from : (place number n : ℕ) → All IsLine (lines_from clients place number n)
  unfolding lines_from
  valid_from place number zero = All-nil IsLine
  valid_from place number (suc n) = All-cons IsLine _ _ (valid_line place number) (valid_from (place + 1) (number_behind number) n)

  length-from : (place number n : ℕ) → length (lines_from clients place number n) ≡ n
  unfolding lines_from
  length-from place number zero = refl
  length-from place number (suc n) = ap suc (length-from (place + 1) (number_behind number) n)

  pub are_lines : (seed calls : ℕ) (lines : List Line) → calls ≤ 8192 → lines ≡ lines_from clients 1 seed calls → AreLines lines
  are_lines seed calls lines few is = subst AreLines (sym is) (record {
    count = omega (arith, length-from 1 seed calls, few);
    each = valid_from 1 seed calls;
  })

-- ---- the loop

-- one line more
pub one_more : (clients place number left next : ℕ) (lines whole : List Line) (line : Line) → left ≡ suc next
    → lines ++ lines_from clients place number left ≡ whole → line ≡ line_at clients place number
    → (lines ++ line ∷ []) ++ lines_from clients (place + 1) (number_behind number) next ≡ whole
unfolding lines_from
one_more clients place number left next lines whole line is before this =
    append_assoc lines (line ∷ []) (lines_from clients (place + 1) (number_behind number) next)
    ∙ ap (λ (l : Line). lines ++ l ∷ lines_from clients (place + 1) (number_behind number) next) this
    ∙ ap (λ (n : ℕ). lines ++ lines_from clients place number n) (sym is)
    ∙ before

-- no line is left
pub no_more : (clients place number left : ℕ) (lines whole : List Line) → left ≡ 0 → lines ++ lines_from clients place number left ≡ whole → lines ≡ whole
unfolding lines_from
no_more clients place number left lines whole none is =
    sym (append-nil lines) ∙ ap (λ (n : ℕ). lines ++ lines_from clients place number n) (sym none) ∙ is
