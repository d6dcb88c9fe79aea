-- What the rule says of two passes.
use Rattle.std.proofs.Common.{◌≡◌, ◌≢◌, ◌⊎◌, inl, inr, ℕ, zero, suc, ◌+◌, ◌≤◌, ◌<◌, List, length, set, refl, sym, ◌∙◌, arith, lt_of_not-le}
use mathlib.Core.Option.{some}
use mathlib.Core.Logic.{dite}
use mathlib.Core.List.{IsPrefix}
use native.Mathlib.Decide.{dec_le}
use lib.ListN.{get_elem?}
use Rattle.atomic_table.proofs.Lists.{set_else}
use Rattle.kv_model.specs.Opening.{Opening}
use Rattle.kv_model.specs.declared.call.Entry.{Entry}
use Rattle.turn_lock.specs.Books.{Book}
use Rattle.turn_lock.specs.Totals.{total, times, once}
use Rattle.turn_lock.specs.Views.{spent}
use Rattle.turn_lock.specs.Rule.{out, PassesAgree}
use Rattle.turn_lock.specs.declared.view.View.{View}
use Rattle.turn_lock.proofs.Totals.{total-set, total-at}
use Rattle.turn_lock.proofs.Prefixes.{shorter_begins}

once-at-most : (p n : ℕ) → once p n ≤ 1
once-at-most zero n = omega arith
once-at-most (suc k) n = omega arith

-- two of the views have together no more than all
total-two : (f : View → ℕ) → f spent ≡ 0 → (views : List View) (i j : ℕ) (v w : View) → i ≢ j → get_elem? views i ≡ some v → get_elem? views j ≡ some w → f v + f w ≤ total f views
total-two f none views i j v w apart at there =
    omega (arith, none, total-set f views i v spent at, total-at f (set views i spent) j w (set_else views i j spent (λ e. apart (sym e)) ∙ there))

one_begins : (xs ys log : List Entry) → IsPrefix xs log → IsPrefix ys log → IsPrefix xs ys ⊎ IsPrefix ys xs
one_begins xs ys log p q = dite (dec_le (length xs) (length ys)) (λ le. inl (shorter_begins xs ys log p q le))
    (λ more. let less : length ys < length xs = lt_of_not-le more in inr (shorter_begins ys xs log q p (omega arith)))

module _ {S : Type 0} (stands_for : S → Opening → Type 0) (book : S → Book) where
  pub passes_agree : PassesAgree stands_for book
  passes_agree s r i j v w apart at there = record {
    turn = omega (arith, r.one, total-two (λ (u : View). out u.phase) refl s.views i j v w apart at there);
    seen = one_begins v.seen w.seen r.log (r.each i v at).seen (r.each j w there).seen;
    own = λ p. omega (arith, r.owned p, once-at-most p (length r.log), total-two (λ (u : View). times p u.own) refl s.views i j v w apart at there);
  }
