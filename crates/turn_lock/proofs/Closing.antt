-- What the last turn leaves.
use Rattle.std.proofs.Common.{◌≡◌, ℕ, ◌≤◌, List, length, set, Option, Some, sym, ap, ◌∙◌, subst, arith}
use mathlib.Core.Option.{some}
use mathlib.Core.List.{IsPrefix}
use lib.ListN.{get_elem?}
use Rattle.atomic_table.specs.Table.{State}
use Rattle.kv_model.specs.Opening.{Opening}
use Rattle.turn_lock.specs.Books.{Book}
use Rattle.turn_lock.specs.Totals.{total, times, once}
use Rattle.turn_lock.specs.Views.{ALL, spent, taken, loaded, in_phase, with_found}
use Rattle.turn_lock.specs.Rule.{last, live, Knows, Fits, Kept}
use Rattle.turn_lock.specs.Passes.{HasClosed}
use Rattle.turn_lock.specs.declared.view.View.{View}
use Rattle.turn_lock.specs.declared.view.Phase.TheVariants.{Closing}
use Rattle.turn_lock.proofs.Totals.{total-set, total-at, total-le, times-length}
use Rattle.turn_lock.proofs.Prefixes.{begins_within}
use Rattle.turn_lock.proofs.Keeping.{Home}
use Rattle.turn_lock.proofs.Keeping as keeping

module _ {S : Type 0} (stands_for : S → Opening → Type 0) (book : S → Book) where
  module _ (s : State (Option S) View) (r : Kept stands_for book s) (id : ℕ) (v : View) (at : get_elem? s.views id ≡ some v) where
    -- no other pass has a part
    abbrev others : List View
    others = set s.views id spent

    no_others : v.parts ≡ ALL → (p : ℕ) → total (λ (u : View). times p u.own) others ≡ 0
    no_others all p =
        let room : (k : ℕ) (u : View) → get_elem? others k ≡ some u → length u.own ≤ u.parts =
        keeping.each-set s.views id spent spent (λ u. length u.own ≤ u.parts) (λ k u there. (r.each k u there).room) (omega arith) in
        omega (
          arith,
          all,
          r.parts,
          total-set (λ (u : View). u.parts) s.views id v spent at,
          total-le (λ (u : View). times p u.own) (λ u. u.parts) others (λ k u there. omega (arith, room k u there, times-length p u.own)),
        )

    pub closes : v.phase ≡ Closing → (x : S) × (get_elem? s.homes 0 ≡ some (some (Some x))) × HasClosed stands_for book v x
    closes closing =
        let k : Knows r.opening r.log r.quitter v = r.each id v at in
        let last_is : last v.phase ≡ 1 = ap last closing in
        let home : Home stands_for book s.homes r.opening r.log r.quitter = r.home (omega (arith, r.one, total-at (λ (u : View). last u.phase) s.views id v at)) in
        let x : S = home.0 in
        let fits : Fits stands_for book r.opening r.log r.quitter x = home.2 in (
          x,
          home.1,
          record {
            stands = subst (stands_for x) (sym (k.opened (omega (arith, ap live closing)))) fits.stands;
            seen = subst (IsPrefix v.seen) (sym fits.entries) k.seen;
            marks = λ who some_mark. fits.first ∙ k.marks who some_mark;
            short = omega (arith, ap length fits.entries, keeping.short stands_for book s r);
            owned = λ all p. omega (arith, no_others all p, r.owned p, total-set (λ (u : View). times p u.own) s.views id v spent at) ∙ ap (λ l. once p (length l)) (sym fits.entries);
          },
        )

  -- what is known after the last turn is known of the pass that took it
  pub closes_pass : (b : Book) (found : List ℕ) (v w : View) (x : S) → w ≡ in_phase Closing (loaded (taken b (with_found found v))) → IsPrefix v.seen b.entries
      → HasClosed stands_for book w x → HasClosed stands_for book v x
  closes_pass b found v w x is begins closed =
      let h : HasClosed stands_for book (in_phase Closing (loaded (taken b (with_found found v)))) x = subst (λ u. HasClosed stands_for book u x) is closed in record {
        stands = h.stands;
        seen = begins_within v.seen b.entries (book x).entries begins h.seen;
        marks = h.marks;
        short = h.short;
        owned = h.owned;
      }
