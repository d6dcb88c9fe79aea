-- A pass that is cut in two keeps the rule.
use Rattle.std.proofs.Common.{◌≡◌, ⊎_elim, ℕ, ◌+◌, ◌-◌, ◌≤◌, ◌<◌, List, [], ◌∷◌, ◌++◌, length, set, Option, Some, None, IfSome, sym, ap, ◌∙◌, subst, arith}
use mathlib.Core.Option.{some}
use lib.ListN.{get_elem?}
use Rattle.atomic_table.specs.Table.{State, Splits}
use Rattle.atomic_table.proofs.Lists.{at_snoc}
use Rattle.kv_model.specs.Opening.{Opening}
use Rattle.turn_lock.specs.Books.{Book}
use Rattle.turn_lock.specs.Totals.{total, times}
use Rattle.turn_lock.specs.Views.{newcomer_beside, less_parts}
use Rattle.turn_lock.specs.Rule.{out, last, live, has_all, busy, Knows, Kept}
use Rattle.turn_lock.specs.declared.view.View.{View}
use Rattle.turn_lock.specs.declared.view.Phase.TheVariants.{Idle}
use Rattle.turn_lock.proofs.Totals.{total-set, total-push}
use Rattle.turn_lock.proofs.Prefixes.{nothing_begins}
use Rattle.turn_lock.proofs.Keeping as keeping

module _ {S : Type 0} (stands_for : S → Opening → Type 0) (book : S → Book) where
  module _ (id who parts : ℕ) (v : View) (idle : v.phase ≡ Idle) (some_parts : parts ≤ v.parts) (kept_parts : length v.own ≤ v.parts - parts) where
    abbrev left : View
    left = less_parts parts v

    abbrev right : View
    right = newcomer_beside v who parts

    module _ (s : State (Option S) View) (r : Kept stands_for book s) (at : get_elem? s.views id ≡ some v) where
      abbrev views : List View
      views = set s.views id left ++ right ∷ []

      -- a number that the two have together as the one had it
      cut : (f : View → ℕ) → f left + f right ≡ f v → total f views ≡ total f s.views
      cut f e = omega (arith, total-set f s.views id v left at, total-push f (set s.views id left) right, e)

      marked-still : (quitter : Option ℕ) → IfSome quitter (λ m. 0 < total (λ u. times m u.marks) s.views) → IfSome quitter (λ m. 0 < total (λ u. times m u.marks) views)
      marked-still (Some m) marked = omega (arith, marked, cut (λ u. times m u.marks) (omega arith))
      marked-still None marked = marked

      splits_kept : Kept stands_for book record { words = s.words; homes = s.homes; views = views }
      splits_kept =
          let k : Knows r.opening r.log r.quitter v = r.each id v at in
          let opened : v.opening ≡ r.opening = k.opened (omega (arith, ap live idle)) in
          let out_is : total (λ (u : View). out u.phase) views ≡ total (λ u. out u.phase) s.views = cut (λ u. out u.phase) (omega arith) in
          let last_is : total (λ (u : View). last u.phase) views ≡ total (λ u. last u.phase) s.views = cut (λ u. last u.phase) (omega arith) in
          let as_busy : busy views ≡ busy s.views = omega (arith, out_is, last_is) in
          let left_knows : Knows r.opening r.log r.quitter left = record {
            opened = k.opened;
            seen = k.seen;
            shorter = k.shorter;
            loaded = k.loaded;
            noted = k.noted;
            room = kept_parts;
            own = k.own;
            marks = k.marks;
          } in
          let right_knows : Knows r.opening r.log r.quitter right = record {
            opened = λ _. opened;
            seen = k.seen;
            shorter = nothing_begins r.log;
            loaded = λ e. absurd (cc e);
            noted = λ some_out. absurd (omega arith);
            room = omega arith;
            own = λ p some_own. absurd (omega arith);
            marks = λ m some_mark. absurd (omega arith);
          } in record {
            opening = r.opening;
            log = r.log;
            quitter = r.quitter;
            words = r.words ∙ (let same = sym as_busy in λ i. same i ∷ length r.log ∷ []);
            one = omega (arith, r.one, as_busy);
            single = r.single;
            home = λ all_home. r.home (omega (arith, all_home, out_is));
            each = λ j u there. ⊎_elim (λ (t : get_elem? (set s.views id left) j ≡ some u). keeping.each-set s.views id v left (Knows r.opening r.log r.quitter) r.each left_knows j u t)
                (λ (t : right ≡ u). subst (Knows r.opening r.log r.quitter) t right_knows) (at_snoc (set s.views id left) right u j there);
            whole = omega (arith, r.whole, total-set (has_all r.log) s.views id v left at, total-push (has_all r.log) (set s.views id left) right);
            owned = λ p. cut (λ u. times p u.own) (omega arith) ∙ r.owned p;
            made = cut (λ u. length u.own) (omega arith) ∙ r.made;
            parts = cut (λ u. u.parts) (omega arith) ∙ r.parts;
            marked = marked-still r.quitter r.marked;
          }

    pub splits_pass : Splits (Kept stands_for book) id v left right
    splits_pass s r at = splits_kept s r at
