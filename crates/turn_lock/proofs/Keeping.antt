-- One view changes, and the history stays: the rule stays too.
use Rattle.std.proofs.Common.{◌≡◌, ◌≢◌, ⊎_elim, ℕ, zero, suc, ◌+◌, ◌≤◌, ◌<◌, List, [], ◌∷◌, length, set, Option, Some, None, IfSome, ap, ◌∙◌, subst, arith}
use mathlib.Core.Option.{some}
use mathlib.Core.Option as maybe
use lib.ListN.{get_elem?}
use Rattle.atomic_table.specs.Table.{State}
use Rattle.atomic_table.proofs.Lists.{at_set}
use Rattle.kv_model.specs.Opening.{Opening}
use Rattle.kv_model.specs.declared.call.Entry.{Entry}
use Rattle.turn_lock.specs.Books.{Book}
use Rattle.turn_lock.specs.Totals.{total, times, once}
use Rattle.turn_lock.specs.Views.{ALL}
use Rattle.turn_lock.specs.Rule.{out, last, has_all, busy, Knows, Fits, Kept}
use Rattle.turn_lock.specs.declared.view.View.{View}
use Rattle.turn_lock.specs.Steps.{IsProper}
use Rattle.turn_lock.proofs.Prefixes.{begins_length}
use Rattle.turn_lock.proofs.Totals.{total-set, total-at, total-le}

-- a view in place of another that knows as much, in the totals
pub record IsAsMuch (log : List Entry) (v w : View) : Type 0 where
  pub own : w.own ≡ v.own
  pub parts : w.parts ≡ v.parts
  pub marks : w.marks ≡ v.marks
  pub whole : has_all log v ≤ has_all log w

seen-once : (p n all seen : ℕ) → n ≤ once p all → (0 < n → p ≤ seen) → n ≤ once p seen
seen-once p zero all seen le known = omega arith
seen-once zero (suc n) all seen le known = absurd (omega arith)
seen-once (suc k) (suc n) all seen le known = omega (arith, known (omega arith))

-- what every view has, where one is changed
pub each-set : (views : List View) (id : ℕ) (v w : View) (P : View → Type 0) → ((k : ℕ) (u : View) → get_elem? views k ≡ some u → P u) → P w
    → (k : ℕ) (u : View) → get_elem? (set views id w) k ≡ some u → P u
each-set views id v w P each new k u at =
    ⊎_elim (λ (t : (k ≡ id) × (w ≡ u)). subst P t.1 new) (λ (t : (k ≢ id) × (get_elem? views k ≡ some u)). each k u t.1) (at_set views id k w u at)

module _ {S : Type 0} (stands_for : S → Opening → Type 0) (book : S → Book) where
  abbrev St : Type 0
  St = State (Option S) View

  abbrev pub Home : (homes : List (maybe.Option (Option S))) → Opening → List Entry → Option ℕ → Type 0
  Home homes opening log quitter = (x : S) × (get_elem? homes 0 ≡ some (some (Some x))) × Fits stands_for book opening log quitter x

  module _ (s : St) (r : Kept stands_for book s) (id : ℕ) (v w : View) (at : get_elem? s.views id ≡ some v) where
    abbrev Views : List View
    Views = set s.views id w

    same-total : (f : View → ℕ) → f w ≡ f v → total f Views ≡ total f s.views
    same-total f e = omega (arith, total-set f s.views id v w at, e)

    still-marked : w.marks ≡ v.marks → (quitter : Option ℕ) → IfSome quitter (λ who. 0 < total (λ u. times who u.marks) s.views) → IfSome quitter (λ who. 0 < total (λ u. times who u.marks) Views)
    still-marked e (Some who) marked = omega (arith, marked, same-total (λ u. times who u.marks) (ap (times who) e))
    still-marked e None marked = marked

    pub busy-set : busy Views + (out v.phase + last v.phase) ≡ busy s.views + (out w.phase + last w.phase)
    busy-set = omega (arith, total-set (λ u. out u.phase) s.views id v w at, total-set (λ u. last u.phase) s.views id v w at)

    pub keeps : (words : List ℕ) (homes : List (maybe.Option (Option S))) → words ≡ busy Views ∷ length r.log ∷ [] → busy Views ≤ 1 → length homes ≡ 1
        → (total (λ u. out u.phase) Views ≡ 0 → Home homes r.opening r.log r.quitter)
        → IsAsMuch r.log v w → Knows r.opening r.log r.quitter w → Kept stands_for book record { words = words; homes = homes; views = Views }
    keeps words homes words_are one single home much knows = record {
      opening = r.opening;
      log = r.log;
      quitter = r.quitter;
      words = words_are;
      one = one;
      single = single;
      home = home;
      each = each-set s.views id v w (Knows r.opening r.log r.quitter) r.each knows;
      whole = omega (arith, r.whole, total-set (has_all r.log) s.views id v w at, much.whole);
      owned = λ p. same-total (λ u. times p u.own) (ap (times p) much.own) ∙ r.owned p;
      made = same-total (λ u. length u.own) (ap length much.own) ∙ r.made;
      parts = same-total (λ u. u.parts) much.parts ∙ r.parts;
      marked = still-marked much.marks r.quitter r.marked;
    }

  -- the history is no longer than all parts
  pub short : (s : St) (r : Kept stands_for book s) → length r.log ≤ ALL
  short s r = omega (arith, r.made, r.parts, total-le (λ (u : View). length u.own) (λ u. u.parts) s.views (λ k u at. (r.each k u at).room))

  -- what the rule says of each view by itself
  pub proper : (s : St) (r : Kept stands_for book s) (id : ℕ) (v : View) → get_elem? s.views id ≡ some v → IsProper v
  proper s r id v at =
      let k : Knows r.opening r.log r.quitter v = r.each id v at in record {
        parts = omega (arith, r.parts, total-at (λ (u : View). u.parts) s.views id v at);
        room = k.room;
        seen = omega (arith, begins_length v.seen r.log k.seen, short s r);
        own = λ p. seen-once p (times p v.own) (length r.log) (length v.seen) (omega (arith, r.owned p, total-at (λ (u : View). times p u.own) s.views id v at)) (k.own p);
      }
