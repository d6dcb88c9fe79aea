-- Two passes that become one keep the rule.
use Rattle.std.proofs.Common.{◌≡◌, ◌≢◌, ◌⊎◌, ⊎_elim, inl, inr, ℕ, zero, suc, Bool, true, false, cond, ◌+◌, ◌≤◌, ◌<◌, ltb, List, [], ◌∷◌, length, set, Option, Some, None, IfSome, refl, sym, ap, ◌∙◌, arith, length-append}
use mathlib.Core.Option.{some}
use mathlib.Core.List.{IsPrefix}
use lib.ListN.{get_elem?}
use Rattle.atomic_table.specs.Table.{State, Joins}
use Rattle.atomic_table.proofs.Lists.{set_else}
use Rattle.kv_model.specs.Opening.{Opening}
use Rattle.kv_model.specs.declared.call.Entry.{Entry}
use Rattle.turn_lock.specs.Books.{Book}
use Rattle.turn_lock.specs.Totals.{total, times}
use Rattle.turn_lock.specs.Views.{spent, longer, both}
use Rattle.turn_lock.specs.Rule.{out, last, has_all, busy, Knows, Kept}
use Rattle.turn_lock.specs.declared.view.View.{View}
use Rattle.turn_lock.specs.declared.view.Phase.TheVariants.{Idle}
use Rattle.turn_lock.proofs.Totals.{set_at, total-set, total-at, times-append}
use Rattle.turn_lock.proofs.Prefixes.{nothing_begins, longer_is}
use Rattle.turn_lock.proofs.Keeping as keeping

some_of : (a b : ℕ) → 0 < a + b → (0 < a) ⊎ (0 < b)
some_of zero b more = inr (omega arith)
some_of (suc a) b more = inl (omega arith)

one_of : (P : List Entry → Type 0) (xs ys : List Entry) → P xs → P ys → (b : Bool) → P (cond b xs ys)
one_of P xs ys p q true = p
one_of P xs ys p q false = q

-- of a list that is one of two, and no shorter than either
pub longer_as_long : (xs ys : List Entry) → (length xs ≤ length (longer xs ys)) × (length ys ≤ length (longer xs ys))
longer_as_long xs ys = longer_is (λ l. (length xs ≤ length l) × (length ys ≤ length l)) xs ys (λ less. (omega arith, omega arith)) (λ more. (omega arith, omega arith)) (ltb (length xs) (length ys)) refl

pub longer_begins : (xs ys zs : List Entry) → IsPrefix xs zs → IsPrefix ys zs → IsPrefix (longer xs ys) zs
longer_begins xs ys zs p q = longer_is (λ l. IsPrefix l zs) xs ys (λ _. q) (λ _. p) (ltb (length xs) (length ys)) refl

spent_knows : (opening : Opening) (log : List Entry) (quitter : Option ℕ) → Knows opening log quitter spent
spent_knows opening log quitter = record {
  opened = λ some_live. absurd (omega arith);
  seen = nothing_begins log;
  shorter = nothing_begins log;
  loaded = λ e. absurd (cc e);
  noted = λ some_out. absurd (omega arith);
  room = omega arith;
  own = λ p some_own. absurd (omega arith);
  marks = λ m some_mark. absurd (omega arith);
}

module _ {S : Type 0} (stands_for : S → Opening → Type 0) (book : S → Book) where
  module _ (id other : ℕ) (v w : View) (idle : v.phase ≡ Idle) (idle_too : w.phase ≡ Idle) where
    abbrev one : View
    one = both v w

    module _ (s : State (Option S) View) (r : Kept stands_for book s) (at : get_elem? s.views id ≡ some v) (apart : other ≢ id)
        (there : get_elem? (set s.views id one) other ≡ some w) where
      abbrev views : List View
      views = set (set s.views id one) other spent

      was_there : get_elem? s.views other ≡ some w
      was_there = sym (set_else s.views id other one apart) ∙ there

      here : get_elem? views id ≡ some one
      here = set_else (set s.views id one) other id spent (λ e. apart (sym e)) ∙ set_at s.views id v one at

      -- a number that the one has as the two had it together, and a spent view has not
      sum : (f : View → ℕ) → f one ≡ f v + f w → f spent ≡ 0 → total f views ≡ total f s.views
      sum f e none = omega (arith, total-set f s.views id v one at, total-set f (set s.views id one) other w spent there, e, none)

      marked-still : (quitter : Option ℕ) → IfSome quitter (λ m. 0 < total (λ u. times m u.marks) s.views) → IfSome quitter (λ m. 0 < total (λ u. times m u.marks) views)
      marked-still (Some m) marked = omega (arith, marked, sum (λ u. times m u.marks) (times-append m v.marks w.marks) refl)
      marked-still None marked = marked

      joins_kept : Kept stands_for book record { words = s.words; homes = s.homes; views = views }
      joins_kept =
          let k : Knows r.opening r.log r.quitter v = r.each id v at in
          let h : Knows r.opening r.log r.quitter w = r.each other w was_there in
          let as_long = longer_as_long v.seen w.seen in
          let v_out : out v.phase ≡ 0 = ap out idle in
          let w_out : out w.phase ≡ 0 = ap out idle_too in
          let v_last : last v.phase ≡ 0 = ap last idle in
          let w_last : last w.phase ≡ 0 = ap last idle_too in
          let out_is : total (λ (u : View). out u.phase) views ≡ total (λ u. out u.phase) s.views = sum (λ u. out u.phase) (omega arith) refl in
          let last_is : total (λ (u : View). last u.phase) views ≡ total (λ u. last u.phase) s.views = sum (λ u. last u.phase) (omega arith) refl in
          let as_busy : busy views ≡ busy s.views = omega (arith, out_is, last_is) in
          let knows : Knows r.opening r.log r.quitter one = record {
            opened = k.opened;
            seen = longer_begins v.seen w.seen r.log k.seen h.seen;
            shorter = one_of (λ l. IsPrefix l r.log) v.seen w.seen k.seen h.seen (ltb (length v.seen) (length w.seen));
            loaded = λ e. absurd (omega (arith, ap out e, v_out));
            noted = λ some_out. absurd (omega (arith, v_out));
            room = omega (arith, k.room, h.room, length-append v.own w.own);
            own = λ p some_own. ⊎_elim (λ in_v. omega (arith, k.own p in_v, as_long.0)) (λ in_w. omega (arith, h.own p in_w, as_long.1))
                (some_of (times p v.own) (times p w.own) (omega (arith, some_own, times-append p v.own w.own)));
            marks = λ m some_mark. ⊎_elim (k.marks m) (h.marks m) (some_of (times m v.marks) (times m w.marks) (omega (arith, some_mark, times-append m v.marks w.marks)));
          } in record {
            opening = r.opening;
            log = r.log;
            quitter = r.quitter;
            words = r.words ∙ (let same = sym as_busy in λ i. same i ∷ length r.log ∷ []);
            one = omega (arith, r.one, as_busy);
            single = r.single;
            home = λ all_home. r.home (omega (arith, all_home, out_is));
            each = keeping.each-set (set s.views id one) other w spent (Knows r.opening r.log r.quitter)
                (keeping.each-set s.views id v one (Knows r.opening r.log r.quitter) r.each knows) (spent_knows r.opening r.log r.quitter);
            whole = omega (
              arith,
              r.whole,
              total-at (has_all r.log) views id one here,
              total-set (has_all r.log) s.views id v one at,
              total-set (has_all r.log) (set s.views id one) other w spent there,
              as_long.0,
              as_long.1,
            );
            owned = λ p. sum (λ u. times p u.own) (times-append p v.own w.own) refl ∙ r.owned p;
            made = sum (λ u. length u.own) (length-append v.own w.own) refl ∙ r.made;
            parts = sum (λ u. u.parts) refl refl ∙ r.parts;
            marked = marked-still r.quitter r.marked;
          }

    pub joins_passes : Joins (Kept stands_for book) id v other w one spent
    joins_passes s r at apart there = joins_kept s r at apart there
