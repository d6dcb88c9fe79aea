-- The store that notes the history keeps the rule.
use Rattle.std.proofs.Common.{◌≡◌, ◌≢◌, ◌⊎◌, ⊎_elim, inl, inr, ℕ, ◌+◌, ◌≤◌, ◌<◌, Bool, true, false, cond, ltb, List, [], ◌∷◌, ◌++◌, length, set, Option, Some, None, IfSome, refl, sym, ap, ◌∙◌, subst, arith, length-append, slice_set}
use Rattle.std.proofs.lemmas.Bool.{ltb-true, ltb-false}
use mathlib.Core.Option.{some}
use mathlib.Core.Logic.{dite}
use mathlib.Core.List.{IsPrefix}
use native.Mathlib.Decide.{ℕ_discrete}
use lib.ListN.{get_elem?}
use Rattle.atomic_table.specs.Table.{State, keeps, Allows}
use Rattle.atomic_table.proofs.Lists.{at_set, set_else}
use Rattle.kv_model.specs.Opening.{Opening}
use Rattle.turn_lock.specs.Books.{Book}
use Rattle.turn_lock.specs.Totals.{total, times, once}
use Rattle.turn_lock.specs.Views.{ALL, spent, marks_after, noted}
use Rattle.turn_lock.specs.Rule.{out, has_all, busy, Knows, Kept}
use Rattle.turn_lock.specs.Steps.{Seated, IsNext, Notes}
use Rattle.turn_lock.specs.declared.view.View.{View}
use Rattle.turn_lock.specs.declared.view.Phase.TheVariants.{Loaded}
use Rattle.turn_lock.proofs.Totals.{set_at, total-set, total-at, times-append, is_one-same, is_one-other, once-more}
use Rattle.turn_lock.proofs.Prefixes.{whole_begins, begins_within, begins_length}
use Rattle.turn_lock.proofs.Keeping as keeping

-- the positions that a pass owns once the history has gone on from `before` to `after` entries
record Gains (before after : ℕ) (v : View) (own : List ℕ) : Type 0 where
  each : (p : ℕ) → once p after + times p v.own ≡ once p before + times p own
  long : length own + before ≡ length v.own + after
  room : length own ≤ v.parts
  known : (p : ℕ) → 0 < times p own → p ≤ after

gains-more : (before : ℕ) (v : View) → length v.own < v.parts → ((p : ℕ) → 0 < times p v.own → p ≤ before) → Gains before (before + 1) v (v.own ++ (before + 1) ∷ [])
gains-more before v room known = record {
  each = λ p. omega (arith, once-more p before, times-append p v.own ((before + 1) ∷ []));
  long = omega (arith, length-append v.own ((before + 1) ∷ []));
  room = omega (arith, length-append v.own ((before + 1) ∷ []));
  known = λ p some_own. dite (ℕ_discrete p (before + 1)) (λ same. omega arith)
      (λ other. let old : 0 < times p v.own = omega (arith, times-append p v.own ((before + 1) ∷ []), is_one-other p (before + 1) other) in omega (arith, known p old));
}

gains : (before after : ℕ) (v : View) → before ≤ after → after ≤ before + 1 → (before < after → length v.own < v.parts) → length v.own ≤ v.parts → ((p : ℕ) → 0 < times p v.own → p ≤ before)
    → (b : Bool) → ltb before after ≡ b → Gains before after v (cond b (v.own ++ after ∷ []) v.own)
gains before after v le one room full known true is =
    let less : before < after = ltb-true before after is in
    let next : before + 1 ≡ after = omega arith in
    subst (λ n. Gains before n v (v.own ++ n ∷ [])) next (gains-more before v (room less) known)
gains before after v le one room full known false is =
    let same : before ≡ after = omega (arith, ltb-false before after is) in
    subst (λ n. Gains before n v v.own) same record { each = λ p. refl; long = refl; room = full; known = known }

-- the first that quit stays, or is new
abbrev Follows : ℕ → Option ℕ → Option ℕ → Type 0
Follows who first next = (next ≡ first) ⊎ ((first ≡ None) × (next ≡ Some who))

stays-first : (who : ℕ) (first next : Option ℕ) (m : ℕ) → Follows who first next → first ≡ Some m → next ≡ Some m
stays-first who first next m (inl same) is = same ∙ is
stays-first who first next m (inr new) is = absurd (let e : None ≡ Some m = sym new.0 ∙ is in cc e)

marks-known : (who : ℕ) (first next : Option ℕ) (marks : List ℕ) → Follows who first next → ((m : ℕ) → 0 < times m marks → first ≡ Some m)
    → (m : ℕ) → 0 < times m (marks_after first next marks) → next ≡ Some m
marks-known who None None marks step known m some_mark = known m some_mark
marks-known who (Some first) next marks step known m some_mark = stays-first who (Some first) next m step (known m some_mark)
marks-known who None (Some next) marks step known m some_mark = dite (ℕ_discrete m next) (λ same. ap (λ x. Some x) (sym same))
    (λ other. let old : 0 < times m marks = omega (arith, times-append m marks (next ∷ []), is_one-other m next other) in absurd (let e : None ≡ Some m = known m old in cc e))

still-marked : (who : ℕ) (first next : Option ℕ) (marks : List ℕ) (before after : ℕ → ℕ) → Follows who first next
    → ((m : ℕ) → after m + times m marks ≡ before m + times m (marks_after first next marks)) → ((m : ℕ) → times m (marks_after first next marks) ≤ after m)
    → IfSome first (λ m. 0 < before m) → IfSome next (λ m. 0 < after m)
still-marked who first None marks before after step moved at marked = tt
still-marked who None (Some next) marks before after step moved at marked = omega (arith, at next, times-append next marks (next ∷ []), is_one-same next)
still-marked who (Some first) (Some next) marks before after (inl same) moved at marked =
    let e : first ≡ next = cc same in subst (λ m. 0 < after m) e (omega (arith, moved first, marked))
still-marked who (Some first) (Some next) marks before after (inr new) moved at marked = absurd (let e : Some first ≡ None = new.0 in cc e)

module _ {S : Type 0} (stands_for : S → Opening → Type 0) (book : S → Book) where
  abbrev St : Type 0
  St = State (Option S) View

  abbrev Rule : St → Type 0
  Rule = Kept stands_for book

  -- no other pass has the turn
  alone : (s : St) (r : Rule s) (id k : ℕ) (v u : View) → get_elem? s.views id ≡ some v → out v.phase ≡ 1 → k ≢ id → get_elem? s.views k ≡ some u → out u.phase ≡ 0
  alone s r id k v u at is other there = omega (
    arith,
    r.one,
    total-set (λ (x : View). out x.phase) s.views id v spent at,
    total-at (λ (x : View). out x.phase) (set s.views id spent) k u (set_else s.views id k spent other ∙ there),
  )

  pub notes_turn : (b : Book) (slots id n : ℕ) (me : Seated S) → me.0.phase ≡ Loaded → IsNext me.0 b → n ≡ length b.entries → Allows Rule slots id me 1 (λ _. n) (λ _. Notes b me n)
  notes_turn b slots id n me turn next count s r wide at range =
      let v : View = me.0 in
      let k : Knows r.opening r.log r.quitter v = r.each id v at in
      let w : View = noted b v in
      let views : List View = set s.views id w in
      let out_is : out v.phase ≡ 1 = ap out turn in
      let whole : v.noted ≡ r.log = (k.noted (omega arith)).0 in
      let first : v.quitter ≡ r.quitter = (k.noted (omega arith)).1 in
      let long : length v.noted ≡ length r.log = ap length whole in
      let grows : IsPrefix r.log b.entries = subst (λ l. IsPrefix l b.entries) whole next.entries in
      let gained : Gains (length v.noted) (length b.entries) v w.own = gains (length v.noted) (length b.entries) v (begins_length v.noted b.entries next.entries) next.one next.room k.room
      (λ p some_own. omega (arith, k.own p some_own, begins_length v.seen r.log k.seen, long)) (ltb (length v.noted) (length b.entries)) refl in
      let knows_first : (m : ℕ) → 0 < times m v.marks → v.quitter ≡ Some m = λ m some_mark. first ∙ k.marks m some_mark in
      let still_first : (m : ℕ) → r.quitter ≡ Some m → b.quitter ≡ Some m = λ m is. stays-first v.who v.quitter b.quitter m next.quitter (first ∙ is) in
      let mine : Knows r.opening b.entries b.quitter w = record {
        opened = k.opened;
        seen = whole_begins b.entries;
        shorter = begins_within v.shorter r.log b.entries k.shorter grows;
        loaded = λ _. refl;
        noted = λ _. (refl, refl);
        room = gained.room;
        own = gained.known;
        marks = marks-known v.who v.quitter b.quitter v.marks next.quitter knows_first;
      } in
      let theirs : (j : ℕ) (u : View) → j ≢ id → get_elem? s.views j ≡ some u → Knows r.opening b.entries b.quitter u = λ j u other there.
      let h : Knows r.opening r.log r.quitter u = r.each j u there in
      let idle : out u.phase ≡ 0 = alone s r id j v u at out_is other there in record {
        opened = h.opened;
        seen = begins_within u.seen r.log b.entries h.seen grows;
        shorter = begins_within u.shorter r.log b.entries h.shorter grows;
        loaded = λ e. absurd (omega (arith, ap out e, idle));
        noted = λ some_out. absurd (omega (arith, idle));
        room = h.room;
        own = h.own;
        marks = λ m some_mark. still_first m (h.marks m some_mark);
      } in
      let here : get_elem? views id ≡ some w = set_at s.views id v w at in
      let now_made : total (λ (u : View). length u.own) views ≡ length b.entries = omega (arith, total-set (λ (u : View). length u.own) s.views id v w at, r.made, gained.long, long) in
      let now_each : (j : ℕ) (u : View) → get_elem? views j ≡ some u → Knows r.opening b.entries b.quitter u = λ j u there.
      ⊎_elim (λ (t : (j ≡ id) × (w ≡ u)). subst (Knows r.opening b.entries b.quitter) t.1 mine) (λ (t : (j ≢ id) × (get_elem? s.views j ≡ some u)). theirs j u t.0 t.1) (at_set s.views id j w u there) in
      let now_parts : total (λ (u : View). u.parts) views ≡ ALL = omega (arith, total-set (λ (u : View). u.parts) s.views id v w at, r.parts) in
      let as_busy : busy views ≡ busy s.views = omega (arith, keeping.busy-set stands_for book s r id v w at) in
      let after : St = record { words = slice_set s.words 1 n; homes = s.homes; views = views } in
      let now : Rule after = record {
        opening = r.opening;
        log = b.entries;
        quitter = b.quitter;
        words = ap (λ l. slice_set l 1 n) r.words ∙ (let same = sym as_busy in λ i. same i ∷ count i ∷ []);
        one = omega (arith, r.one, as_busy);
        single = r.single;
        home = λ all_home. absurd (omega (arith, all_home, total-at (λ (u : View). out u.phase) views id w here));
        each = now_each;
        whole = omega (arith, total-at (has_all b.entries) views id w here);
        owned = λ p. omega (arith, total-set (λ (u : View). times p u.own) s.views id v w at, r.owned p, gained.each p, ap (once p) long);
        made = now_made;
        parts = now_parts;
        marked = still-marked v.who v.quitter b.quitter v.marks (λ m. total (λ (u : View). times m u.marks) s.views) (λ m. total (λ (u : View). times m u.marks) views) next.quitter
            (λ m. total-set (λ (u : View). times m u.marks) s.views id v w at) (λ m. total-at (λ (u : View). times m u.marks) views id w here)
            (subst (λ q. IfSome q (λ m. 0 < total (λ (u : View). times m u.marks) s.views)) (sym first) r.marked);
      } in (
        w,
        keeps,
        tt,
        now,
        (refl, keeping.proper stands_for book after now id w here),
      )
