-- The steps of one pass through its turn keep the rule.
use Rattle.std.proofs.Common.{◌≡◌, ◌≢◌, ℕ, ◌≤◌, ◌<◌, eqb, List, [], ◌∷◌, length, set, Option, Some, refl, sym, ap, ◌∙◌, subst, arith, length-set, slice_index, slice_set}
use mathlib.Core.Option.{some, none}
use mathlib.Core.List.{IsPrefix}
use lib.ListN.{get_elem?}
use prog.Atomic.{either}
use Rattle.atomic_table.specs.Table.{State, Act, keeps, takes, gives, Valid, stepped, carried_after, put_back, rest, Allows}
use Rattle.atomic_table.proofs.Lists.{exchanged, set_here}
use Rattle.kv_model.specs.Opening.{Opening}
use Rattle.kv_model.specs.declared.call.Entry.{Entry}
use Rattle.turn_lock.specs.Books.{Book}
use Rattle.turn_lock.specs.Totals.{total}
use Rattle.turn_lock.specs.Views.{missed, taken, loaded, settled, in_phase}
use Rattle.turn_lock.specs.Rule.{out, last, live, busy, Knows, Fits, Kept}
use Rattle.turn_lock.specs.Steps.{Seated, Takes, Loads, Looks, Ends}
use Rattle.turn_lock.specs.declared.view.View.{View}
use Rattle.turn_lock.specs.declared.view.Phase.{Phase}
use Rattle.turn_lock.specs.declared.view.Phase.TheVariants.{Idle, Taken, Loaded, Closing, Spent}
use Rattle.turn_lock.proofs.Totals.{set_at, total-set, total-at}
use Rattle.turn_lock.proofs.Prefixes.{whole_begins, nothing_begins, begins_length, shorter_begins}
use Rattle.turn_lock.proofs.Keeping.{IsAsMuch, Home}
use Rattle.turn_lock.proofs.Keeping as keeping

last-small : (phase : Phase) → last phase ≤ 1
last-small Idle = omega arith
last-small Taken = omega arith
last-small Loaded = omega arith
last-small Closing = omega arith
last-small Spent = omega arith

module _ {S : Type 0} (stands_for : S → Opening → Type 0) (book : S → Book) where
  abbrev St : Type 0
  St = State (Option S) View

  abbrev Rule : St → Type 0
  Rule = Kept stands_for book

  -- a step of the seat on the word i, which becomes n
  abbrev Goes : St → ℕ → ℕ → Seated S → (Seated S → Type 0) → ℕ → Type 0
  Goes s i id me told n = (w : View) × (a : Act (Option S)) × Valid s.homes me.1 a × Rule (stepped s i n id me.1 w a) × told (w, carried_after me.1 a)

  -- a view in the phase idle or taken, which knows what it knew
  took : {opening : Opening} {log : List Entry} {quitter : Option ℕ} {v : View} → v.phase ≡ Idle → Knows opening log quitter v → (b : Book) → b.entries ≡ log → b.quitter ≡ quitter
      → Knows opening log quitter (taken b v)
  took idle k b entries first = record {
    opened = λ _. k.opened (omega (arith, ap live idle));
    seen = k.seen;
    shorter = k.shorter;
    loaded = λ e. absurd (cc e);
    noted = λ _. (entries, first);
    room = k.room;
    own = k.own;
    marks = k.marks;
  }

  takes-hit : (s : St) (r : Rule s) (id : ℕ) (me : Seated S) → get_elem? s.views id ≡ some me.0 → me.0.phase ≡ Idle → me.1 ≡ [] → slice_index s.words 0 ≡ 0
      → Goes s 0 id me (Takes stands_for book me 0) 1
  takes-hit s r id me at idle empty free =
      let v : View = me.0 in
      let word : slice_index s.words 0 ≡ busy s.views = ap (λ l. slice_index l 0) r.words in
      let none_busy : busy s.views ≡ 0 = sym word ∙ free in
      let home : Home stands_for book s.homes r.opening r.log r.quitter = r.home (omega arith) in
      let x : S = home.0 in
      let fits : Fits stands_for book r.opening r.log r.quitter x = home.2 in
      let k : Knows r.opening r.log r.quitter v = r.each id v at in
      let w : View = taken (book x) v in
      let out_is : out v.phase ≡ 0 = ap out idle in
      let last_is : last v.phase ≡ 0 = ap last idle in
      let now_busy : busy (set s.views id w) ≡ 1 = omega (arith, keeping.busy-set stands_for book s r id v w at) in (
        w,
        takes 0 (Some x),
        home.1,
        keeping.keeps stands_for book s r id v w at (slice_set s.words 0 1) (slice_set s.homes 0 none)
            (ap (λ l. slice_set l 0 1) r.words ∙ ap (λ n. n ∷ length r.log ∷ []) (sym now_busy))
            (omega (arith, now_busy))
            (length-set s.homes 0 none ∙ r.single)
            (λ all_home. absurd (omega (arith, all_home, total-set (λ u. out u.phase) s.views id v w at)))
            record { own = refl; parts = refl; marks = refl; whole = omega arith }
            (took idle k (book x) fits.entries fits.first),
        (
          (λ _. (
            x,
            ap (λ l. (0, Some x) ∷ l) empty,
            record {
              view = refl;
              stands = subst (stands_for x) (sym (k.opened (omega (arith, ap live idle)))) fits.stands;
              seen = subst (IsPrefix v.seen) (sym fits.entries) k.seen;
              marks = λ who some_mark. fits.first ∙ k.marks who some_mark;
            },
          )),
          λ n. absurd (n refl),
        ),
      )

  takes-miss : (s : St) (r : Rule s) (id n : ℕ) (me : Seated S) → get_elem? s.views id ≡ some me.0 → me.0.phase ≡ Idle → me.1 ≡ [] → slice_index s.words 0 ≡ n → n ≢ 0
      → Goes s 0 id me (Takes stands_for book me n) n
  takes-miss s r id n me at idle empty found taken_now =
      let v : View = me.0 in
      let word : slice_index s.words 0 ≡ busy s.views = ap (λ l. slice_index l 0) r.words in
      let k : Knows r.opening r.log r.quitter v = r.each id v at in
      let w : View = missed n v in
      let as_busy : busy (set s.views id w) ≡ busy s.views = omega (arith, keeping.busy-set stands_for book s r id v w at) in
      let is_one : n ≡ 1 = let some : 0 < n = omega arith in omega (arith, r.one, word, found) in (
        w,
        keeps,
        tt,
        keeping.keeps stands_for book s r id v w at (slice_set s.words 0 n) s.homes
            (ap (λ l. slice_set l 0 n) r.words ∙ ap (λ m. m ∷ length r.log ∷ []) (sym (as_busy ∙ (sym word ∙ found))))
            (omega (arith, r.one, as_busy))
            r.single
            (λ all_home. r.home (omega (arith, all_home, total-set (λ u. out u.phase) s.views id v w at)))
            record { own = refl; parts = refl; marks = refl; whole = omega arith }
            record { opened = k.opened; seen = k.seen; shorter = k.shorter; loaded = k.loaded; noted = k.noted; room = k.room; own = k.own; marks = k.marks },
        ((λ e. absurd (taken_now e)), λ _. (is_one, refl)),
      )

  pub takes_turn : (slots id : ℕ) (me : Seated S) → me.0.phase ≡ Idle → me.1 ≡ [] → Allows Rule slots id me 0 (λ n. either (eqb n 0) 1 n) (Takes stands_for book me)
  takes_turn slots id me idle empty s r wide at range = let n : ℕ = slice_index s.words 0 in
      exchanged n 0 1 (λ m. Goes s 0 id me (Takes stands_for book me n) m)
      (λ hit. subst (λ m. Goes s 0 id me (Takes stands_for book me m) 1) (sym hit) (takes-hit s r id me at idle empty hit))
      (λ miss. takes-miss s r id n me at idle empty refl miss)

  -- the load with the turn
  pub loads_turn : (slots id : ℕ) (me : Seated S) → me.0.phase ≡ Taken → Allows Rule slots id me 1 (λ n. n) (Loads me)
  loads_turn slots id me turn s r wide at range =
      let v : View = me.0 in
      let n : ℕ = slice_index s.words 1 in
      let word : n ≡ length r.log = ap (λ l. slice_index l 1) r.words in
      let k : Knows r.opening r.log r.quitter v = r.each id v at in
      let w : View = loaded v in
      let out_is : out v.phase ≡ 1 = ap out turn in
      let last_is : last v.phase ≡ 0 = ap last turn in
      let whole : v.noted ≡ r.log = (k.noted (omega arith)).0 in
      let long : length v.noted ≡ length r.log = ap length whole in
      let as_busy : busy (set s.views id w) ≡ busy s.views = omega (arith, keeping.busy-set stands_for book s r id v w at) in
      let after : St = record { words = slice_set s.words 1 n; homes = s.homes; views = set s.views id w } in
      let now : Rule after =
      keeping.keeps stands_for book s r id v w at (slice_set s.words 1 n) s.homes
      (ap (λ l. slice_set l 1 n) r.words ∙ (let same = sym as_busy in λ i. same i ∷ word i ∷ []))
      (omega (arith, r.one, as_busy))
      r.single
      (λ all_home. r.home (omega (arith, all_home, total-set (λ u. out u.phase) s.views id v w at)))
      record { own = refl; parts = refl; marks = refl; whole = omega (arith, long) }
      record {
        opened = λ _. k.opened (omega (arith, ap live turn));
        seen = subst (λ l. IsPrefix l r.log) (sym whole) (whole_begins r.log);
        shorter = k.shorter;
        loaded = λ _. whole;
        noted = λ _. k.noted (omega arith);
        room = k.room;
        own = λ p some_own. omega (arith, k.own p some_own, begins_length v.seen r.log k.seen, long);
        marks = k.marks;
      } in (
        w,
        keeps,
        tt,
        now,
        (refl, word ∙ sym long, keeping.proper stands_for book after now id w (set_at s.views id v w at)),
      )

  -- the load without the turn
  pub looks_on : (slots id : ℕ) (me : Seated S) → me.0.phase ≡ Idle → Allows Rule slots id me 1 (λ n. n) (Looks me)
  looks_on slots id me idle s r wide at range =
      let v : View = me.0 in
      let n : ℕ = slice_index s.words 1 in
      let word : n ≡ length r.log = ap (λ l. slice_index l 1) r.words in
      let k : Knows r.opening r.log r.quitter v = r.each id v at in
      let w : View = settled v in
      let as_busy : busy (set s.views id w) ≡ busy s.views = omega (arith, keeping.busy-set stands_for book s r id v w at) in (
        w,
        keeps,
        tt,
        keeping.keeps stands_for book s r id v w at (slice_set s.words 1 n) s.homes
            (ap (λ l. slice_set l 1 n) r.words ∙ (let same = sym as_busy in λ i. same i ∷ word i ∷ []))
            (omega (arith, r.one, as_busy))
            r.single
            (λ all_home. r.home (omega (arith, all_home, total-set (λ u. out u.phase) s.views id v w at)))
            record { own = refl; parts = refl; marks = refl; whole = omega arith }
            record {
              opened = k.opened;
              seen = k.seen;
              shorter = nothing_begins r.log;
              loaded = k.loaded;
              noted = k.noted;
              room = k.room;
              own = k.own;
              marks = k.marks;
            },
        (refl, keeping.proper stands_for book s r id v at, λ le. shorter_begins v.shorter v.seen r.log k.shorter k.seen le),
      )

  -- the store that ends a turn, with the value in its slot again
  pub ends_turn : (phase : Phase) (slots id n : ℕ) (me : Seated S) (x : S) → out phase ≡ 0 → n ≡ last phase → me.0.phase ≡ Loaded → me.1 ≡ (0, Some x) ∷ []
      → stands_for x me.0.opening → (book x).entries ≡ me.0.noted → (book x).quitter ≡ me.0.quitter → Allows Rule slots id me 0 (λ _. n) (λ _. Ends phase me n)
  ends_turn phase slots id n me x home_again word_is turn slot stands entries first s r wide at range =
      let v : View = me.0 in
      let k : Knows r.opening r.log r.quitter v = r.each id v at in
      let w : View = in_phase phase v in
      let out_is : out v.phase ≡ 1 = ap out turn in
      let last_is : last v.phase ≡ 0 = ap last turn in
      let noted = k.noted (omega arith) in
      let opened : v.opening ≡ r.opening = k.opened (omega (arith, ap live turn)) in
      let some_busy : 1 ≤ total (λ (u : View). out u.phase) s.views = omega (arith, total-at (λ (u : View). out u.phase) s.views id v at) in
      let now_busy : busy (set s.views id w) ≡ n = omega (arith, keeping.busy-set stands_for book s r id v w at, r.one, some_busy) in
      let homes : put_back s.homes me.1 ≡ slice_set s.homes 0 (some (Some x)) = ap (put_back s.homes) slot in
      let at_home : get_elem? (put_back s.homes me.1) 0 ≡ some (some (Some x)) = ap (λ h. get_elem? h 0) homes ∙ set_here s.homes 0 (some (Some x)) (omega (arith, r.single)) in (
        w,
        gives,
        tt,
        keeping.keeps stands_for book s r id v w at (slice_set s.words 0 n) (put_back s.homes me.1)
            (ap (λ l. slice_set l 0 n) r.words ∙ ap (λ m. m ∷ length r.log ∷ []) (sym now_busy))
            (omega (arith, now_busy, last-small phase))
            (ap length homes ∙ (length-set s.homes 0 (some (Some x)) ∙ r.single))
            (λ _. (x, at_home, record { stands = subst (stands_for x) opened stands; entries = entries ∙ noted.0; first = first ∙ noted.1 }))
            record { own = refl; parts = refl; marks = refl; whole = omega arith }
            record {
              opened = λ _. opened;
              seen = k.seen;
              shorter = k.shorter;
              loaded = λ e. absurd (omega (arith, ap out e));
              noted = λ some_out. absurd (omega arith);
              room = k.room;
              own = k.own;
              marks = k.marks;
            },
        ap (λ l. (w, rest l)) slot,
      )
