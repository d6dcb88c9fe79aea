-- Iterators in places, and the table that they are.
use Rattle.std.proofs.Common.{◌≡◌, ◌≢◌, ◌⊎◌, ℕ, zero, suc, ◌+◌, ◌<◌, ◌≤◌, Bool, true, false, cond, not, ◌&&◌, nat_le, List, [], ◌∷◌, get_or, Option, Some, None, is_some, unwrap_or, Result, Ok, Err, count_by, refl, sym, ap, ◌∙◌, inl, inr, arith, true≢false, Ordering, Less, Equal, Greater}
use Rattle.std.specs.Ordering.{eq_by_cmp, is_eq, ordering_then}
use Rattle.std.specs.Cmp.{tied_itself}
use Rattle.std.specs.FinMap.{IsAntisymmetric, get, insert, remove, len, get-empty, get-insert, get-remove, len-empty, len-insert, same_map, nat_cmp-IsAntisymmetric}
use Rattle.std.proofs.lemmas.List.Sums.{sum_by-cons}
use Rattle.std.specs.Result.{OnOk}
use Rattle.std.proofs.lemmas.Bool.{cases_eq, le-leb, lt-leb}
use Rattle.slab.specs.Slab.{Slab, Updates, slab_len}
use Rattle.slab.specs.Slab as slab
use Rattle.kv_model.specs.declared.limits.TheConstants.{MAX_ITERATORS}
use Rattle.kv_model.specs.Keys.{is_prefix}
use Rattle.kv_model.specs.StoreState.{Iterators, Position, iterator_cmp}
use Rattle.kv_model.proofs.MapLemmas.{iterator_total}
use Rattle.kv_iters.specs.declared.named.Named.{Named}
use Rattle.kv_model.specs.declared.error.KvError.TheVariants.{InvalidKey, NoIterator, TooManyIterators}
use Rattle.kv_iters.specs.Calls.{advanced, at_the_start, start_refusal, use_refusal}
use Rattle.kv_iters.specs.Slots.{name_of, iterators_in, iterators_of, AreDistinct, IsTable, IsAt, TakesOut}

-- ---- names

not_less : (r : Ordering) → is_eq r ≡ true → r ≡ Equal
not_less Less h = absurd (true≢false (sym h))
not_less Equal h = refl
not_less Greater h = absurd (true≢false (sym h))

both_equal : (a b : Ordering) → ordering_then a b ≡ Equal → (a ≡ Equal) × (b ≡ Equal)
both_equal Less b h = absurd (true≢false (sym (ap is_eq h)))
both_equal Equal b h = (refl, h)
both_equal Greater b h = absurd (true≢false (sym (ap is_eq h)))

pub names_same : IsAntisymmetric iterator_cmp
names_same a b tied =
    let parts = both_equal _ _ tied in
    let owners = nat_cmp-IsAntisymmetric a.0 b.0 parts.0 in
    let numbers = nat_cmp-IsAntisymmetric a.1 b.1 parts.1 in
    λ i. (owners i, numbers i)

-- whether two names are one
abbrev same_name : ℕ × ℕ → ℕ × ℕ → Bool
same_name = eq_by_cmp iterator_cmp

one_name : (a b : ℕ × ℕ) → same_name a b ≡ true → a ≡ b
one_name a b h = names_same a b (not_less _ h)

named_so : (a b : ℕ × ℕ) → a ≡ b → same_name a b ≡ true
named_so a b is = ap (same_name a) (sym is) ∙ ap is_eq (tied_itself iterator_total a)

apart_of : (a b : ℕ × ℕ) (same : Bool) → same_name a b ≡ same → (a ≡ b) ⊎ ((a ≢ b) × (same_name a b ≡ false))
apart_of a b true is = inl (one_name a b is)
apart_of a b false is = inr (λ e. true≢false (sym (named_so a b e) ∙ is), is)

-- two names are one, or they differ
by_name : (a b : ℕ × ℕ) → (a ≡ b) ⊎ ((a ≢ b) × (same_name a b ≡ false))
by_name a b = apart_of a b _ refl

-- ---- what a table has behind an insert and a remove

module _ (table : Iterators) (name : ℕ × ℕ) where
  pub get-insert-here : (position : Position) (q : ℕ × ℕ) → q ≡ name → get (insert table name position) q ≡ Some position
  get-insert-here position q is = get-insert iterator_total table name position q ∙ ap (λ b. cond b (Some position) (get table q)) (named_so q name is)

  pub get-insert-other : (position : Position) (q : ℕ × ℕ) → q ≢ name → get (insert table name position) q ≡ get table q
  get-insert-other position q differs = elim (by_name q name) [
    | inl is ↦ absurd (differs is)
    | inr other ↦ get-insert iterator_total table name position q ∙ ap (λ b. cond b (Some position) (get table q)) other.1
  ]

  pub get-remove-here : (q : ℕ × ℕ) → q ≡ name → get (remove table name) q ≡ None
  get-remove-here q is = get-remove iterator_total table name q ∙ ap (λ b. cond b None (get table q)) (named_so q name is)

  pub get-remove-other : (q : ℕ × ℕ) → q ≢ name → get (remove table name) q ≡ get table q
  get-remove-other q differs = elim (by_name q name) [
    | inl is ↦ absurd (differs is)
    | inr other ↦ get-remove iterator_total table name q ∙ ap (λ b. cond b None (get table q)) other.1
  ]

-- ---- what a place shows, the table has

tail_distinct : (o : Option Named) (slots : List (Option Named)) → AreDistinct (o ∷ slots) → AreDistinct slots
tail_distinct o slots distinct i j a b at_i at_j same = let e : suc i ≡ suc j = distinct (suc i) (suc j) a b at_i at_j same in omega (arith, e)

pub found : (slots : List (Option Named)) (at : ℕ) (a : Named) → AreDistinct slots → get_or slots at None ≡ Some a → get (iterators_in slots) (name_of a) ≡ Some a.iter
found [] at a distinct there = absurd (cc)
found (None ∷ slots) zero a distinct there = absurd (cc)
found (None ∷ slots) (suc at) a distinct there = found slots at a (tail_distinct None slots distinct) there
found (Some b ∷ slots) zero a distinct there =
    let is : b ≡ a = (cc) in
    get-insert-here (iterators_in slots) (name_of b) b.iter _ (ap name_of (sym is)) ∙ ap (λ (x : Named). Some x.iter) is
found (Some b ∷ slots) (suc at) a distinct there =
    let differs : name_of a ≢ name_of b = λ same. let e : suc at ≡ 0 = distinct (suc at) 0 a b there refl same in omega (arith, e) in
    get-insert-other (iterators_in slots) (name_of b) b.iter _ differs ∙ found slots at a (tail_distinct (Some b) slots distinct) there

-- ---- what the table has, a place shows

-- a place shows this position under this name
pub record Shows (slots : List (Option Named)) (name : ℕ × ℕ) (position : Position) : Type 0 where
  pub at : ℕ
  pub named : Named
  pub there : get_or slots at None ≡ Some named
  pub is_named : name_of named ≡ name
  pub stands : named.iter ≡ position

later_shows : (o : Option Named) (slots : List (Option Named)) (name : ℕ × ℕ) (position : Position) → Shows slots name position → Shows (o ∷ slots) name position
later_shows o slots name position s = record { at = suc s.at; named = s.named; there = s.there; is_named = s.is_named; stands = s.stands }

pub listed : (slots : List (Option Named)) (name : ℕ × ℕ) (position : Position) → get (iterators_in slots) name ≡ Some position → Shows slots name position
listed [] name position has = absurd (let e = sym (get-empty iterator_cmp name) ∙ has in (cc))
listed (None ∷ slots) name position has = later_shows None slots name position (listed slots name position has)
listed (Some b ∷ slots) name position has = elim (by_name name (name_of b)) [
  | inl is ↦
      let same : Some b.iter ≡ Some position = sym (get-insert-here (iterators_in slots) (name_of b) b.iter name is) ∙ has in
      record { at = 0; named = b; there = refl; is_named = sym is; stands = (cc) }
  | inr other ↦ later_shows (Some b) slots name position (listed slots name position (sym (get-insert-other (iterators_in slots) (name_of b) b.iter name other.0) ∙ has))
]

-- ---- there is one iterator for each place that shows one

counted : (b : Bool) (m n : ℕ) → b ≡ false → cond b m n ≡ n
counted true m n is = absurd (true≢false is)
counted false m n is = refl

none_shown : (o : Option Position) → ((position : Position) → o ≡ Some position → ⊥) → o ≡ None
none_shown None lacks = refl
none_shown (Some position) lacks = absurd (lacks position refl)

pub size : (slots : List (Option Named)) → AreDistinct slots → len (iterators_in slots) ≡ count_by is_some slots
size [] distinct = len-empty iterator_cmp Position
size (None ∷ slots) distinct = omega (arith, size slots (tail_distinct None slots distinct), sum_by-cons (λ (o : Option Named). cond (is_some o) 1 0) None slots)
size (Some b ∷ slots) distinct =
    let absent : get (iterators_in slots) (name_of b) ≡ None = none_shown _ (λ position has.
    let s = listed slots (name_of b) position has in
    let e : suc s.at ≡ 0 = distinct (suc s.at) 0 s.named b s.there refl s.is_named in
    absurd (omega (arith, e))) in
    let more : len (iterators_in (Some b ∷ slots)) ≡ len (iterators_in slots) + 1 = len-insert iterator_total (iterators_in slots) (name_of b) b.iter ∙ counted _ _ _ (ap is_some absent) in
    omega (arith, more, size slots (tail_distinct (Some b) slots distinct), sum_by-cons (λ (o : Option Named). cond (is_some o) 1 0) (Some b) slots)

-- ---- the table once a place changed

same_by : (a b : Option Position) → ((p : Position) → a ≡ Some p → b ≡ Some p) → ((p : Position) → b ≡ Some p → a ≡ Some p) → a ≡ b
same_by None b forth back = sym (none_shown b (λ p is. let e = back p is in (cc)))
same_by (Some p) b forth back = sym (forth p refl)

module _ (old new : Slab Named) (at : ℕ) (distinct : AreDistinct old.slots) where
  -- a place got an iterator of a new name
  module _ (a : Named) (vacant : slab.get old at ≡ None) (updates : Updates old new at (Some a)) (absent : get (iterators_of old) (name_of a) ≡ None) where
    -- no iterator at another place has the name
    other_name : (i : ℕ) (x : Named) → slab.get old i ≡ Some x → name_of x ≢ name_of a
    other_name i x there same = let e = sym (found old.slots i x distinct there) ∙ ap (get (iterators_of old)) same ∙ absent in (cc)

    was : (i : ℕ) (x : Named) → i ≢ at → slab.get new i ≡ Some x → slab.get old i ≡ Some x
    was i x differs there = sym (updates.others i differs) ∙ there

    is_it : (i : ℕ) (x : Named) → i ≡ at → slab.get new i ≡ Some x → x ≡ a
    is_it i x is there = let e : Some x ≡ Some a = sym there ∙ ap (slab.get new) is ∙ updates.changed in (cc)

    pub AreDistinct-placed : AreDistinct new.slots
    AreDistinct-placed i j x y at_i at_j same = elim (cases_eq i at) [
      | inl i_is ↦ elim (cases_eq j at) [
        | inl j_is ↦ i_is ∙ sym j_is
        | inr j_not ↦ absurd (other_name j y (was j y j_not at_j) (sym same ∙ ap name_of (is_it i x i_is at_i)))
      ]
      | inr i_not ↦ elim (cases_eq j at) [
        | inl j_is ↦ absurd (other_name i x (was i x i_not at_i) (same ∙ ap name_of (is_it j y j_is at_j)))
        | inr j_not ↦ distinct i j x y (was i x i_not at_i) (was j y j_not at_j) same
      ]
    ]

    forth : (q : ℕ × ℕ) (p : Position) → get (iterators_of new) q ≡ Some p → get (insert (iterators_of old) (name_of a) a.iter) q ≡ Some p
    forth q p has =
        let s = listed new.slots q p has in
        elim (cases_eq s.at at) [
          | inl is ↦
              let same = is_it s.at s.named is s.there in
              get-insert-here (iterators_of old) (name_of a) a.iter q (sym s.is_named ∙ ap name_of same) ∙ ap (λ (x : Named). Some x.iter) (sym same) ∙ ap (λ (x : Position). Some x) s.stands
          | inr not ↦
              let there = was s.at s.named not s.there in
              get-insert-other (iterators_of old) (name_of a) a.iter q (λ is. other_name s.at s.named there (s.is_named ∙ is))
              ∙ ap (get (iterators_of old)) (sym s.is_named) ∙ found old.slots s.at s.named distinct there ∙ ap (λ (x : Position). Some x) s.stands
        ]

    back : (q : ℕ × ℕ) (p : Position) → get (insert (iterators_of old) (name_of a) a.iter) q ≡ Some p → get (iterators_of new) q ≡ Some p
    back q p has = elim (by_name q (name_of a)) [
      | inl is ↦ ap (get (iterators_of new)) is ∙ found new.slots at a AreDistinct-placed updates.changed ∙ sym (get-insert-here (iterators_of old) (name_of a) a.iter q is) ∙ has
      | inr other ↦
          let s = listed old.slots q p (sym (get-insert-other (iterators_of old) (name_of a) a.iter q other.0) ∙ has) in
          let apart : s.at ≢ at = λ is. let e = sym s.there ∙ ap (slab.get old) is ∙ vacant in (cc) in
          ap (get (iterators_of new)) (sym s.is_named) ∙ found new.slots s.at s.named AreDistinct-placed (updates.others s.at apart ∙ s.there) ∙ ap (λ (x : Position). Some x) s.stands
    ]

    pub placed : iterators_of new ≡ insert (iterators_of old) (name_of a) a.iter
    placed = same_map iterator_total names_same _ _ (λ q. same_by _ _ (forth q) (back q))

  -- the iterator at a place was taken out
  module _ (a : Named) (stood : slab.get old at ≡ Some a) (updates : Updates old new at None) where
    stays : (i : ℕ) (x : Named) → slab.get new i ≡ Some x → (i ≢ at) × (slab.get old i ≡ Some x)
    stays i x there =
        let apart : i ≢ at = λ is. let e = sym there ∙ ap (slab.get new) is ∙ updates.changed in (cc) in
        (apart, sym (updates.others i apart) ∙ there)

    pub AreDistinct-removed : AreDistinct new.slots
    AreDistinct-removed i j x y at_i at_j same = distinct i j x y (stays i x at_i).1 (stays j y at_j).1 same

    down : (q : ℕ × ℕ) (p : Position) → get (iterators_of new) q ≡ Some p → get (remove (iterators_of old) (name_of a)) q ≡ Some p
    down q p has =
        let s = listed new.slots q p has in
        let old_place = stays s.at s.named s.there in
        get-remove-other (iterators_of old) (name_of a) q (λ is. old_place.0 (distinct s.at at s.named a old_place.1 stood (s.is_named ∙ is)))
        ∙ ap (get (iterators_of old)) (sym s.is_named) ∙ found old.slots s.at s.named distinct old_place.1 ∙ ap (λ (x : Position). Some x) s.stands

    up : (q : ℕ × ℕ) (p : Position) → get (remove (iterators_of old) (name_of a)) q ≡ Some p → get (iterators_of new) q ≡ Some p
    up q p has = elim (by_name q (name_of a)) [
      | inl is ↦ absurd (let e = sym (get-remove-here (iterators_of old) (name_of a) q is) ∙ has in (cc))
      | inr other ↦
          let s = listed old.slots q p (sym (get-remove-other (iterators_of old) (name_of a) q other.0) ∙ has) in
          let same : s.at ≡ at → s.named ≡ a = λ is. let e : Some s.named ≡ Some a = sym s.there ∙ ap (slab.get old) is ∙ stood in (cc) in
          let apart : s.at ≢ at = λ is. other.0 (sym s.is_named ∙ ap name_of (same is)) in
          ap (get (iterators_of new)) (sym s.is_named) ∙ found new.slots s.at s.named AreDistinct-removed (updates.others s.at apart ∙ s.there) ∙ ap (λ (x : Position). Some x) s.stands
    ]

    pub removed : iterators_of new ≡ remove (iterators_of old) (name_of a)
    removed = same_map iterator_total names_same _ _ (λ q. same_by _ _ (down q) (up q))

-- ---- names and places

-- the table says of a name what its place shows
pub position_at : (slots : Slab Named) (name : ℕ × ℕ) (at : ℕ) (a : Named) → IsTable slots → IsAt slots name at → slab.get slots at ≡ Some a → get (iterators_of slots) name ≡ Some a.iter
position_at slots name at a table is there =
    let same : a ≡ is.named = (let e : Some a ≡ Some is.named = sym there ∙ is.there in cc) in
    ap (get (iterators_of slots)) (sym is.is_named ∙ ap name_of (sym same)) ∙ found slots.slots at a table.distinct there

-- where no place shows a name, the table lacks it
pub lacking : (slots : Slab Named) (name : ℕ × ℕ) → ((at : ℕ) (a : Named) → slab.get slots at ≡ Some a → name_of a ≡ name → ⊥) → get (iterators_of slots) name ≡ None
lacking slots name none = none_shown _ (λ position has. let s = listed slots.slots name position has in none s.at s.named s.there s.is_named)

pub taken_out : (old new : Slab Named) (name : ℕ × ℕ) (at : ℕ) (a : Named) → IsTable old → IsAt old name at → slab.get old at ≡ Some a → Updates old new at None → TakesOut old new name a.iter
taken_out old new name at a table is there updates =
    let same : a ≡ is.named = (let e : Some a ≡ Some is.named = sym there ∙ is.there in cc) in
    let without : iterators_of new ≡ remove (iterators_of old) name = removed old new at table.distinct a there updates ∙ ap (remove (iterators_of old)) (ap name_of same ∙ is.is_named) in
    record {
      stood = position_at old name at a table is there;
      removed = without;
      gone = ap (λ m. get m name) without ∙ get-remove-here (iterators_of old) name name refl;
    }

-- what is put in the place of another
pub insert-remove : (table : Iterators) (name : ℕ × ℕ) (position : Position) → insert (remove table name) name position ≡ insert table name position
insert-remove table name position = same_map iterator_total names_same _ _ (λ q. elim (by_name q name) [
  | inl is ↦ get-insert-here (remove table name) name position q is ∙ sym (get-insert-here table name position q is)
  | inr other ↦ get-insert-other (remove table name) name position q other.0 ∙ get-remove-other table name q other.0 ∙ sym (get-insert-other table name position q other.0)
])

-- ---- what is refused, and done

pub few_iterators : (slots : Slab Named) → IsTable slots → len (iterators_of slots) ≤ MAX_ITERATORS
few_iterators slots table = omega (arith, size slots.slots table.distinct, table.few)

pub in_any_case : {X E P : Type 0} (r : Result X E) → P → OnOk r P
in_any_case (Ok x) p = p
in_any_case (Err e) p = tt

module _ (slots : Slab Named) (who n : ℕ) (prefix : List ℕ) (table : IsTable slots) (good : is_prefix prefix ≡ true) (absent : get (iterators_of slots) (who, n) ≡ None) where
  refusal_by : (full : Bool) → nat_le MAX_ITERATORS (len (iterators_of slots)) ≡ full → start_refusal (iterators_of slots) who n prefix ≡ cond full (Some TooManyIterators) None
  refusal_by true is = λ i. cond (not (good i)) (Some InvalidKey) (cond (is i && not (is_some (absent i))) (Some TooManyIterators) None)
  refusal_by false is = λ i. cond (not (good i)) (Some InvalidKey) (cond (is i && not (is_some (absent i))) (Some TooManyIterators) None)

  pub start_refused_full : MAX_ITERATORS ≤ slab_len slots → start_refusal (iterators_of slots) who n prefix ≡ Some TooManyIterators
  start_refused_full full = refusal_by true (le-leb MAX_ITERATORS (len (iterators_of slots)) (omega (arith, size slots.slots table.distinct, full)))

  pub start_granted : slab_len slots < MAX_ITERATORS → start_refusal (iterators_of slots) who n prefix ≡ None
  start_granted few = refusal_by false (lt-leb MAX_ITERATORS (len (iterators_of slots)) (omega (arith, size slots.slots table.distinct, few)))

pub advanced_from : (table : Iterators) (who n : ℕ) (key : List ℕ) (position : Position) → get table (who, n) ≡ Some position → insert table (who, n) (record position { last = Some key }) ≡ advanced table who n key
advanced_from table who n key position stood = sym (ap (λ (o : Option Position). insert table (who, n) (record { prefix = (unwrap_or o (at_the_start [])).prefix; last = Some key })) stood)

module _ (table : Iterators) (who n : ℕ) where
  pub use_granted : (position : Position) → get table (who, n) ≡ Some position → use_refusal table who n ≡ None
  use_granted position has = ap (λ (o : Option Position). cond (not (is_some o)) (Some NoIterator) None) has

  pub use_refused : get table (who, n) ≡ None → use_refusal table who n ≡ Some NoIterator
  use_refused lacks = ap (λ (o : Option Position). cond (not (is_some o)) (Some NoIterator) None) lacks
