-- Lists whose keys rise, as finite maps: what an edit at a key's place does to the map.
use Rattle.std.proofs.Common.{◌≡◌, ℕ, suc, ◌+◌, ◌<◌, ◌≤◌, Bool, true, false, cond, not, ◌&&◌, T, List, [], ◌∷◌, map, length, set, get_or, Some, None, Result, Ok, Err, Ordering, Less, Equal, Greater, is_lt, is_eq, refl, sym, ◌∙◌, ap, subst, arith, true≢false}
use Rattle.std.specs.List.{insert, remove}
use Rattle.std.specs.Cmp.{IsTotalOrder}
use Rattle.std.specs.Ordering.{eq_by_cmp}
use Rattle.std.specs.FinMap as finite
use Rattle.std.specs.FinMap.{FinMap, IsAntisymmetric, entries, entries_sorted, from_sorted, entries-from_sorted, entries-insert, get-from_sorted, same_entries_map}
use Rattle.std.specs.FinMap.Entries.{find, put, is_sorted, below_all, by_order}
use Rattle.kv_model.proofs.MapLemmas.{entries-remove, others}
use Rattle.kv_memory.specs.Places.{later, place_of}

first : (a b : Bool) → T (a && b) → T a
first true b h = tt
first false b h = h

second : (a b : Bool) → T (a && b) → T b
second true b h = h
second false b h = absurd h

less : (r : Ordering) → T (is_lt r) → r ≡ Less
less Less h = refl
less Equal h = absurd h
less Greater h = absurd h

equal : (r : Ordering) → is_eq r ≡ true → r ≡ Equal
equal Less h = absurd (true≢false (sym h))
equal Equal h = refl
equal Greater h = absurd (true≢false (sym h))

pub holds : (b : Bool) → b ≡ true → T b
holds true is = tt
holds false is = absurd (true≢false (sym is))

pub is_true : (b : Bool) → T b → b ≡ true
is_true true h = refl
is_true false h = absurd h

pub later_later : (i : ℕ) (p : Result ℕ ℕ) → later i (later 1 p) ≡ later (i + 1) p
later_later i (Ok at) = ap (λ (n : ℕ). Ok n) (omega arith)
later_later i (Err at) = ap (λ (n : ℕ). Err n) (omega arith)

pub later_none : (p : Result ℕ ℕ) → later 0 p ≡ p
later_none (Ok at) = ap (λ (n : ℕ). Ok n) (omega arith)
later_none (Err at) = ap (λ (n : ℕ). Err n) (omega arith)

module _ {K X : Type 0} (R : K → K → Ordering) (o : IsTotalOrder R) where
  -- a key below one that is below all others
  lacks : (k x : K) (es : List (K × X)) → R k x ≡ Less → T (below_all R x es) → find R k es ≡ None
  lacks k x [] is below = refl
  lacks k x (e ∷ es) is below =
      ap (λ (r : Ordering). cond (is_eq r) (Some e.1) (find R k es)) (o.trans k x e.0 is (less _ (first _ _ below)))
      ∙ lacks k x es is (second _ _ below)

  kept_all : (k x : K) (es : List (K × X)) → R k x ≡ Equal → T (below_all R x es) → others R k es ≡ es
  kept_all k x [] is below = refl
  kept_all k x (e ∷ es) is below =
      ap (λ (r : Ordering). cond (not (is_eq r)) (e ∷ others R k es) (others R k es)) (o.congr k x e.0 is ∙ less _ (first _ _ below))
      ∙ ap (λ (l : List (K × X)). e ∷ l) (kept_all k x es is (second _ _ below))

-- items, each of which stands for a key and a value
module _ {A K X : Type 0} (R : K → K → Ordering) (o : IsTotalOrder R) (same : IsAntisymmetric R) (key : A → K) (value : A → X) where
  abbrev pub pair : A → K × X
  pair item = (key item, value item)

  abbrev pub pairs : List A → List (K × X)
  pairs items = map pair items

  abbrev place : K → List A → Result ℕ ℕ
  place k items = place_of R key k items

  abbrev IsSortedList : List A → Type 0
  IsSortedList items = T (is_sorted R (pairs items))

  -- ---- what the place says of the list

  pub record Found (k : K) (items : List A) (at : ℕ) : Type 0 where
    pub within : at < length items
    pub finds : (d : A) → find R k (pairs items) ≡ Some (value (get_or items at d))
    pub has_key : (d : A) → key (get_or items at d) ≡ k
    pub replaces : (item : A) → key item ≡ k → pairs (set items at item) ≡ put R k (value item) (pairs items)
    pub removes : pairs (remove items at) ≡ others R k (pairs items)

  pub record Absent (k : K) (items : List A) (at : ℕ) : Type 0 where
    pub within : at ≤ length items
    pub lacks_key : find R k (pairs items) ≡ None
    pub inserts : (item : A) → key item ≡ k → pairs (insert items at item) ≡ put R k (value item) (pairs items)

  abbrev pub Tells : K → List A → Result ℕ ℕ → Type 0
  Tells k items (Ok at) = Found k items at
  Tells k items (Err at) = Absent k items at

  -- ---- one item more in front, whose key is below k

  module _ (k : K) (a : A) (items : List A) (above : R k (key a) ≡ Greater) where
    put_is : (v : X) → put R k v (pairs (a ∷ items)) ≡ pair a ∷ put R k v (pairs items)
    put_is v = ap (λ (r : Ordering). by_order r ((k, v) ∷ pair a ∷ pairs items) ((key a, v) ∷ pairs items) (pair a ∷ put R k v (pairs items))) above

    find_is : find R k (pairs (a ∷ items)) ≡ find R k (pairs items)
    find_is = ap (λ (r : Ordering). cond (is_eq r) (Some (value a)) (find R k (pairs items))) above

    others_is : others R k (pairs (a ∷ items)) ≡ pair a ∷ others R k (pairs items)
    others_is = ap (λ (r : Ordering). cond (not (is_eq r)) (pair a ∷ others R k (pairs items)) (others R k (pairs items))) above

    one_later : (p : Result ℕ ℕ) → Tells k items p → Tells k (a ∷ items) (later 1 p)
    one_later (Ok at) found =
        let again : Found k (a ∷ items) (suc at) = record {
          within = omega (arith, found.within);
          finds = λ d. find_is ∙ found.finds d;
          has_key = λ d. found.has_key d;
          replaces = λ item is. ap (λ (l : List (K × X)). pair a ∷ l) (found.replaces item is) ∙ sym (put_is (value item));
          removes = ap (λ (l : List (K × X)). pair a ∷ l) found.removes ∙ sym others_is;
        } in
        subst (λ (n : ℕ). Found k (a ∷ items) n) (omega arith) again
    one_later (Err at) absent =
        let again : Absent k (a ∷ items) (suc at) = record {
          within = omega (arith, absent.within);
          lacks_key = find_is ∙ absent.lacks_key;
          inserts = λ item is. ap (λ (l : List (K × X)). pair a ∷ l) (absent.inserts item is) ∙ sym (put_is (value item));
        } in
        subst (λ (n : ℕ). Absent k (a ∷ items) n) (omega arith) again

  -- ---- the item in front

  module _ (k : K) (a : A) (items : List A) (sorted : IsSortedList (a ∷ items)) where
    below : T (below_all R (key a) (pairs items))
    below = first _ _ sorted

    in_front : R k (key a) ≡ Equal → Found k (a ∷ items) 0
    in_front is = record {
      within = omega arith;
      finds = λ d. ap (λ (r : Ordering). cond (is_eq r) (Some (value a)) (find R k (pairs items))) is;
      has_key = λ d. sym (same k (key a) is);
      replaces = λ item has.
          ap (λ (x : K). (x, value item) ∷ pairs items) (has ∙ same k (key a) is)
          ∙ sym (ap (λ (r : Ordering). by_order r ((k, value item) ∷ pair a ∷ pairs items) ((key a, value item) ∷ pairs items) (pair a ∷ put R k (value item) (pairs items))) is);
      removes = sym (ap (λ (r : Ordering). cond (not (is_eq r)) (pair a ∷ others R k (pairs items)) (others R k (pairs items))) is ∙ kept_all R o k (key a) (pairs items) is below);
    }

    before : R k (key a) ≡ Less → Absent k (a ∷ items) 0
    before is = record {
      within = omega arith;
      lacks_key = ap (λ (r : Ordering). cond (is_eq r) (Some (value a)) (find R k (pairs items))) is ∙ lacks R o k (key a) (pairs items) is below;
      inserts = λ item has.
          ap (λ (x : K). (x, value item) ∷ pair a ∷ pairs items) has
          ∙ sym (ap (λ (r : Ordering). by_order r ((k, value item) ∷ pair a ∷ pairs items) ((key a, value item) ∷ pairs items) (pair a ∷ put R k (value item) (pairs items))) is);
    }

    at_front : (r : Ordering) → R k (key a) ≡ r → Tells k items (place k items) → Tells k (a ∷ items) (by_order r (Err 0) (Ok 0) (later 1 (place k items)))
    at_front Less is rest = before is
    at_front Equal is rest = in_front is
    at_front Greater is rest = one_later k a items is (place k items) rest

  pub tells : (k : K) (items : List A) → IsSortedList items → Tells k items (place k items)
  tells k [] sorted = record {
    within = omega arith;
    lacks_key = refl;
    inserts = λ item has. ap (λ (x : K). (x, value item) ∷ []) has;
  }
  tells k (a ∷ items) sorted = at_front k a items sorted (R k (key a)) refl (tells k items (second _ _ sorted))

  -- ---- the list as a map

  abbrev pub map_of : List A → FinMap R X
  map_of items = from_sorted (pairs items)

  entries_are : (items : List A) → IsSortedList items → entries (map_of items) ≡ pairs items
  entries_are items sorted = entries-from_sorted R (pairs items) sorted

  -- a list whose pairs are the entries of a map
  pub same_map_of : (items : List A) (m : FinMap R X) → pairs items ≡ entries m → (map_of items ≡ m) × (is_sorted R (pairs items) ≡ true)
  same_map_of items m is =
      let sorted : IsSortedList items = subst (λ (es : List (K × X)). T (is_sorted R es)) (sym is) (entries_sorted m) in
      (same_entries_map (map_of items) m (entries_are items sorted ∙ is), is_true _ sorted)

  pub put_in : (k : K) (old new : List A) (v : X) → is_sorted R (pairs old) ≡ true → pairs new ≡ put R k v (pairs old)
      → (map_of new ≡ finite.insert (map_of old) k v) × (is_sorted R (pairs new) ≡ true)
  put_in k old new v sorted is =
      same_map_of new (finite.insert (map_of old) k v) (is ∙ ap (put R k v) (sym (entries_are old (holds _ sorted))) ∙ sym (entries-insert o (map_of old) k v))

  pub taken_out : (k : K) (old new : List A) → is_sorted R (pairs old) ≡ true → pairs new ≡ others R k (pairs old)
      → (map_of new ≡ finite.remove (map_of old) k) × (is_sorted R (pairs new) ≡ true)
  taken_out k old new sorted is =
      same_map_of new (finite.remove (map_of old) k) (is ∙ ap (others R k) (sym (entries_are old (holds _ sorted))) ∙ sym (entries-remove o same (map_of old) k))

  pub got : (k : K) (items : List A) → is_sorted R (pairs items) ≡ true → finite.get (map_of items) k ≡ find R k (pairs items)
  got k items sorted = get-from_sorted R (pairs items) k (holds _ sorted)

  pub entries_of : (items : List A) → is_sorted R (pairs items) ≡ true → entries (map_of items) ≡ pairs items
  entries_of items sorted = entries_are items (holds _ sorted)

  -- to remove a key that a map lacks leaves what it gives for each key
  lost_by : (m : FinMap R X) (k q : K) (b : Bool) → eq_by_cmp R q k ≡ b → finite.get m k ≡ None → finite.get m q ≡ cond b None (finite.get m q)
  lost_by m k q true tied none = sym (finite.get_tied o m q k (equal _ tied)) ∙ none
  lost_by m k q false tied none = refl

  pub lost : (m : FinMap R X) (k q : K) → finite.get m k ≡ None → finite.get m q ≡ finite.get (finite.remove m k) q
  lost m k q none = lost_by m k q (eq_by_cmp R q k) refl none ∙ sym (finite.get-remove o m k q)
