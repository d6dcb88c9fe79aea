-- What a map uses is the sum of the sizes of its keys: how it changes by an insert and a remove.
use Rattle.std.proofs.Common.{◌≡◌, ℕ, ◌+◌, ◌≤◌, Bool, true, false, cond, not, ◌&&◌, T, List, [], ◌∷◌, length, Option, Some, None, Ordering, Less, Equal, Greater, nat_cmp, is_lt, is_eq, refl, ◌∙◌, ap, arith, true≢false}
use Rattle.std.specs.Option.{option_map_or}
use Rattle.std.specs.Ordering.{ordering_reverse}
use Rattle.std.specs.Cmp.Lexicographic.{slice_cmp, nat_list_cmp_total}
use Rattle.std.specs.FinMap.{empty, insert, remove, entries, entries_sorted, entries-insert, get-entries}
use Rattle.std.specs.FinMap.Entries.{find, put, is_sorted, below_all, by_order}
use Rattle.kv_model.specs.FlaggedMap.{FlaggedMap, Stored}
use Rattle.base_core.specs.Sizes.{record_size}
use Rattle.kv_model.specs.Sizes.{used, used_by}
use Rattle.kv_model.specs.KeySizes.{key_size}
use Rattle.kv_model.proofs.MapLemmas.{entries-empty, entries-remove, others}
use Rattle.kv_model.proofs.NextKeyLemmas.{bytes_same}

abbrev R : List ℕ → List ℕ → Ordering
R = slice_cmp nat_cmp

first : (a b : Bool) → T (a && b) → T a
first true b h = tt
first false b h = h

second : (a b : Bool) → T (a && b) → T b
second true b h = h
second false b h = absurd h

less : (r : Ordering) → T (is_lt r) → r ≡ Less
less Less h = refl
less Equal h = absurd h
less Greater h = absurd h

-- what a list of entries in order has of a key
abbrev found_size : ℕ → List ℕ → List (List ℕ × Stored) → ℕ
found_size prog key es = option_map_or (λ (stored : Stored). record_size prog (length key) (length stored.bytes)) (find R key es) 0

-- a key that is not above the first is below the second
below_next : (k x y : List ℕ) (r : Ordering) → R k x ≡ r → is_lt (ordering_reverse r) ≡ false → R x y ≡ Less → R k y ≡ Less
below_next k x y Less is low next = nat_list_cmp_total.trans k x y is next
below_next k x y Equal is low next = nat_list_cmp_total.congr k x y is ∙ next
below_next k x y Greater is low next = absurd (true≢false low)

lacks : (k x : List ℕ) (es : List (List ℕ × Stored)) → is_lt (ordering_reverse (R k x)) ≡ false → T (below_all R x es) → find R k es ≡ None
lacks k x [] low below = refl
lacks k x (e ∷ es) low below =
    ap (λ (r : Ordering). cond (is_eq r) (Some e.1) (find R k es)) (below_next k x e.0 (R k x) refl low (less _ (first _ _ below)))
    ∙ lacks k x es low (second _ _ below)

module _ (prog : ℕ) where
  abbrev size : List ℕ → Stored → ℕ
  size key stored = record_size prog (length key) (length stored.bytes)

  none_found : (key : List ℕ) (es : List (List ℕ × Stored)) → find R key es ≡ None → found_size prog key es ≡ 0
  none_found key es none = ap (λ (o : Option Stored). option_map_or (size key) o 0) none

  -- ---- an insert

  put_at : (key : List ℕ) (value : Stored) (e : List ℕ × Stored) (es : List (List ℕ × Stored)) (r : Ordering) → R key e.0 ≡ r → T (below_all R e.0 es)
      → used_by prog (put R key value es) + found_size prog key es ≡ used_by prog es + size key value
      → used_by prog (by_order r ((key, value) ∷ e ∷ es) ((e.0, value) ∷ es) (e ∷ put R key value es)) + option_map_or (size key) (cond (is_eq r) (Some e.1) (find R key es)) 0
      ≡ size e.0 e.1 + used_by prog es + size key value
  put_at key value e es Less is below rest =
      let none = none_found key es (lacks key e.0 es (ap (λ (o : Ordering). is_lt (ordering_reverse o)) is) below) in
      omega arith
  put_at key value e es Equal is below rest =
      let same = ap (λ (k : List ℕ). size k value) (bytes_same key e.0 is) in
      let old = ap (λ (k : List ℕ). size k e.1) (bytes_same key e.0 is) in
      omega arith
  put_at key value e es Greater is below rest = omega arith

  used-put : (key : List ℕ) (value : Stored) (es : List (List ℕ × Stored)) → T (is_sorted R es)
      → used_by prog (put R key value es) + found_size prog key es ≡ used_by prog es + size key value
  used-put key value [] sorted = omega arith
  used-put key value (e ∷ es) sorted = put_at key value e es (R key e.0) refl (first _ _ sorted) (used-put key value es (second _ _ sorted))

  -- ---- a remove

  cut_at : (key : List ℕ) (e : List ℕ × Stored) (es : List (List ℕ × Stored)) (r : Ordering) → R key e.0 ≡ r → T (below_all R e.0 es)
      → used_by prog (others R key es) + found_size prog key es ≡ used_by prog es
      → used_by prog (cond (not (is_eq r)) (e ∷ others R key es) (others R key es)) + option_map_or (size key) (cond (is_eq r) (Some e.1) (find R key es)) 0
      ≡ size e.0 e.1 + used_by prog es
  cut_at key e es Less is below rest = omega arith
  cut_at key e es Equal is below rest =
      let none = none_found key es (lacks key e.0 es (ap (λ (o : Ordering). is_lt (ordering_reverse o)) is) below) in
      let old = ap (λ (k : List ℕ). size k e.1) (bytes_same key e.0 is) in
      omega arith
  cut_at key e es Greater is below rest = omega arith

  used-others : (key : List ℕ) (es : List (List ℕ × Stored)) → T (is_sorted R es)
      → used_by prog (others R key es) + found_size prog key es ≡ used_by prog es
  used-others key [] sorted = refl
  used-others key (e ∷ es) sorted = cut_at key e es (R key e.0) refl (first _ _ sorted) (used-others key es (second _ _ sorted))

  -- ---- maps

  pub used-empty : used prog empty ≡ 0
  used-empty = ap (used_by prog) (entries-empty R Stored)

  module _ (m : FlaggedMap) (key : List ℕ) where
    size_in : key_size prog m key ≡ found_size prog key (entries m)
    size_in = ap (λ (o : Option Stored). option_map_or (size key) o 0) (get-entries m key)

    pub used-insert : (value : Stored) → used prog (insert m key value) + key_size prog m key ≡ used prog m + record_size prog (length key) (length value.bytes)
    used-insert value =
        ap (λ (es : List (List ℕ × Stored)). used_by prog es + key_size prog m key) (entries-insert nat_list_cmp_total m key value)
        ∙ ap (λ (n : ℕ). used_by prog (put R key value (entries m)) + n) size_in
        ∙ used-put key value (entries m) (entries_sorted m)

    pub used-remove : used prog (remove m key) + key_size prog m key ≡ used prog m
    used-remove =
        ap (λ (es : List (List ℕ × Stored)). used_by prog es + key_size prog m key) (entries-remove nat_list_cmp_total bytes_same m key)
        ∙ ap (λ (n : ℕ). used_by prog (others R key (entries m)) + n) size_in
        ∙ used-others key (entries m) (entries_sorted m)

    -- no key takes more than the map uses
    pub used-at_least : key_size prog m key ≤ used prog m
    used-at_least = omega (arith, used-remove)

    -- with no word on what the key had before
    pub used-insert_at_most : (value : Stored) → used prog (insert m key value) ≤ used prog m + record_size prog (length key) (length value.bytes)
    used-insert_at_most value = omega (arith, used-insert value)

    pub used-remove_at_most : used prog (remove m key) ≤ used prog m
    used-remove_at_most = omega (arith, used-remove)
