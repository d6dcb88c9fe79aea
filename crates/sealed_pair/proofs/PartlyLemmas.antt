-- A rollback map of which some tags are healed.
use Rattle.std.proofs.Common.{◌≡◌, ◌≢◌, ◌⊎◌, inl, inr, ℕ, ◌+◌, ◌≤◌, Bool, true, false, cond, nat_le, List, [], length, Option, Some, None, Ordering, Less, Equal, Greater, is_eq, nat_cmp, refl, sym, ◌∙◌, ap, subst, arith, true≢false}
use Rattle.std.specs.Prelude.{◌↔◌, ◌||◌, is_some, IfSome, IsTrue}
use Rattle.std.specs.Option.{option_map, option_map_or}
use Rattle.std.specs.Ordering.{eq_by_cmp}
use Rattle.std.specs.Cmp.{eq_by_cmp_equiv}
use Rattle.std.specs.Cmp.Lexicographic.{nat_list_cmp_total, slice_cmp}
use Rattle.std.specs.FinMap.{contains_key, get, get-insert, insert, same_map}
use Rattle.std.specs.FinSet as set
use Rattle.base_core.specs.Sizes.{record_size}
use Rattle.kv_model.specs.Constants.{Secure}
use Rattle.kv_model.specs.FlaggedMap.{FlaggedMap, Stored}
use Rattle.kv_model.specs.KeyOrder.{is_below}
use Rattle.kv_model.specs.KeySizes.{key_size}
use Rattle.kv_model.specs.NextKey.{IsAhead, IsNext, is_above_last}
use Rattle.kv_model.specs.Sizes.{used}
use Rattle.kv_model.specs.StoreState.{Maps}
use Rattle.kv_model.proofs.NextKeyLemmas.{bytes_same}
use Rattle.kv_model.proofs.UsedLemmas.{used-insert}
use Rattle.sealed_pair.specs.declared.limits.TheConstants.{TAG_SIZE}
use Rattle.sealed_pair.specs.Heal.{heal, healed, healed_by, metadata_in}
use Rattle.sealed_pair.specs.Recovering.{with_healed}
use Rattle.sealed_pair.specs.Walking.{HasChanged, IsBetween, place}
use Rattle.sealed_pair.proofs.HealLemmas.{get_healed, healed_twice, length-healed}

equal_then : (r : Ordering) → is_eq r ≡ true → r ≡ Equal
equal_then Less is = absurd (true≢false (sym is))
equal_then Equal is = refl
equal_then Greater is = absurd (true≢false (sym is))

some_same : (x y : Stored) → Some x ≡ Some y → x ≡ y
some_same x y same = cc

abbrev pub tied : List ℕ → List ℕ → Bool
tied = eq_by_cmp (slice_cmp nat_cmp)

-- two keys that tie are one
one_key : (a b : List ℕ) → tied a b ≡ true → a ≡ b
one_key a b is = bytes_same a b (equal_then _ is)

module _ (m : FlaggedMap) (key : List ℕ) (v : Stored) where
  pub get_put : get (insert m key v) key ≡ Some v
  get_put = get-insert nat_list_cmp_total m key v key ∙ ap (λ (b : Bool). cond b (Some v) (get m key)) ((eq_by_cmp_equiv nat_list_cmp_total).refl key)

  pub get_beside : (q : List ℕ) → tied q key ≡ false → get (insert m key v) q ≡ get m q
  get_beside q apart = get-insert nat_list_cmp_total m key v q ∙ ap (λ (b : Bool). cond b (Some v) (get m q)) apart

-- ---- one tag more

module _ (secure : Secure) (above before : FlaggedMap) where
  abbrev pub maps_at : FlaggedMap → Maps
  maps_at map = record { primary = above; rollback = map }

  abbrev pub whole : FlaggedMap
  whole = (heal secure (maps_at before)).rollback

  -- the tag of a key once it is healed
  abbrev new_tag : List ℕ → Stored → Stored
  new_tag key tag = healed secure (maps_at before) key tag

  -- some tags are healed, and the map takes as much room
  pub record IsPart (map : FlaggedMap) : Type 0 where
    pub between : IsBetween before whole map
    pub room : used secure.prog map ≡ used secure.prog before

  pub whole_at : (key : List ℕ) (found : Option Stored) → get before key ≡ found → get whole key ≡ option_map (new_tag key) found
  whole_at key found is = get_healed secure (maps_at before) key ∙ ap (option_map (new_tag key)) is

  module _ (map : FlaggedMap) (part : IsPart map) (key : List ℕ) where
    abbrev pub next_map : FlaggedMap
    next_map = with_healed secure above map key

    same_tag : (tag : Stored) → healed secure (maps_at map) key tag ≡ new_tag key tag
    same_tag tag =
        ap (λ (n : ℕ). option_map_or (λ (s : Stored). healed_by (nat_le (n + record_size secure.prog (length key) TAG_SIZE) secure.room) s.bytes (metadata_in secure.root key s.bytes) tag) (get above key) tag)
        part.room

    abbrev put_by : Option Stored → FlaggedMap
    put_by found = option_map_or (λ (tag : Stored). insert map key (healed secure (maps_at map) key tag)) found map

    put_is : (found : Option Stored) → get map key ≡ found → next_map ≡ put_by found
    put_is found is = ap put_by is

    -- no tag
    none_there : get map key ≡ None → get whole key ≡ None
    none_there none = elim (part.between key) [
      | inl is ↦ whole_at key None (sym is ∙ none)
      | inr is ↦ sym is ∙ none
    ]

    healed_once : (old : Option Stored) (tag : Stored) → get before key ≡ old → Some tag ≡ get whole key → Some (new_tag key tag) ≡ get whole key
    healed_once None tag was is = absurd (true≢false (ap is_some (is ∙ whole_at key None was)))
    healed_once (Some old) tag was is =
        let one : tag ≡ new_tag key old = some_same tag (new_tag key old) (is ∙ whole_at key (Some old) was) in
        ap (λ (x : Stored). Some (new_tag key x)) one ∙ ap Some (healed_twice secure (maps_at before) key old) ∙ sym (whole_at key (Some old) was)

    some_there : (tag : Stored) → get map key ≡ Some tag → Some (new_tag key tag) ≡ get whole key
    some_there tag there = elim (part.between key) [
      | inl is ↦ sym (whole_at key (Some tag) (sym is ∙ there))
      | inr is ↦ healed_once (get before key) tag refl (sym there ∙ is)
    ]

    at_by : (found : Option Stored) → get map key ≡ found → get (put_by found) key ≡ get whole key
    at_by None is = is ∙ sym (none_there is)
    at_by (Some tag) is = get_put map key (healed secure (maps_at map) key tag) ∙ ap Some (same_tag tag) ∙ some_there tag is

    -- the key has what it is to have, and every other key what it had
    pub at_key : get next_map key ≡ get whole key
    at_key = ap (λ (m : FlaggedMap). get m key) (put_is (get map key) refl) ∙ at_by (get map key) refl

    beside_by : (found : Option Stored) (q : List ℕ) → tied q key ≡ false → get (put_by found) q ≡ get map q
    beside_by None q apart = refl
    beside_by (Some tag) q apart = get_beside map key (healed secure (maps_at map) key tag) q apart

    pub beside : (q : List ℕ) → tied q key ≡ false → get next_map q ≡ get map q
    beside q apart = beside_by (get map key) q apart

    room_by : (found : Option Stored) → get map key ≡ found → used secure.prog (put_by found) ≡ used secure.prog map
    room_by None is = refl
    room_by (Some tag) is =
        let put = used-insert secure.prog map key (healed secure (maps_at map) key tag) in
        let had : key_size secure.prog map key ≡ record_size secure.prog (length key) (length tag.bytes) =
        ap (λ (o : Option Stored). option_map_or (λ (s : Stored). record_size secure.prog (length key) (length s.bytes)) o 0) is in
        let size : record_size secure.prog (length key) (length (healed secure (maps_at map) key tag).bytes) ≡ record_size secure.prog (length key) (length tag.bytes) =
        ap (record_size secure.prog (length key)) (length-healed secure (maps_at map) key tag) in
        omega (arith, put, had, size)

    -- every key is the one, or another
    pub by_key : (P : List ℕ → Type 0) (q : List ℕ) (same : Bool) → tied q key ≡ same → P key → (tied q key ≡ false → P q) → P q
    by_key P q true is here there = subst P (sym (one_key q key is)) here
    by_key P q false is here there = there is

    pub next_part : IsPart next_map
    next_part = record {
      between = λ q. by_key (λ (x : List ℕ). (get next_map x ≡ get before x) ⊎ (get next_map x ≡ get whole x)) q (tied q key) refl (inr at_key)
          (λ apart. elim (part.between q) [ inl is ↦ inl (beside q apart ∙ is) | inr is ↦ inr (beside q apart ∙ is) ]);
      room = room_by (get map key) refl ∙ part.room;
    }

    -- ---- which keys changed

    same_next : get next_map key ≡ get map key → next_map ≡ map
    same_next is = same_map nat_list_cmp_total bytes_same next_map map (λ q.
        by_key (λ (x : List ℕ). get next_map x ≡ get map x) q (tied q key) refl is (λ apart. beside q apart))

    -- a key that changes now had its first value
    first_value : next_map ≢ map → get map key ≡ get before key
    first_value other = elim (part.between key) [ inl is ↦ is | inr is ↦ absurd (other (same_next (at_key ∙ sym is))) ]

    or_of : (a b : Bool) → (a || b) ≡ true → (a ≡ true) ⊎ (b ≡ true)
    or_of true b is = inl refl
    or_of false b is = inr is

    not_true : (b : Bool) → (b ≡ true → ⊥) → b ≡ false
    not_true true never = absurd (never refl)
    not_true false never = refl

    module _ (count : ℕ) (changed : HasChanged before map count) where
      abbrev more : set.FinSet (slice_cmp nat_cmp)
      more = set.insert changed.keys key

      contains_more : (q : List ℕ) → set.contains more q ≡ (tied q key || set.contains changed.keys q)
      contains_more q = set.contains-insert nat_list_cmp_total changed.keys key q

      module _ (other : next_map ≢ map) where
        not_yet : set.contains changed.keys key ≡ false
        not_yet = not_true (set.contains changed.keys key) (λ has. (changed.each key).0 has (first_value other))

        differs : get next_map key ≢ get before key
        differs same = other (same_next (same ∙ sym (first_value other)))

        abbrev Each : List ℕ → Type 0
        Each q = (set.contains more q ≡ true) ↔ (get next_map q ≢ get before q)

        each_here : Each key
        each_here = (
          λ has. differs,
          λ now. contains_more key ∙ ap (λ (b : Bool). b || set.contains changed.keys key) ((eq_by_cmp_equiv nat_list_cmp_total).refl key),
        )

        each_beside : (q : List ℕ) → tied q key ≡ false → Each q
        each_beside q apart = (
          λ has. subst (λ (o : Option Stored). o ≢ get before q) (sym (beside q apart))
              ((changed.each q).0 (sym (contains_more q ∙ ap (λ (b : Bool). b || set.contains changed.keys q) apart) ∙ has)),
          λ now. contains_more q ∙ ap (λ (b : Bool). b || set.contains changed.keys q) apart
              ∙ (changed.each q).1 (subst (λ (o : Option Stored). o ≢ get before q) (beside q apart) now),
        )

        pub changed_more : HasChanged before next_map (count + 1)
        changed_more = record {
          keys = more;
          each = λ q. by_key Each q (tied q key) refl each_here (each_beside q);
          counted = set.len-insert nat_list_cmp_total changed.keys key
              ∙ ap (λ (b : Bool). cond b (set.len changed.keys) (set.len changed.keys + 1)) not_yet ∙ ap (λ (n : ℕ). n + 1) changed.counted;
        }

      pub changed_still : next_map ≡ map → HasChanged before next_map count
      changed_still same = subst (λ (m : FlaggedMap). HasChanged before m count) (sym same) changed

  pub part_none : IsPart before
  part_none = record { between = λ key. inl refl; room = refl }

pub changed_none : (map : FlaggedMap) → HasChanged map map 0
changed_none map = record {
  keys = set.empty;
  each = λ key. (λ has. absurd (true≢false (sym has ∙ set.contains-empty (slice_cmp nat_cmp) key)), λ other. absurd (other refl));
  counted = set.len-empty (slice_cmp nat_cmp);
}
