-- The next key of an iterator is the least key that it has yet to give.
use Rattle.std.proofs.Common.{◌≡◌, ◌⊎◌, ◌↔◌, ℕ, Bool, true, false, cond, ◌&&◌, ◌||◌, List, [], ◌∷◌, length, drop, Option, Some, None, IfSome, Ordering, Less, Equal, Greater, nat_eq, nat_cmp, is_lt, is_eq, filter, inl, inr, refl, sym, ◌∙◌, ap, subst, true≢false}
use Rattle.std.specs.Prelude.{if◌then◌else◌}
use Rattle.std.specs.List.{starts_with, list_any}
use Rattle.std.specs.Ordering.{eq_by_cmp, ordering_then, ordering_reverse}
use Rattle.std.specs.Cmp.{tied_itself, first_so, second_so, Equal-is}
use Rattle.std.specs.Cmp.Lexicographic.{slice_cmp, nat_list_cmp_total}
use Rattle.std.specs.FinMap.{keys, contains_key-keys, nat_cmp-IsAntisymmetric, slice_cmp-IsAntisymmetric, IsAntisymmetric}
use Rattle.std.proofs.lemmas.Bool.Decides.{Decides-eqb}
use Rattle.std.proofs.lemmas.Slice.Eq.{starts_is}
use Rattle.kv_model.specs.FlaggedMap.{FlaggedMap}
use Rattle.kv_model.specs.KeyOrder.{key_order, is_below}
use Rattle.kv_model.specs.StoreState.{Position}
use Rattle.kv_model.specs.NextKey.{lesser_key, least_key, is_above_last, may_give, next_key, IsAhead, IsNext}
use Rattle.kv_model.proofs.OrderLemmas.{key_order_total}

pub bytes_same : IsAntisymmetric (slice_cmp nat_cmp)
bytes_same = slice_cmp-IsAntisymmetric nat_cmp-IsAntisymmetric

is_less : (r : Ordering) → is_lt r ≡ true → r ≡ Less
is_less Less h = refl
is_less Equal h = absurd (true≢false (sym h))
is_less Greater h = absurd (true≢false (sym h))

both_equal : (a b : Ordering) → ordering_then a b ≡ Equal → b ≡ Equal
both_equal Less b h = absurd (true≢false (sym (ap is_eq h)))
both_equal Equal b h = h
both_equal Greater b h = absurd (true≢false (sym (ap is_eq h)))

turned_less : (r s : Ordering) → s ≡ ordering_reverse r → r ≡ Greater → is_lt s ≡ true
turned_less r s turns is = ap is_lt (turns ∙ ap ordering_reverse is)

or_true : (a b : Bool) → b ≡ true → a || b ≡ true
or_true true b h = refl
or_true false b h = h

and_true : (a b : Bool) → a ≡ true → b ≡ true → a && b ≡ true
and_true true b first second = second
and_true false b first second = first

module _ (hash_bits : ℕ) where
  pub below_trans : (a b c : List ℕ) → is_below hash_bits a b ≡ true → is_below hash_bits b c ≡ true → is_below hash_bits a c ≡ true
  below_trans a b c first second = ap is_lt ((key_order_total hash_bits).trans a b c (is_less _ first) (is_less _ second))

  pub not_below_itself : (a : List ℕ) → is_below hash_bits a a ≡ true → ⊥
  not_below_itself a h = true≢false (sym h ∙ ap is_lt (tied_itself (key_order_total hash_bits) a))

  -- of two keys one is below the other, or they are equal
  compared : (a b : List ℕ) (r : Ordering) → key_order hash_bits a b ≡ r → (a ≡ b) ⊎ (is_below hash_bits a b ≡ true) ⊎ (is_below hash_bits b a ≡ true)
  compared a b Less is = inr (inl (ap is_lt is))
  compared a b Equal is = inl (bytes_same a b (both_equal _ _ is))
  compared a b Greater is = inr (inr (turned_less _ _ ((key_order_total hash_bits).antisymm b a) is))

  pub below_or_above : (a b : List ℕ) → (a ≡ b) ⊎ (is_below hash_bits a b ≡ true) ⊎ (is_below hash_bits b a ≡ true)
  below_or_above a b = compared a b (key_order hash_bits a b) refl

  -- ---- the least of a list

  abbrev Has : List ℕ → List (List ℕ) → Type 0
  Has key [] = ⊥
  Has key (k ∷ ks) = (key ≡ k) ⊎ Has key ks

  abbrev IsLeast : List (List ℕ) → Option (List ℕ) → Type 0
  IsLeast ks None = (key : List ℕ) → Has key ks → ⊥
  IsLeast ks (Some least) = Has least ks × ((key : List ℕ) → Has key ks → (key ≡ least) ⊎ (is_below hash_bits least key ≡ true))

  lesser_below : (k b : List ℕ) (ks : List (List ℕ)) → is_below hash_bits b k ≡ true → IsLeast ks (Some b) → IsLeast (k ∷ ks) (Some b)
  lesser_below k b ks below least = (inr least.0, λ key has. elim has [ inl is ↦ inr (subst (λ (x : List ℕ). is_below hash_bits b x ≡ true) (sym is) below) | inr has ↦ least.1 key has ])

  lesser_first : (k b : List ℕ) (ks : List (List ℕ)) → (k ≡ b) ⊎ (is_below hash_bits k b ≡ true) → IsLeast ks (Some b) → IsLeast (k ∷ ks) (Some k)
  lesser_first k b ks (inl same) least = (
    inl refl,
    λ key has. elim has [
      | inl is ↦ inl is
      | inr has ↦ subst (λ (x : List ℕ). (key ≡ x) ⊎ (is_below hash_bits x key ≡ true)) (sym same) (least.1 key has)
    ],
  )
  lesser_first k b ks (inr below) least = (
    inl refl,
    λ key has. elim has [
      | inl is ↦ inl is
      | inr has ↦ elim (least.1 key has) [
        | inl is ↦ inr (subst (λ (x : List ℕ). is_below hash_bits k x ≡ true) (sym is) below)
        | inr above ↦ inr (below_trans k b key below above)
      ]
    ],
  )

  not_above : (k b : List ℕ) → is_below hash_bits b k ≡ false → (k ≡ b) ⊎ (is_below hash_bits k b ≡ true) ⊎ (is_below hash_bits b k ≡ true) → (k ≡ b) ⊎ (is_below hash_bits k b ≡ true)
  not_above k b h (inl same) = inl same
  not_above k b h (inr (inl below)) = inr below
  not_above k b h (inr (inr above)) = absurd (true≢false (sym above ∙ h))

  lesser : (k b : List ℕ) (ks : List (List ℕ)) (t : Bool) → is_below hash_bits b k ≡ t → IsLeast ks (Some b) → IsLeast (k ∷ ks) (if t then Some b else Some k)
  lesser k b ks true h least = lesser_below k b ks h least
  lesser k b ks false h least = lesser_first k b ks (not_above k b h (below_or_above k b)) least

  least_more : (k : List ℕ) (ks : List (List ℕ)) (found : Option (List ℕ)) → IsLeast ks found → IsLeast (k ∷ ks) (lesser_key hash_bits k found)
  least_more k ks None none = (inl refl, λ key has. elim has [ inl is ↦ inl is | inr has ↦ absurd (none key has) ])
  least_more k ks (Some b) least = lesser k b ks (is_below hash_bits b k) refl least

  least_key_is : (ks : List (List ℕ)) → IsLeast ks (least_key hash_bits ks)
  least_key_is [] = λ key has. has
  least_key_is (k ∷ ks) = least_more k ks (least_key hash_bits ks) (least_key_is ks)

  -- ---- which keys are looked through

  module _ (p : List ℕ → Bool) where
    kept : (key k : List ℕ) (ks : List (List ℕ)) (t : Bool) → p k ≡ t → p key ≡ true → (key ≡ k) ⊎ Has key (filter p ks) → Has key (cond t (k ∷ filter p ks) (filter p ks))
    kept key k ks true h passes has = has
    kept key k ks false h passes (inl is) = absurd (true≢false (sym passes ∙ ap p is ∙ h))
    kept key k ks false h passes (inr has) = has

    in_filter : (key : List ℕ) (ks : List (List ℕ)) → p key ≡ true → Has key ks → Has key (filter p ks)
    in_filter key [] passes has = has
    in_filter key (k ∷ ks) passes (inl is) = kept key k ks (p k) refl passes (inl is)
    in_filter key (k ∷ ks) passes (inr has) = kept key k ks (p k) refl passes (inr (in_filter key ks passes has))

    passed : (key k : List ℕ) (ks : List (List ℕ)) (t : Bool) → p k ≡ t → (Has key (filter p ks) → Has key ks × (p key ≡ true)) → Has key (cond t (k ∷ filter p ks) (filter p ks)) → Has key (k ∷ ks) × (p key ≡ true)
    passed key k ks true h rest (inl is) = (inl is, ap p is ∙ h)
    passed key k ks true h rest (inr has) = (inr (rest has).0, (rest has).1)
    passed key k ks false h rest has = (inr (rest has).0, (rest has).1)

    from_filter : (key : List ℕ) (ks : List (List ℕ)) → Has key (filter p ks) → Has key ks × (p key ≡ true)
    from_filter key [] has = absurd has
    from_filter key (k ∷ ks) has = passed key k ks (p k) refl (from_filter key ks) has

  abbrev same : List ℕ → List ℕ → Bool
  same = eq_by_cmp (slice_cmp nat_cmp)

  any_more : (key k : List ℕ) (others : Bool) (t : Bool) → same key k ≡ t → t || others ≡ true → (key ≡ k) ⊎ (others ≡ true)
  any_more key k others true h any = inl (bytes_same key k ((Equal-is _).0 h))
  any_more key k others false h any = inr any

  from_any : (key : List ℕ) (ks : List (List ℕ)) → list_any (same key) ks ≡ true → Has key ks
  from_any key [] any = true≢false (sym any)
  from_any key (k ∷ ks) any = elim (any_more key k (list_any (same key) ks) (same key k) refl any) [ inl is ↦ inl is | inr more ↦ inr (from_any key ks more) ]

  to_any : (key : List ℕ) (ks : List (List ℕ)) → Has key ks → list_any (same key) ks ≡ true
  to_any key [] has = absurd has
  to_any key (k ∷ ks) (inl is) = ap (λ (t : Bool). t || list_any (same key) ks) (ap is_eq (ap (slice_cmp nat_cmp key) (sym is) ∙ tied_itself nat_list_cmp_total key))
  to_any key (k ∷ ks) (inr has) = or_true (same key k) (list_any (same key) ks) (to_any key ks has)

  -- ---- the next key

  above_is : (last : Option (List ℕ)) (key : List ℕ) → is_above_last hash_bits last key ≡ true → IfSome last (λ (l : List ℕ). is_below hash_bits l key ≡ true)
  above_is None key h = tt
  above_is (Some l) key h = h

  is_above : (last : Option (List ℕ)) (key : List ℕ) → IfSome last (λ (l : List ℕ). is_below hash_bits l key ≡ true) → is_above_last hash_bits last key ≡ true
  is_above None key h = refl
  is_above (Some l) key h = h

  module _ (m : FlaggedMap) (position : Position) where
    -- the keys that the definition looks through are those ahead
    ahead_from : (key : List ℕ) → Has key (filter (may_give hash_bits position) (keys m)) → IsAhead hash_bits m position key
    ahead_from key has =
        let found = from_filter (may_give hash_bits position) key (keys m) has in
        let prefixed = (starts_is Decides-eqb key position.prefix (starts_with nat_eq key position.prefix) refl).0 (first_so _ _ found.1) in
        record {
          present = contains_key-keys m key ∙ to_any key (keys m) found.0;
          prefixed = (drop (length position.prefix) key, prefixed);
          above = above_is position.last key (second_so _ _ found.1);
        }

    from_ahead : (key : List ℕ) → IsAhead hash_bits m position key → Has key (filter (may_give hash_bits position) (keys m))
    from_ahead key ahead =
        let starts = (starts_is Decides-eqb key position.prefix (starts_with nat_eq key position.prefix) refl).1 ahead.prefixed.0 ahead.prefixed.1 in
        in_filter (may_give hash_bits position) key (keys m) (and_true _ _ starts (is_above position.last key ahead.above)) (from_any key (keys m) (sym (contains_key-keys m key) ∙ ahead.present))

    next_from : (found : Option (List ℕ)) → IsLeast (filter (may_give hash_bits position) (keys m)) found → IsNext hash_bits m position found
    next_from None none = λ key ahead. none key (from_ahead key ahead)
    next_from (Some key) least = (ahead_from key least.0, λ other ahead. least.1 other (from_ahead other ahead))

    pub next_key_is_next : IsNext hash_bits m position (next_key hash_bits m position)
    next_key_is_next = next_from (next_key hash_bits m position) (least_key_is (filter (may_give hash_bits position) (keys m)))

    two_least : (a b : List ℕ) → (a ≡ b) ⊎ (is_below hash_bits b a ≡ true) → (b ≡ a) ⊎ (is_below hash_bits a b ≡ true) → a ≡ b
    two_least a b (inl is) second = is
    two_least a b (inr below) (inl is) = sym is
    two_least a b (inr below) (inr above) = absurd (not_below_itself a (below_trans a b a above below))

    pub next_is_one : (a b : Option (List ℕ)) → IsNext hash_bits m position a → IsNext hash_bits m position b → a ≡ b
    next_is_one None None first second = refl
    next_is_one None (Some b) first second = absurd (first b second.0)
    next_is_one (Some a) None first second = absurd (second a first.0)
    next_is_one (Some a) (Some b) first second = ap Some (two_least a b (second.1 a first.0) (first.1 b second.0))

    pub next_key_is_least : (found : Option (List ℕ)) → IsNext hash_bits m position found ↔ (next_key hash_bits m position ≡ found)
    next_key_is_least found = (λ next. next_is_one _ _ next_key_is_next next, λ is. subst (IsNext hash_bits m position) is next_key_is_next)
