-- Lists each of whose elements has P, and each two of whose elements, in order, have R.
use Rattle.std.proofs.Common.{◌≡◌, ◌⊎◌, ℕ, ◌+◌, ◌-◌, ◌<◌, ◌≤◌, List, length, get_or, set, inl, inr, ⊎_elim, sym, ◌∙◌, ap, subst, arith}
use Rattle.std.specs.List.{insert, remove}
use Rattle.std.proofs.lemmas.Bool.{cases_eq, cases_lt}
use Rattle.std.proofs.lemmas.List.{get_or-set_other, get_or-set_same, length-set}
use Rattle.std.proofs.lemmas.List.Edits.{get_or-insert_above, get_or-insert_at, get_or-insert_below, get_or-remove_above, get_or-remove_below, length-insert, length-remove}

pub record IsChain {X : Type 0} (d : X) (P : X → Type 0) (R : X → X → Type 0) (xs : List X) : Type 0 where
  pub each : (i : ℕ) → i < length xs → P (get_or xs i d)
  pub pairs : (i j : ℕ) → i < j → j < length xs → R (get_or xs i d) (get_or xs j d)

-- Where an element of a list with one more came from.
data Spot {X : Type 0} (d : X) (xs : List X) (at : ℕ) (x : X) (i : ℕ) (e : X) : Type 0 where
  before : i < at → i < length xs → e ≡ get_or xs i d → Spot d xs at x i e
  here : i ≡ at → e ≡ x → Spot d xs at x i e
  behind : (j : ℕ) → i ≡ j + 1 → at ≤ j → j < length xs → e ≡ get_or xs j d → Spot d xs at x i e

spot : {X : Type 0} (d : X) (xs : List X) (at : ℕ) (x : X) (i : ℕ) → at ≤ length xs → i < length xs + 1 → Spot d xs at x i (get_or (insert xs at x) i d)
spot d xs at x i inside lt =
    ⊎_elim (λ less. before less (omega arith) (get_or-insert_below xs at x d i less inside))
    (λ not_less. ⊎_elim
    (λ more. behind (i - 1) (omega arith) (omega arith) (omega arith)
    (let back : i ≡ (i - 1) + 1 = omega arith in ap (λ (n : ℕ). get_or (insert xs at x) n d) back ∙ get_or-insert_above xs at x d (i - 1) (omega arith) inside))
    (λ le. let same : i ≡ at = omega arith in here same (ap (λ (n : ℕ). get_or (insert xs at x) n d) same ∙ get_or-insert_at xs at x d inside))
    (cases_lt at i))
    (cases_lt i at)

module _ {X : Type 0} (d : X) (P : X → Type 0) (R : X → X → Type 0) (xs : List X) (chain : IsChain d P R xs) (at : ℕ) where
  each_spot : (x : X) → P x → (i : ℕ) (e : X) → Spot d xs at x i e → P e
  each_spot x has i e (before lt inside is) = subst P (sym is) (chain.each i inside)
  each_spot x has i e (here same is) = subst P (sym is) has
  each_spot x has i e (behind j next le inside is) = subst P (sym is) (chain.each j inside)

  related : (a b e f : X) → e ≡ a → f ≡ b → R a b → R e f
  related a b e f first second holds = subst (λ (z : X). R e z) (sym second) (subst (λ (z : X). R z b) (sym first) holds)

  pair_spots : (x : X) → ((i : ℕ) → i < at → i < length xs → R (get_or xs i d) x) → ((i : ℕ) → at ≤ i → i < length xs → R x (get_or xs i d))
      → (i j : ℕ) (e f : X) → i < j → Spot d xs at x i e → Spot d xs at x j f → R e f
  pair_spots x below above i j e f lt (before a b c) (before p q r) = related _ _ e f c r (chain.pairs i j lt q)
  pair_spots x below above i j e f lt (before a b c) (here p q) = related _ _ e f c q (below i a b)
  pair_spots x below above i j e f lt (before a b c) (behind k p q r s) = related _ _ e f c s (chain.pairs i k (omega arith) r)
  pair_spots x below above i j e f lt (here a b) (before p q r) = absurd (omega arith)
  pair_spots x below above i j e f lt (here a b) (here p q) = absurd (omega arith)
  pair_spots x below above i j e f lt (here a b) (behind k p q r s) = related _ _ e f b s (above k q r)
  pair_spots x below above i j e f lt (behind l a b c g) (before p q r) = absurd (omega arith)
  pair_spots x below above i j e f lt (behind l a b c g) (here p q) = absurd (omega arith)
  pair_spots x below above i j e f lt (behind l a b c g) (behind k p q r s) = related _ _ e f g s (chain.pairs l k (omega arith) r)

  pub chain_insert : (x : X) → at ≤ length xs → P x → ((i : ℕ) → i < at → i < length xs → R (get_or xs i d) x)
      → ((i : ℕ) → at ≤ i → i < length xs → R x (get_or xs i d)) → IsChain d P R (insert xs at x)
  chain_insert x inside has below above =
      let long = length-insert xs at x inside in
      record {
        each = λ i lt. each_spot x has i _ (spot d xs at x i inside (omega (arith, long, lt)));
        pairs = λ i j lt within. pair_spots x below above i j _ _ lt (spot d xs at x i inside (omega (arith, long, lt, within))) (spot d xs at x j inside (omega (arith, long, within)));
      }

  removed_spot : (i : ℕ) → at < length xs → ((i < at) × (get_or (remove xs at) i d ≡ get_or xs i d)) ⊎ ((at ≤ i) × (get_or (remove xs at) i d ≡ get_or xs (i + 1) d))
  removed_spot i inside =
      ⊎_elim (λ lt. inl (lt, get_or-remove_below xs at d i lt inside)) (λ le. inr (le, get_or-remove_above xs at d i le inside)) (cases_lt i at)

  pub chain_remove : at < length xs → IsChain d P R (remove xs at)
  chain_remove inside =
      let long = length-remove xs at inside in
      record {
        each = λ i lt. ⊎_elim (λ s. subst P (sym s.1) (chain.each i (omega (arith, long, lt))))
            (λ s. subst P (sym s.1) (chain.each (i + 1) (omega (arith, long, lt)))) (removed_spot i inside);
        pairs = λ i j lt within. ⊎_elim
            (λ s. ⊎_elim (λ t. related _ _ _ _ s.1 t.1 (chain.pairs i j lt (omega (arith, long, within))))
            (λ t. related _ _ _ _ s.1 t.1 (chain.pairs i (j + 1) (omega (arith, lt)) (omega (arith, long, within)))) (removed_spot j inside))
            (λ s. ⊎_elim (λ t. absurd (omega (arith, s.0, t.0, lt)))
            (λ t. related _ _ _ _ s.1 t.1 (chain.pairs (i + 1) (j + 1) (omega (arith, lt)) (omega (arith, long, within)))) (removed_spot j inside))
            (removed_spot i inside);
      }

  set_spot : (x : X) (i : ℕ) → at < length xs → ((i ≡ at) × (get_or (set xs at x) i d ≡ x)) ⊎ (get_or (set xs at x) i d ≡ get_or xs i d)
  set_spot x i inside =
      ⊎_elim (λ same. inl (same, ap (λ (n : ℕ). get_or (set xs at x) n d) same ∙ get_or-set_same xs at x d inside))
      (λ other. inr (get_or-set_other xs at i x d other)) (cases_eq i at)

  -- an element that is related as the one before it takes its place
  pub chain_set : (x : X) → at < length xs → P x → ((y : X) → R y (get_or xs at d) → R y x) → ((y : X) → R (get_or xs at d) y → R x y)
      → IsChain d P R (set xs at x)
  chain_set x inside has left right =
      let long = length-set xs at x in
      record {
        each = λ i lt. ⊎_elim (λ s. subst P (sym s.1) has) (λ s. subst P (sym s) (chain.each i (omega (arith, long, lt)))) (set_spot x i inside);
        pairs = λ i j lt within.
            let old = chain.pairs i j lt (omega (arith, long, within)) in
            ⊎_elim
            (λ s. ⊎_elim (λ t. absurd (omega (arith, s.0, t.0, lt)))
            (λ t. related _ _ _ _ s.1 t (right _ (subst (λ (n : ℕ). R (get_or xs n d) (get_or xs j d)) s.0 old))) (set_spot x j inside))
            (λ s. ⊎_elim (λ t. related _ _ _ _ s t.1 (left _ (subst (λ (n : ℕ). R (get_or xs i d) (get_or xs n d)) t.0 old)))
            (λ t. related _ _ _ _ s t old) (set_spot x j inside))
            (set_spot x i inside);
      }
