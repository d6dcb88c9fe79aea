-- What a finite map of a list of entries has at a key, where the entries' keys were compared one by one.
use Rattle.std.proofs.Common.{◌≡◌, ◌≢◌, ℕ, ◌<◌, suc, zero, Bool, true, false, cond, List, [], ◌∷◌, length, get_or, take, refl, sym, ap, subst, ◌∙◌, arith, map}
use Rattle.std.proofs.Math.ListN.{set}
use Rattle.std.specs.Prelude.{Option, Some, None}
use Rattle.std.specs.declared.cmp.Ordering.{Ordering}
use Rattle.std.specs.Ordering.{eq_by_cmp}
use Rattle.std.specs.List.{All}
use Rattle.std.specs.Cmp.{IsTotalOrder, eq_by_cmp_equiv, Equal-is}
use Rattle.std.specs.FinMap.{IsAntisymmetric, find, from_entries, insert, get-from_entries, get-insert, same_map}
use Rattle.std.proofs.lemmas.List.Elements.{All-head, All-tail}

module _ {A K X : Type 0} {R : K → K → Ordering} (o : IsTotalOrder R) (exact : IsAntisymmetric R) (key : A → K) (value : A → X) where
  abbrev pub pairs : List A → List (K × X)
  pairs xs = map (λ x. (key x, value x)) xs

  -- other keys don't tie, and a key ties with itself
  other : (q k : K) → k ≢ q → eq_by_cmp R q k ≡ false
  other q k ne = elim (eq_by_cmp R q k) as (λ b. eq_by_cmp R q k ≡ b → b ≡ false) [
    | true ↦ λ t. absurd (ne (sym (exact q k ((Equal-is (R q k)).0 t))))
    | false ↦ λ t. refl
  ] refl

  itself : (q k : K) → k ≡ q → eq_by_cmp R q k ≡ true
  itself q k e = subst (λ x. eq_by_cmp R q x ≡ true) (sym e) ((eq_by_cmp_equiv o).refl q)

  -- in a list whose keys differ from q
  pub find_none : (q : K) (xs : List A) → All (λ x. key x ≢ q) xs → find R q (pairs xs) ≡ None
  find_none q [] h = refl
  find_none q (x ∷ xs) h =
      ap (λ b. cond b (Some (value x)) (find R q (pairs xs))) (other q (key x) (All-head (λ y. key y ≢ q) x xs h))
      ∙ find_none q xs (All-tail (λ y. key y ≢ q) x xs h)

  -- at the first item with the key q
  pub find_at : (q : K) (xs : List A) (i : ℕ) (d : A) → i < length xs → All (λ x. key x ≢ q) (take i xs) → key (get_or xs i d) ≡ q → find R q (pairs xs) ≡ Some (value (get_or xs i d))
  find_at q [] i d lt before here = absurd (omega arith)
  find_at q (x ∷ xs) zero d lt before here = ap (λ b. cond b (Some (value x)) (find R q (pairs xs))) (itself q (key x) here)
  find_at q (x ∷ xs) (suc i) d lt before here =
      ap (λ b. cond b (Some (value x)) (find R q (pairs xs))) (other q (key x) (All-head (λ y. key y ≢ q) x (take i xs) before))
      ∙ find_at q xs i d (omega arith) (All-tail (λ y. key y ≢ q) x (take i xs) before) here

  twice : (b : Bool) (v w r : Option X) → cond b v r ≡ cond b v (cond b w r)
  twice true v w r = refl
  twice false v w r = refl

  turned : (a b : Bool) (v w r : Option X) → (a ≡ true → b ≡ true → ⊥) → cond a w (cond b v r) ≡ cond b v (cond a w r)
  turned true true v w r apart = absurd (apart refl refl)
  turned true false v w r apart = refl
  turned false b v w r apart = refl

  -- where the first item with its key is replaced
  pub find-set : (xs : List A) (i : ℕ) (d y : A) → i < length xs → All (λ x. key x ≢ key y) (take i xs) → key (get_or xs i d) ≡ key y → (q : K) → find R q (pairs (set xs i y)) ≡ cond (eq_by_cmp R q (key y)) (Some (value y)) (find R q (pairs xs))
  find-set [] i d y lt before here q = absurd (omega arith)
  find-set (x ∷ xs) zero d y lt before here q =
      twice (eq_by_cmp R q (key y)) (Some (value y)) (Some (value x)) (find R q (pairs xs))
      ∙ ap (λ k. cond (eq_by_cmp R q (key y)) (Some (value y)) (cond (eq_by_cmp R q k) (Some (value x)) (find R q (pairs xs)))) (sym here)
  find-set (x ∷ xs) (suc i) d y lt before here q =
      ap (cond (eq_by_cmp R q (key x)) (Some (value x))) (find-set xs i d y (omega arith) (All-tail (λ z. key z ≢ key y) x (take i xs) before) here q)
      ∙ turned (eq_by_cmp R q (key x)) (eq_by_cmp R q (key y)) (Some (value y)) (Some (value x)) (find R q (pairs xs))
      (λ a b. All-head (λ z. key z ≢ key y) x (take i xs) before
      (sym (exact q (key x) ((Equal-is (R q (key x))).0 a)) ∙ exact q (key y) ((Equal-is (R q (key y))).0 b)))

  -- to replace the first item with its key is to insert it
  pub from_entries-set : (xs : List A) (i : ℕ) (d y : A) → i < length xs → All (λ x. key x ≢ key y) (take i xs) → key (get_or xs i d) ≡ key y → from_entries {R = R} (pairs (set xs i y)) ≡ insert (from_entries {R = R} (pairs xs)) (key y) (value y)
  from_entries-set xs i d y lt before here =
      same_map o exact _ _ (λ q.
      get-from_entries o (pairs (set xs i y)) q ∙ find-set xs i d y lt before here q
      ∙ sym (get-insert o (from_entries {R = R} (pairs xs)) (key y) (value y) q ∙ ap (cond (eq_by_cmp R q (key y)) (Some (value y))) (get-from_entries o (pairs xs) q)))
