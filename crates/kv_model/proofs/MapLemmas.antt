-- More on finite maps: what their lists of entries are.
use Rattle.std.proofs.Common.{◌≡◌, ℕ, Bool, true, false, not, cond, List, [], ◌∷◌, length, Ordering, None, refl, sym, ◌∙◌, ap, arith}
use Rattle.std.specs.Ordering.{eq_by_cmp, is_eq}
use Rattle.std.specs.Cmp.{IsTotalOrder, nat_cmp_total, on_total, alike_right, eq_by_cmp_equiv}
use Rattle.std.specs.FinMap.{FinMap, IsAntisymmetric, empty, remove, entries, entries_sorted, get, from_sorted, get-entries, get-remove, get-from_sorted, entries-from_sorted, same_map, len-entries, len-empty}
use Rattle.std.specs.FinMap.Entries.{where_key, is_sorted-where_key, find-where_key}
use Rattle.std.proofs.lemmas.Cmp.{then_total}
use Rattle.kv_model.specs.StoreState.{iterator_cmp}

none_of_length : {A : Type 0} (es : List A) → length es ≡ 0 → es ≡ []
none_of_length [] is = refl
none_of_length (e ∷ es) is = absurd (omega arith)

pub entries-empty : {K : Type 0} (R : K → K → Ordering) (X : Type 0) → entries (empty {X = X} {R = R}) ≡ []
entries-empty R X = none_of_length _ (sym (len-entries empty) ∙ len-empty R X)

pub iterator_total : IsTotalOrder iterator_cmp
iterator_total = then_total (on_total (λ (i : ℕ × ℕ). i.0) nat_cmp_total) (on_total (λ (i : ℕ × ℕ). i.1) nat_cmp_total)

turned : {A : Type 0} (b : Bool) (x y : A) → cond b x y ≡ cond (not b) y x
turned true x y = refl
turned false x y = refl

-- the entries of the other keys
abbrev pub others : {K X : Type 0} (R : K → K → Ordering) → K → List (K × X) → List (K × X)
others R k es = where_key R (λ x. not (eq_by_cmp R k x)) es

pub entries-remove : {K X : Type 0} {R : K → K → Ordering} → IsTotalOrder R → IsAntisymmetric R → (m : FinMap R X) (k : K) → entries (remove m k) ≡ others R k (entries m)
entries-remove {R = R} total same m k =
    let p = λ (x : _). not (eq_by_cmp R k x) in
    let sorted = is_sorted-where_key R p (entries m) (entries_sorted m) in
    let is = same_map total same (remove m k) (from_sorted (others R k (entries m))) (λ q.
    get-remove total m k q
    ∙ turned (eq_by_cmp R q k) None (get m q)
    ∙ ap (λ b. cond (not b) (get m q) None) ((eq_by_cmp_equiv total).symm q k)
    ∙ ap (λ r. cond (not (eq_by_cmp R k q)) r None) (get-entries m q)
    ∙ sym (find-where_key R p q (λ x tied. ap (λ r. not (is_eq r)) (sym (alike_right total q x k tied))) (entries m))
    ∙ sym (get-from_sorted R _ q sorted)) in
    ap entries is ∙ entries-from_sorted R _ sorted
