-- Which letters there are, and their keys.
use Rattle.std.proofs.Common.{◌≡◌, ◌⊎◌, ℕ, ◌≤◌, List, [], ◌∷◌, cond, inl, inr, ⊎_elim, refl, sym, ◌∙◌, ap, subst, arith}
use Rattle.std.specs.Prelude.{IsTrue, Bool, true, false, Some, None, ◌==◌, is_some}
use Rattle.std.specs.Cmp.{nat_cmp_total, unsigned_tied}
use Rattle.std.specs.FinMap.{contains_key, get, get-empty, get-insert}
use Rattle.std.specs.Ordering.{nat_cmp}
use Rattle.std.proofs.lemmas.Bool.{cases_eq, eqb-true}
use mathlib.Core.Bool.{false≢true}
use Rattle.std.proofs.lemmas.Option.{same_Some}
use Rattle.ram_table.specs.declared.table.Entry.{Entry}
use Rattle.ram_table.specs.Find.{CanFind, IsIndexOf}
use Rattle.ram_table.specs.Letters.{letters, letters_state}
use Rattle.ram_table.specs.Reader.{KeyMap}

pub letter_at : (n : ℕ) → get letters n ≡ cond (n == 99) (Some (99 ∷ [])) (cond (n == 98) (Some (98 ∷ [])) (cond (n == 97) (Some (97 ∷ [])) None))
letter_at n = simp (get-insert {X = List ℕ} nat_cmp_total, get-empty {X = List ℕ} nat_cmp, unsigned_tied)

one_of : (c b a : Bool) (x y z : List ℕ) → is_some (cond c (Some x) (cond b (Some y) (cond a (Some z) None))) ≡ true → (a ≡ true) ⊎ ((b ≡ true) ⊎ (c ≡ true))
one_of true b a x y z has = inr (inr refl)
one_of false true a x y z has = inr (inl refl)
one_of false false true x y z has = inl refl
one_of false false false x y z has = absurd (false≢true has)

pub is_letter : (n : ℕ) → IsTrue (contains_key letters n) → (n ≡ 97) ⊎ ((n ≡ 98) ⊎ (n ≡ 99))
is_letter n has =
    ⊎_elim (λ a. inl (eqb-true n 97 a)) (λ more. inr (⊎_elim (λ b. inl (eqb-true n 98 b)) (λ c. inr (eqb-true n 99 c)) more))
    (one_of (n == 99) (n == 98) (n == 97) (99 ∷ []) (98 ∷ []) (97 ∷ []) (ap is_some (sym (letter_at n)) ∙ has))

pub by_letter : (P : ℕ → Type 0) (n : ℕ) → IsTrue (contains_key letters n) → P 97 → P 98 → P 99 → P n
by_letter P n has a b c =
    ⊎_elim (λ is. subst P (sym is) a) (λ more. ⊎_elim (λ is. subst P (sym is) b) (λ is. subst P (sym is) c) more) (is_letter n has)

pub key_of_letter : (n : ℕ) → IsTrue (contains_key letters n) → get letters n ≡ Some (n ∷ [])
key_of_letter n has = by_letter (λ (m : ℕ). get letters m ≡ Some (m ∷ [])) n has (letter_at 97) (letter_at 98) (letter_at 99)

-- a letter that is neither a nor b
pub last_letter : (n : ℕ) → IsTrue (contains_key letters n) → (n ≡ 97 → ⊥) → (n ≡ 98 → ⊥) → n ≡ 99
last_letter n has not_a not_b = ⊎_elim (λ a. absurd (not_a a)) (λ more. ⊎_elim (λ b. absurd (not_b b)) (λ c. c) more) (is_letter n has)

pub in_range : (n : ℕ) → 97 ≤ n → n ≤ 99 → IsTrue (contains_key letters n)
in_range n from to =
    ⊎_elim (λ a. subst (λ (m : ℕ). IsTrue (contains_key letters m)) (sym a) (ap is_some (letter_at 97)))
    (λ not_a. ⊎_elim (λ b. subst (λ (m : ℕ). IsTrue (contains_key letters m)) (sym b) (ap is_some (letter_at 98)))
    (λ not_b. let c : n ≡ 99 = omega arith in subst (λ (m : ℕ). IsTrue (contains_key letters m)) (sym c) (ap is_some (letter_at 99)))
    (cases_eq n 98))
    (cases_eq n 97)

pub at_most_last : (n : ℕ) → IsTrue (contains_key letters n) → n ≤ 99
at_most_last n has = by_letter (λ (m : ℕ). m ≤ 99) n has (omega arith) (omega arith) (omega arith)

pub letters_can_find : {bits : ℕ} {entries : List Entry} → IsIndexOf bits letters entries → CanFind (letters_state bits) entries
letters_can_find {bits = bits} {entries = entries} index = record {
  within = λ i inside. at_most_last _ (index.has i inside);
  index = λ keys told. subst (λ (map : KeyMap). IsIndexOf bits map entries) (same_Some letters keys told) index;
}
