-- What is only known to have some proof, given back as that proof: where it has at most one, and where it is known to
-- hold or not.
use Rattle.std.proofs.Common.{◌≡◌, ℕ, zero, suc, ◌<◌, List, [], ◌∷◌, length, inl, inr, refl, ap, subst, arith}
use Rattle.std.specs.Prelude.{Contains, Option, Some, slice_index_or}
use Rattle.std.specs.Option.{ForSome}
use Rattle.std.specs.FinMap as map
use Rattle.std.proofs.lemmas.Bool.{cases_lt, cases_eq}
use Rattle.std.proofs.Math.Logic.{∥∥₁_elim, ∥∥₁_map}
use Rattle.kv_model.specs.FlaggedMap.{FlaggedMap, Stored}
use Rattle.kv_model.specs.StoreState.{Maps}
use Rattle.record_core.proofs.Existence.{Known, known_as, known_both, known_bytes}

-- a type of which some proof is one proof
abbrev pub IsGivenBack : Type 0 → Type 0
IsGivenBack P = ∥ P ∥₁ → P

pub back_fact : {P : Type 0} → IsProp P → IsGivenBack P
back_fact fact some = ∥∥₁_elim some fact (λ p. p)

pub no_proof : IsProp ⊥
no_proof = hlevel

pub back_known : {P : Type 0} → Known P → IsGivenBack P
back_known (inl p) some = p
back_known (inr not) some = absurd (∥∥₁_elim some no_proof not)

pub back_some : {X : Type 0} {P : X → Type 0} (o : Option X) → ((x : X) → o ≡ Some x → IsGivenBack (P x)) → IsGivenBack (ForSome o P)
back_some o back some x is = back x is (∥∥₁_map some (λ all. all x is))

-- ---- what is known by a search

abbrev pub IsBelow : (ℕ → Type 0) → ℕ → Type 0
IsBelow P n = (i : ℕ) × (i < n) × P i

pub known_below : (P : ℕ → Type 0) → ((i : ℕ) → Known (P i)) → (n : ℕ) → Known (IsBelow P n)
known_below P known zero = inr (λ found. absurd (omega (arith, found.1)))
known_below P known (suc n) = here (known n) (known_below P known n)
  where
    here : Known (P n) → Known (IsBelow P n) → Known (IsBelow P (suc n))
    here (inl p) before = inl (n, omega arith, p)
    here (inr not) (inl found) = inl (found.0, omega (arith, found.1), found.2)
    here (inr not) (inr none) = inr (λ found. elim (cases_lt found.0 n) [
      | inl less ↦ none (found.0, less, found.2)
      | inr more ↦ not (subst P (omega (arith, found.1, more)) found.2)
    ])

-- ---- what is equal is known

abbrev first_or : {X : Type 0} → X → List X → X
first_or d [] = d
first_or d (x ∷ xs) = x

abbrev rest : {X : Type 0} → List X → List X
rest [] = []
rest (x ∷ xs) = xs

same_lists : {X : Type 0} (x y : X) (xs ys : List X) → (x ≡ y) × (xs ≡ ys) → x ∷ xs ≡ y ∷ ys
same_lists x y xs ys both = λ i. both.0 i ∷ both.1 i

same_parts : {X : Type 0} (x y : X) (xs ys : List X) → x ∷ xs ≡ y ∷ ys → (x ≡ y) × (xs ≡ ys)
same_parts x y xs ys same = (ap (first_or x) same, ap rest same)

pub known_list : {X : Type 0} → ((x y : X) → Known (x ≡ y)) → (xs ys : List X) → Known (xs ≡ ys)
known_list known [] [] = inl refl
known_list known [] (y ∷ ys) = inr (λ same. absurd (omega (arith, ap length same)))
known_list known (x ∷ xs) [] = inr (λ same. absurd (omega (arith, ap length same)))
known_list known (x ∷ xs) (y ∷ ys) =
    known_as (same_lists x y xs ys) (same_parts x y xs ys) (known_both (known x y) (known_list known xs ys))

known_entry : (a b : List ℕ × Stored) → Known (a ≡ b)
known_entry a b =
    known_as
    (λ all. λ i. (all.0 i, record { flags = all.1.0 i; bytes = all.1.1 i }))
    (λ same. (ap (λ (e : List ℕ × Stored). e.0) same, (ap (λ (e : List ℕ × Stored). e.1.flags) same, ap (λ (e : List ℕ × Stored). e.1.bytes) same)))
    (known_both (known_bytes a.0 b.0) (known_both (cases_eq a.1.flags b.1.flags) (known_bytes a.1.bytes b.1.bytes)))

pub known_map : (m n : FlaggedMap) → Known (m ≡ n)
known_map m n = known_as (map.same_entries_map m n) (ap map.entries) (known_list known_entry (map.entries m) (map.entries n))

known_maps : (m n : Maps) → Known (m ≡ n)
known_maps m n =
    known_as
    (λ both. λ i. record { primary = both.0 i; rollback = both.1 i })
    (λ same. (ap (λ (x : Maps). x.primary) same, ap (λ (x : Maps). x.rollback) same))
    (known_both (known_map m.primary n.primary) (known_map m.rollback n.rollback))

pub known_among : (all : List Maps) (maps : Maps) → Known (Contains all maps)
known_among all maps = known_below (λ (k : ℕ). slice_index_or all k maps ≡ maps) (λ k. known_maps (slice_index_or all k maps) maps) (length all)
