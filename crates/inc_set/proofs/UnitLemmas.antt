-- A list cut into whole units and what remains.
use Rattle.std.proofs.Common.{◌≡◌, ℕ, ◌+◌, ◌*◌, ◌/◌, ◌%◌, ◌<◌, ◌≤◌, List, ◌++◌, length, take, drop, sym, ◌∙◌, ap, subst, arith, inl, inr, append_assoc, length-append}
use Rattle.std.proofs.lemmas.Bool.{cases_lt}
use Rattle.std.proofs.lemmas.Nat.{div-add-mod', mod_below}
use Rattle.std.proofs.lemmas.List.{length-take-le, take-append-drop}
use Rattle.std.proofs.Math.Seq.{take-append_seam, drop-append_seam}
use Rattle.base_core.specs.Units.{IsMultipleOf}
use Rattle.base_core.proofs.UnitLemmas.{IsMultipleOf-add, IsMultipleOf-mul, unit_fits}
use Rattle.inc_set.specs.Units.{rest_of, whole_size, whole_units}

-- whole units and less than one more
whole_is : (prog a b : ℕ) → 0 < prog → IsMultipleOf prog a → b < prog → whole_size prog (a + b) ≡ a
whole_is prog a b positive whole small =
    let n : ℕ = a + b in
    let split : n / prog * prog + n % prog ≡ n = div-add-mod' n prog in
    let left : n % prog < prog = mod_below n prog positive in
    let multiple : IsMultipleOf prog (n / prog * prog) = IsMultipleOf-mul prog (n / prog) in
    elim (cases_lt (n / prog * prog) a) [
      | inl less ↦ absurd (omega (arith, split, left, unit_fits prog (n / prog * prog) a multiple whole less))
      | inr not_less ↦ elim (cases_lt a (n / prog * prog)) [
        | inl more ↦ absurd (omega (arith, split, small, unit_fits prog a (n / prog * prog) whole multiple more))
        | inr not_more ↦ omega (arith, not_less, not_more)
      ]
    ]

module _ (prog : ℕ) (positive : 0 < prog) where
  module _ (a b : List ℕ) (whole : IsMultipleOf prog (length a)) (small : length b < prog) where
    size_is : whole_size prog (length (a ++ b)) ≡ length a
    size_is = ap (whole_size prog) (length-append a b) ∙ whole_is prog (length a) (length b) positive whole small

    pub whole_units-is : whole_units prog (a ++ b) ≡ a
    unfolding whole_units
    whole_units-is = ap (λ (n : ℕ). take n (a ++ b)) size_is ∙ take-append_seam a b

    pub rest_of-is : rest_of prog (a ++ b) ≡ b
    unfolding rest_of
    rest_of-is = ap (λ (n : ℕ). drop n (a ++ b)) size_is ∙ drop-append_seam a b

  module _ (bytes : List ℕ) where
    whole_most : whole_size prog (length bytes) ≤ length bytes
    whole_most = omega (arith, div-add-mod' (length bytes) prog)

    pub length-whole_units : length (whole_units prog bytes) ≡ whole_size prog (length bytes)
    unfolding whole_units
    length-whole_units = length-take-le (whole_size prog (length bytes)) bytes whole_most

    pub whole_units-whole : IsMultipleOf prog (length (whole_units prog bytes))
    whole_units-whole = subst (IsMultipleOf prog) (sym length-whole_units) (IsMultipleOf-mul prog (length bytes / prog))

    pub whole_and_rest : whole_units prog bytes ++ rest_of prog bytes ≡ bytes
    unfolding whole_units rest_of
    whole_and_rest = take-append-drop (whole_size prog (length bytes)) bytes

    pub length-rest_of : length (rest_of prog bytes) ≡ length bytes % prog
    length-rest_of = omega (arith, sym (length-append (whole_units prog bytes) (rest_of prog bytes)) ∙ ap length whole_and_rest, length-whole_units, div-add-mod' (length bytes) prog)

    pub rest_of-small : length (rest_of prog bytes) < prog
    rest_of-small = omega (arith, length-rest_of, mod_below (length bytes) prog positive)

  -- whole units before others
  module _ (w xs : List ℕ) (whole : IsMultipleOf prog (length w)) where
    together : (w ++ whole_units prog xs) ++ rest_of prog xs ≡ w ++ xs
    together = append_assoc w (whole_units prog xs) (rest_of prog xs) ∙ ap (λ (l : List ℕ). w ++ l) (whole_and_rest xs)

    both_whole : IsMultipleOf prog (length (w ++ whole_units prog xs))
    both_whole = subst (IsMultipleOf prog) (sym (length-append w (whole_units prog xs))) (IsMultipleOf-add prog (length w) (length (whole_units prog xs)) whole (whole_units-whole xs))

    pub whole_units-append : whole_units prog (w ++ xs) ≡ w ++ whole_units prog xs
    whole_units-append = ap (whole_units prog) (sym together) ∙ whole_units-is (w ++ whole_units prog xs) (rest_of prog xs) both_whole (rest_of-small xs)

    pub rest_of-append : rest_of prog (w ++ xs) ≡ rest_of prog xs
    rest_of-append = ap (rest_of prog) (sym together) ∙ rest_of-is (w ++ whole_units prog xs) (rest_of prog xs) both_whole (rest_of-small xs)
