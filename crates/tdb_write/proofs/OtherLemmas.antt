-- The area that isn't active stands where bytes of the active one change.
use Rattle.std.proofs.Common.{◌≡◌, ◌⊎◌, ℕ, ◌+◌, ◌-◌, ◌≤◌, List, length, inl, inr, ⊎_elim, ◌∙◌, ap, arith}
use Rattle.flash_core.specs.declared.geometry.Geometry.{Geometry}
use Rattle.flash_core.specs.Images.{Torn}
use Rattle.flash_core.specs.Sizes.{IsValid, area_size, size_of}
use Rattle.flash_core.proofs.ImageLaws.{part-Torn}
use Rattle.record_core.specs.Cuts.{base_of}
use Rattle.record_core.proofs.RenewalCuts.{area_inside}
use Rattle.record_core.proofs.TornLemmas.{one_base, zero_base}
use Rattle.tdb_read.specs.States.{other_part}
use Rattle.tdb_write.proofs.FillLemmas.{small_number, two_numbers}

module _ (g : Geometry) (valid : IsValid g) (active : ℕ) (le : active ≤ 1) (image left : List ℕ) (sized : length image ≡ size_of g) where
  pub other_stays : (place n : ℕ) → base_of g active ≤ place → place + n ≤ base_of g active + area_size g → Torn place n image left → other_part g active left ≡ other_part g active image
  other_stays place n from to torn =
      part-Torn place n image left (base_of g (1 - active)) (area_size g) torn apart
      (area_inside g valid (1 - active) (two_numbers active (small_number active le)) image sized)
    where
      number_is : (k : ℕ) → 1 - active ≡ k → base_of g (1 - active) ≡ base_of g k
      number_is k is = ap (base_of g) is

      apart : (base_of g (1 - active) + area_size g ≤ place) ⊎ (place + n ≤ base_of g (1 - active))
      apart = ⊎_elim
          (λ zero_is. let here : base_of g active ≡ 0 = ap (base_of g) zero_is ∙ zero_base g in
          let there : base_of g (1 - active) ≡ area_size g = number_is 1 (omega (arith, zero_is)) ∙ one_base g in
          inr (omega (arith, here, there, to)))
          (λ one_is. let here : base_of g active ≡ area_size g = ap (base_of g) one_is ∙ one_base g in
          let there : base_of g (1 - active) ≡ 0 = number_is 0 (omega (arith, one_is)) ∙ zero_base g in
          inl (omega (arith, here, there, from)))
          (small_number active le)
