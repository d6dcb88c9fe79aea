-- A log whose other area stands has no stray byte beside it.
use Rattle.std.proofs.Common.{◌≡◌, ◌⊎◌, ℕ, ◌+◌, ◌-◌, ◌<◌, ◌≤◌, List, length, get_or, ⊎_elim, sym, ◌∙◌, ap, subst, arith}
use Rattle.std.specs.Prelude.{true}
use Rattle.std.proofs.lemmas.Bool.{cases_lt}
use Rattle.std.proofs.lemmas.List.{get_or_past}
use Rattle.flash_core.specs.declared.geometry.Geometry.{Geometry}
use Rattle.flash_core.specs.Images.{Torn}
use Rattle.flash_core.specs.Sizes.{area_size, size_of}
use Rattle.flash_core.proofs.GeometryLaws.{size-areas}
use Rattle.flash_core.proofs.ImageLaws.{get_or-part}
use Rattle.kv_model.specs.Opening.{Log}
use Rattle.record_core.specs.Cuts.{base_of}
use Rattle.record_core.proofs.TornLemmas.{active_number, one_base, zero_base}
use Rattle.tdb_read.specs.States.{other_part}
use Rattle.session_core.specs.Telling.{HasNoStray, IsLogIn}

module _ (g : Geometry) (old new : List ℕ) (k : ℕ) (number : (k ≡ 0) ⊎ (k ≡ 1)) (sized : length old ≡ size_of g) (sized_new : length new ≡ size_of g)
    (same : other_part g k new ≡ other_part g k old) where
  other_byte : (i : ℕ) → i < area_size g → get_or new (base_of g (1 - k) + i) 0 ≡ get_or old (base_of g (1 - k) + i) 0
  other_byte i inside = sym (get_or-part new (base_of g (1 - k)) (area_size g) i inside) ∙ ap (λ (l : List ℕ). get_or l i 0) same
      ∙ get_or-part old (base_of g (1 - k)) (area_size g) i inside

  at_place : (place i : ℕ) → base_of g (1 - k) ≡ place → place ≤ i → i < place + area_size g → get_or new i 0 ≡ get_or old i 0
  at_place place i is from to =
      let there : base_of g (1 - k) + (i - place) ≡ i = omega (arith, is, from) in
      subst (λ (n : ℕ). get_or new n 0 ≡ get_or old n 0) there (other_byte (i - place) (omega (arith, from, to)))

  past : (i : ℕ) → size_of g ≤ i → get_or new i 0 ≡ get_or old i 0
  past i beyond = get_or_past new i 0 (omega (arith, sized_new, beyond)) ∙ sym (get_or_past old i 0 (omega (arith, sized, beyond)))

  other_base : (m : ℕ) → 1 - k ≡ m → base_of g (1 - k) ≡ base_of g m
  other_base m is = ap (base_of g) is

  below : (i : ℕ) → i < base_of g k → get_or new i 0 ≡ get_or old i 0
  below i less = ⊎_elim
      (λ zero_is. let here : base_of g k ≡ 0 = ap (base_of g) zero_is ∙ zero_base g in absurd (omega (arith, less, here)))
      (λ one_is. let here : base_of g k ≡ area_size g = ap (base_of g) one_is ∙ one_base g in
      at_place 0 i (other_base 0 (omega (arith, one_is)) ∙ zero_base g) (omega arith) (omega (arith, less, here)))
      number

  behind : (i : ℕ) → base_of g k + area_size g ≤ i → get_or new i 0 ≡ get_or old i 0
  behind i more = ⊎_elim
      (λ zero_is. let here : base_of g k ≡ 0 = ap (base_of g) zero_is ∙ zero_base g in
      ⊎_elim
      (λ less. at_place (area_size g) i (other_base 1 (omega (arith, zero_is)) ∙ one_base g) (omega (arith, more, here)) (omega (arith, less, size-areas g)))
      (λ beyond. past i beyond)
      (cases_lt i (size_of g)))
      (λ one_is. let here : base_of g k ≡ area_size g = ap (base_of g) one_is ∙ one_base g in past i (omega (arith, more, here, size-areas g)))
      number

  outside_stands : Torn (base_of g k) (area_size g) old new
  outside_stands = record { same_length = sized_new ∙ sym sized; below = below; behind = behind }

-- the image of a log, and that of what the log became in the same area, with a clean tail
pub no_stray : (g : Geometry) (old new : List ℕ) → length old ≡ size_of g → length new ≡ size_of g → (log later : Log) → IsLogIn g old log → IsLogIn g new later
    → later.active ≡ log.active → later.other ≡ log.other → later.is_clean ≡ true → HasNoStray g old new later
no_stray g old new sized sized_new log later was is active other clean = record {
  is = is;
  behind = is.clean.0 clean;
  outside = outside_stands g old new later.active (active_number is.contents.first is.contents.second later.active is.active) sized sized_new
      (sym is.other ∙ other ∙ was.other ∙ ap (λ (k : ℕ). other_part g k old) (sym active));
}
