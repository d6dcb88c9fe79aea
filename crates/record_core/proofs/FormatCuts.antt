-- What each moment of a format leaves of an image without a valid area.
use Rattle.std.proofs.Common.{◌≡◌, ◌⊎◌, ℕ, zero, suc, ◌+◌, ◌*◌, ◌<◌, ◌≤◌, List, [], length, get_or, replicate, refl, sym, ◌∙◌, ap, subst, arith, inl, inr, ⊎_elim, Some, None, suc-mul, zero-mul}
use Rattle.base_core.specs.Sizes.{master_size}
use Rattle.std.specs.Prelude.{Option}
use Rattle.std.proofs.lemmas.List.{length-replicate}
use Rattle.flash_core.specs.declared.geometry.Geometry.{Geometry}
use Rattle.flash_core.specs.Erases.{ErasesUnits, erased_from}
use Rattle.flash_core.specs.Images.{Torn, put}
use Rattle.flash_core.specs.Sizes.{IsValid, area_size, size_of}
use Rattle.flash_core.specs.State.{DeviceCall}
use Rattle.flash_core.proofs.EraseLaws.{IsErased-erased, Torn-erased, erased_none, length-erased}
use Rattle.std.proofs.lemmas.Bool.{cases_lt}
use Rattle.flash_core.proofs.GeometryLaws.{prog_positive, size-areas}
use Rattle.flash_core.proofs.ImageLaws.{IsErased-put, Torn-put, Torn-trans, Torn-widen}
use Rattle.std.proofs.Math.Nat.{mul-le-mul_right}
use Rattle.record_core.specs.Chance.{FirstBreak}
use Rattle.record_core.specs.CutMoments.{CutStrictly, IsCut, no_contents}
use Rattle.record_core.specs.Cuts.{IsMasterCall, base_of}
use Rattle.record_core.specs.Mounts.{Holds}
use Rattle.record_core.proofs.CutLemmas.{call_cut, cut_break, cut_sound, same_chance}
use Rattle.record_core.proofs.Existence.{master_within}
use Rattle.record_core.proofs.TornLemmas.{erased_has_none, master_stays, torn_erase, zero_base}
use Rattle.kv_model.specs.Write.{Write, map_of}
use Rattle.record_core.specs.Mounts.{Mounts}
use Rattle.record_core.specs.Record.{master_bytes}
use Rattle.record_core.specs.Log.{IsRecordAt, extent}
use Rattle.record_core.specs.Renewal.{IsSpare, RenewsArea}
use Rattle.record_core.specs.Written.{AppendsRecord, master_of}
use Rattle.record_core.proofs.LogLemmas.{extent-positive, no_record_erased}
use Rattle.record_core.proofs.MapCuts.{renew_map}
use Rattle.record_core.proofs.MountLemmas.{IsMaster-put, length-master_bytes}
use Rattle.record_core.proofs.RenewalCuts.{cut_weakened}
use Rattle.record_core.proofs.RenewalLemmas.{complete_more, erased_fills, erases_fill, master_completes}
use Rattle.record_core.specs.CutMoments.{MountsToOne}

abbrev none_of : Option ℕ
none_of = None

none_some : {k : ℕ} → none_of ≡ Some k → ⊥
none_some {k} same = cc

module _ (g : Geometry) (valid : IsValid g) (image : List ℕ) (sized : length image ≡ size_of g) (none : Holds g image no_contents) where
  -- whatever differs in the first area alone, whose first byte is erased, has no valid area
  pub blank_holds : (now : List ℕ) → get_or now 0 0 ≡ 255 → Torn 0 (area_size g) image now → Holds g now no_contents
  blank_holds now erased torn = record {
    first_master = erased_has_none g valid now 0 erased;
    second_master = master_stays g valid image now sized 0 (area_size g) torn (area_size g) None (omega (arith, master_within g valid, size-areas g)) (inr (inl (omega arith))) none.second_master;
    active = (refl, refl);
  }

  -- the first of the units are erased
  erased_holds : (units : ℕ) → units ≤ g.units_per_area → Holds g (erased_from image 0 (units * g.erase)) no_contents
  erased_holds zero most = subst (λ (l : List ℕ). Holds g l no_contents) (sym (erased_none image 0 (0 * g.erase) (zero-mul g.erase))) none
  erased_holds (suc n) most =
      let within : suc n * g.erase ≤ area_size g = mul-le-mul_right g.erase most in
      let some : 1 ≤ suc n * g.erase = omega (arith, suc-mul n g.erase, valid.erase_positive) in
      let fits : 0 + suc n * g.erase ≤ length image = omega (arith, within, sized, size-areas g) in
      blank_holds (erased_from image 0 (suc n * g.erase)) (IsErased-erased image 0 (suc n * g.erase) fits 0 (omega arith) (omega (arith, some)))
      (Torn-erased image 0 (suc n * g.erase) (area_size g) within fits)

  erase_cut : (units : ℕ) → units < g.units_per_area → (now : List ℕ) → Torn (0 + units * g.erase) g.erase (erased_from image 0 (units * g.erase)) now
      → IsCut g (λ i. Holds g i no_contents) (erased_from image 0 (units * g.erase)) (put (erased_from image 0 (units * g.erase)) (0 + units * g.erase) (replicate g.erase 255)) now (0 + units * g.erase) (length (replicate {A = ℕ} g.erase 255))
  erase_cut zero less now torn =
      let before : List ℕ = erased_from image 0 (0 * g.erase) in
      let at : 0 + 0 * g.erase ≡ base_of g 0 = omega (arith, zero-mul g.erase, zero_base g) in
      let held : Holds g before no_contents = erased_holds 0 (omega arith) in
      let long : length before ≡ length image = ap length (erased_none image 0 (0 * g.erase) (zero-mul g.erase)) in
      let n_is : length (replicate {A = ℕ} g.erase 255) ≡ g.erase = length-replicate g.erase 255 in
      let unit_in : 1 * g.erase ≤ area_size g = mul-le-mul_right g.erase valid.units_positive in
      let after : List ℕ = put before (0 + 0 * g.erase) (replicate g.erase 255) in
      let whole : Torn (0 + 0 * g.erase) g.erase before after =
      subst (λ (n : ℕ). Torn (0 + 0 * g.erase) n before after) n_is (Torn-put before (0 + 0 * g.erase) (replicate g.erase 255) (omega (arith, n_is, long, sized, size-areas g, unit_in, zero-mul g.erase))) in
      let call : IsMasterCall g before after now no_contents 0 g.erase = record {
        holds = held;
        number = inl refl;
        spare = λ active. none_some active;
        inside = omega (arith, unit_in);
        cut = record { whole = subst (λ (p : ℕ). Torn p g.erase before after) at whole; cut = subst (λ (p : ℕ). Torn p g.erase before now) at torn };
      } in
      let erased : get_or after (base_of g 0) 0 ≡ 255 =
      ap (λ (p : ℕ). get_or after p 0) (zero_base g) ∙ IsErased-put before (0 + 0 * g.erase) g.erase (omega (arith, long, sized, size-areas g, unit_in, zero-mul g.erase)) 0 (omega (arith, zero-mul g.erase)) (omega (arith, valid.erase_positive, zero-mul g.erase)) in
      let sound : Holds g now no_contents → IsCut g (λ i. Holds g i no_contents) before after now (0 + 0 * g.erase) (length (replicate {A = ℕ} g.erase 255)) =
      λ same. cut_sound g valid (λ i. Holds g i no_contents) before after now (0 + 0 * g.erase) (length (replicate {A = ℕ} g.erase 255)) same (same_chance g valid before after now no_contents held same) in
      ⊎_elim sound (⊎_elim sound
      (λ breaks. cut_break g valid (λ i. Holds g i no_contents) before after now (0 + 0 * g.erase) (length (replicate {A = ℕ} g.erase 255)) (inr (n_is, inl at)) (subst (FirstBreak g before after now) (sym at) breaks)))
      (torn_erase g valid before after now (long ∙ sized) no_contents 0 g.erase call erased)
  erase_cut (suc n) less now torn =
      let before : List ℕ = erased_from image 0 (suc n * g.erase) in
      let after : List ℕ = put before (0 + suc n * g.erase) (replicate g.erase 255) in
      let within : suc (suc n) * g.erase ≤ area_size g = mul-le-mul_right g.erase less in
      let next : suc (suc n) * g.erase ≡ suc n * g.erase + g.erase = omega (arith, suc-mul (suc n) g.erase) in
      let some : 1 ≤ suc n * g.erase = omega (arith, suc-mul n g.erase, valid.erase_positive) in
      let fits : 0 + suc n * g.erase ≤ length image = omega (arith, within, next, sized, size-areas g) in
      let held : Holds g before no_contents = erased_holds (suc n) (omega arith) in
      let first : get_or before 0 0 ≡ 255 = IsErased-erased image 0 (suc n * g.erase) fits 0 (omega arith) (omega (arith, some)) in
      let is : Holds g now no_contents = blank_holds now (torn.below 0 (omega (arith, some)) ∙ first)
      (Torn-trans (Torn-erased image 0 (suc n * g.erase) (area_size g) (omega (arith, within, next)) fits) (Torn-widen (0 + suc n * g.erase) g.erase 0 (area_size g) (omega arith) (omega (arith, within, next)) torn)) in
      cut_sound g valid (λ i. Holds g i no_contents) before after now (0 + suc n * g.erase) (length (replicate {A = ℕ} g.erase 255)) is (same_chance g valid before after now no_contents held is)

  -- each moment of the erases leaves no valid area
  pub erases_cuts : (call : Option DeviceCall) (now : List ℕ) → ErasesUnits g 0 g.units_per_area image call now → CutStrictly g (λ i. Holds g i no_contents) call now
  erases_cuts None now first = subst (λ (l : List ℕ). Holds g l no_contents) (sym first.is) (erased_holds first.units first.most)
  erases_cuts (Some call) now erase =
      let units : ℕ = erase.units in
      let before : List ℕ = erased_from image 0 (units * g.erase) in
      let n_is : length (replicate {A = ℕ} g.erase 255) ≡ g.erase = length-replicate g.erase 255 in
      let le : suc units ≤ g.units_per_area = omega (arith, erase.more) in
      let within : suc units * g.erase ≤ area_size g = mul-le-mul_right g.erase le in
      let next : suc units * g.erase ≡ units * g.erase + g.erase = omega (arith, suc-mul units g.erase) in
      let fits : 0 + units * g.erase ≤ length image = omega (arith, within, next, sized, size-areas g) in
      let long : length before ≡ length image = length-erased image 0 (units * g.erase) fits in
      call_cut g (λ i. Holds g i no_contents) before (0 + units * g.erase) (replicate g.erase 255) (omega (arith, n_is, long, within, next, sized, size-areas g)) call now erase.moment
      (erase_cut units erase.more now (subst (λ (n : ℕ). Torn (0 + units * g.erase) n before now) n_is erase.moment.1))

  -- ---- the format as a whole

  abbrev blank : List ℕ
  blank = erased_from image 0 (area_size g)

  area_fits : 0 + area_size g ≤ length image
  area_fits = omega (arith, sized, size-areas g)

  blank_long : length (erased_from image 0 (area_size g)) ≡ length image
  blank_long = length-erased image 0 (area_size g) area_fits

  master_long : length (master_bytes g.prog 1) ≡ master_size g.prog
  master_long = length-master_bytes g.prog (prog_positive g valid) 1

  abbrev formatted : List ℕ
  formatted = put (erased_from image 0 (area_size g)) 0 (master_bytes g.prog 1)

  master_torn : Torn 0 (master_size g.prog) blank (put (erased_from image 0 (area_size g)) 0 (master_bytes g.prog 1))
  master_torn = subst (λ (n : ℕ). Torn 0 n blank formatted) master_long (Torn-put blank 0 (master_bytes g.prog 1) (omega (arith, master_long, blank_long, area_fits, master_within g valid)))

  no_record : (r : Write) → IsRecordAt g.prog formatted (0 * area_size g + master_size g.prog) r → 0 * area_size g + area_size g < 0 * area_size g + master_size g.prog + extent g.prog r
  no_record r stands = elim (cases_lt (master_size g.prog) (area_size g)) [
    | inl room ↦
        let erased : get_or blank (0 * area_size g + master_size g.prog) 0 ≡ 255 =
        IsErased-erased image 0 (area_size g) area_fits (0 * area_size g + master_size g.prog) (omega arith) (omega (arith, room, zero-mul (area_size g))) in
        absurd (no_record_erased g.prog (prog_positive g valid) formatted (0 * area_size g + master_size g.prog) r
        (master_torn.behind (0 * area_size g + master_size g.prog) (omega arith) ∙ erased) stands)
    | inr full ↦ omega (arith, full, extent-positive g.prog (prog_positive g valid) r)
  ]

  -- a formatted image mounts to the empty map
  formatted_mounts : Mounts g formatted (map_of [])
  formatted_mounts = (
    record { first = Some 1; second = None; records = []; end = 0 * area_size g + master_size g.prog },
    record {
      first_master = IsMaster-put g.prog (prog_positive g valid) blank 0 1 (omega arith) (omega (arith, blank_long, area_fits, master_within g valid));
      second_master = master_stays g valid image formatted sized 0 (area_size g)
          (Torn-trans (Torn-erased image 0 (area_size g) (area_size g) (omega arith) area_fits) (Torn-widen 0 (master_size g.prog) 0 (area_size g) (omega arith) (omega (arith, master_within g valid)) master_torn))
          (area_size g) None (omega (arith, master_within g valid, size-areas g)) (inr (inl (omega arith))) none.second_master;
      active = record { each = refl; inside = omega (arith, master_within g valid); no_more = no_record };
    },
    refl,
  )

  spare_area : IsSpare g image no_contents 0
  spare_area = record { holds = none; number = inl refl; spare = λ active. none_some active }

  abbrev Formatted : List ℕ → Type 0
  Formatted left = Mounts g left (map_of [])

  renews_cuts : (call : Option DeviceCall) (now : List ℕ) → RenewsArea g 0 Formatted image call now → CutStrictly g (λ left. Mounts g left (map_of [])) call now
  renews_cuts call now renews =
      cut_weakened g (MountsToOne g (map_of []) (map_of [])) Formatted (λ left is. ⊎_elim (λ was. was) (λ will. will) is) call now
      (renew_map g valid image sized no_contents 0 (map_of []) spare_area call now renews)

  -- each moment of the master record's write, over the whole area erased
  appends_renew : (call : Option DeviceCall) (now : List ℕ) → AppendsRecord g.prog 0 (master_of 1) blank call now → RenewsArea g 0 Formatted image call now
  appends_renew call now appends =
      let at : 0 ≡ base_of g 0 = sym (zero_base g) in
      let over : blank ≡ erased_from image (base_of g 0) (area_size g) = ap (λ (p : ℕ). erased_from image p (area_size g)) at in
      let whole : Formatted (put (erased_from image (base_of g 0) (area_size g)) (base_of g 0) (master_bytes g.prog 1)) =
      subst (λ (p : ℕ). Formatted (put (erased_from image p (area_size g)) p (master_bytes g.prog 1))) at formatted_mounts in
      complete_more g 0 Formatted image (erased_from image (base_of g 0) (area_size g)) call now
      (erased_fills g valid 0 (inl refl) image sized)
      (master_completes g valid 0 (inl refl) (erased_from image (base_of g 0) (area_size g)) (ap length (sym over) ∙ blank_long ∙ sized) Formatted 1 whole call now
      (subst (λ (l : List ℕ). AppendsRecord g.prog (base_of g 0) (master_of 1) l call now) over
      (subst (λ (p : ℕ). AppendsRecord g.prog p (master_of 1) blank call now) at appends)))

  pub format_cuts : (call : Option DeviceCall) (now : List ℕ) → ErasesUnits g 0 g.units_per_area image call now ⊎ AppendsRecord g.prog 0 (master_of 1) (erased_from image 0 (area_size g)) call now → CutStrictly g (λ left. Mounts g left (map_of [])) call now
  format_cuts call now (inl erases) =
      renews_cuts call now (inl (erases_fill g valid 0 (inl refl) image sized call now (subst (λ (p : ℕ). ErasesUnits g p g.units_per_area image call now) (sym (zero_base g)) erases)))
  format_cuts call now (inr appends) = renews_cuts call now (appends_renew call now appends)
