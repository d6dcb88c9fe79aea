-- What each moment leaves at which an area that isn't active is made new.
use Rattle.std.proofs.Common.{◌≡◌, ◌⊎◌, ℕ, zero, suc, ◌+◌, ◌-◌, ◌≤◌, List, length, get_or, replicate, refl, sym, ◌∙◌, ap, subst, arith, inl, inr, ⊎_elim, Some, None}
use Rattle.std.specs.Prelude.{Option}
use Rattle.std.proofs.lemmas.List.{length-replicate}
use Rattle.base_core.specs.Units.{up}
use Rattle.base_core.proofs.UnitLemmas.{up-ge}
use Rattle.flash_core.specs.declared.geometry.Geometry.{Geometry}
use Rattle.flash_core.specs.Calls.{IsMomentWithin}
use Rattle.flash_core.specs.Images.{Torn, put}
use Rattle.flash_core.specs.Sizes.{IsValid, area_size, size_of}
use Rattle.flash_core.specs.State.{DeviceCall, after_of, before_of}
use Rattle.flash_core.proofs.EraseLaws.{length-erased}
use Rattle.flash_core.proofs.GeometryLaws.{erase_le_area, prog_positive, size-areas}
use Rattle.flash_core.proofs.ImageLaws.{IsErased-put, Torn-put}
use Rattle.record_core.specs.Chance.{AllStand, NoChance}
use Rattle.record_core.specs.CutMoments.{CutStrictly, IsCut}
use Rattle.record_core.specs.Cuts.{IsMasterCall, base_of, version_of, with_version}
use Rattle.record_core.specs.Mounts.{Contents, Holds, reads_of}
use Rattle.record_core.specs.Renewal.{BehindHeader, CompletesArea, FillsArea, HeaderLast, HoldsStill, IsBlank, IsSpare, RenewsArea, behind_header, blanked}
use Rattle.record_core.proofs.ChanceLemmas.{no_chance_after, stand_after}
use Rattle.record_core.proofs.CutLemmas.{call_cut, cut_break, cut_sound, same_chance}
use Rattle.record_core.proofs.MountLemmas.{one_contents, one_version, reads_stand}
use Rattle.record_core.proofs.TornLemmas.{active_without, apart_in_spare, contents_stay, erased_has_none, holds_with, master_at, one_base, torn_erase, torn_master_header, zero_base}

-- what holds of the image that a moment leaves, where that follows
pub cut_weakened : (g : Geometry) (P Q : List ℕ → Type 0) → ((left : List ℕ) → P left → Q left) → (call : Option DeviceCall) (left : List ℕ) → CutStrictly g P call left → CutStrictly g Q call left
cut_weakened g P Q implies None left holds = implies left holds
cut_weakened g P Q implies (Some call) left cut = record { holds = λ chance. implies left (cut.holds chance); first = cut.first }

-- what is held as after the call is there by no chance
chance_after : (g : Geometry) (valid : IsValid g) (before after torn : List ℕ) (c : Contents) → Holds g after c → Holds g torn c → NoChance g before after torn
chance_after g valid before after torn c will is d held =
    let same : c ≡ d = one_contents g torn (prog_positive g valid) c d is held in
    subst (λ (x : Contents). AllStand before after (reads_of g x)) same (stand_after before after (reads_of g c) (reads_stand g after (prog_positive g valid) c will))

with_own : (k : ℕ) (c : Contents) → with_version k (version_of k c) c ≡ c
with_own zero c = refl
with_own (suc k) c = refl

with_none : (k : ℕ) (c : Contents) → version_of k c ≡ None → with_version k None c ≡ c
with_none k c none = subst (λ (v : Option ℕ). with_version k v c ≡ c) none (with_own k c)

module _ (g : Geometry) (valid : IsValid g) (k : ℕ) (number : (k ≡ 0) ⊎ (k ≡ 1)) (image : List ℕ) (sized : length image ≡ size_of g) where
  pub area_inside : base_of g k + area_size g ≤ length image
  area_inside = ⊎_elim
      (λ is. omega (arith, sized, size-areas g, ap (base_of g) is, zero_base g))
      (λ is. omega (arith, sized, size-areas g, ap (base_of g) is, one_base g))
      number

  header_some : 24 ≤ up g.prog 24
  header_some = up-ge g.prog 24 (prog_positive g valid)

  header_in_area : up g.prog 24 ≤ area_size g
  header_in_area = omega (arith, valid.header_fits, erase_le_area g valid)

-- ---- behind the place of the header, which is erased

module _ (g : Geometry) (valid : IsValid g) (image : List ℕ) (sized : length image ≡ size_of g) (c : Contents) (k : ℕ) (blank : IsBlank g image c k) where
  pub blank_stays : (now : List ℕ) → Torn (behind_header g k) (area_size g - up g.prog 24) image now → Holds g now c
  blank_stays now torn =
      let n : ℕ = area_size g - up g.prog 24 in
      let some = header_some g valid k blank.spare.number image sized in
      let within = header_in_area g valid k blank.spare.number image sized in
      contents_stay g valid image now sized (behind_header g k) n torn c blank.spare.holds
      (apart_in_spare g valid image c blank.spare.holds k (behind_header g k) n blank.spare.spare
      (record { number = blank.spare.number; from = omega arith; to = omega (arith, within) })
      (omega (arith, some)) blank.erased)

  pub behind_cuts : (call : Option DeviceCall) (now : List ℕ) → BehindHeader g k image call now → CutStrictly g (λ left. Holds g left c) call now
  behind_cuts None now torn = blank_stays now torn
  behind_cuts (Some call) now inside =
      let was : Holds g (before_of call now) c = blank_stays (before_of call now) inside.torn_before in
      let is : Holds g now c = blank_stays now inside.torn in
      cut_sound g valid (λ left. Holds g left c) (before_of call now) (after_of call now) now call.place (length call.after) is
      (same_chance g valid (before_of call now) (after_of call now) now c was is)

  no_version : version_of k c ≡ None
  no_version = one_version g.prog (prog_positive g valid) image (base_of g k) (version_of k c) None
      (master_at g image c k blank.spare.number blank.spare.holds) (erased_has_none g valid image (base_of g k) blank.erased)

  module _ (W : List ℕ → Type 0) (filled header : List ℕ) (fills : BehindHeader g k image None filled) (long : length header ≡ up g.prog 24) (whole : W (put filled (base_of g k) header)) where
    filled_sized : length filled ≡ size_of g
    filled_sized = fills.same_length ∙ sized

    header_inside : base_of g k + length header ≤ length filled
    header_inside = omega (arith, long, header_in_area g valid k blank.spare.number image sized, area_inside g valid k blank.spare.number filled filled_sized)

    header_cut : (now : List ℕ) → Torn (base_of g k) (length header) filled now → IsCut g (λ left. Holds g left c ⊎ W left) filled (put filled (base_of g k) header) now (base_of g k) (length header)
    header_cut now torn =
        let P : List ℕ → Type 0 = λ left. Holds g left c ⊎ W left in
        let after : List ℕ = put filled (base_of g k) header in
        let held : Holds g filled c = blank_stays filled fills in
        let call : IsMasterCall g filled after now c k (length header) = record {
          holds = held;
          number = blank.spare.number;
          spare = blank.spare.spare;
          inside = omega (arith, long, header_in_area g valid k blank.spare.number image sized);
          cut = record { whole = Torn-put filled (base_of g k) header header_inside; cut = torn };
        } in
        let same : Holds g now c → IsCut g P filled after now (base_of g k) (length header) =
        λ is. cut_sound g valid P filled after now (base_of g k) (length header) (inl is) (same_chance g valid filled after now c held is) in
        ⊎_elim same
        (⊎_elim (λ without. same (subst (Holds g now) (with_none k c no_version) without))
        (⊎_elim
        (λ is. subst (λ (l : List ℕ). IsCut g P filled after l (base_of g k) (length header)) (sym is)
        (cut_sound g valid P filled after after (base_of g k) (length header) (inr whole) (no_chance_after g valid filled after)))
        (λ breaks. cut_break g valid P filled after now (base_of g k) (length header) (inl long) breaks)))
        (torn_master_header g valid filled after now filled_sized c k (length header) call (omega (arith, long)))

    pub header_cuts : (call : Option DeviceCall) (now : List ℕ) → IsMomentWithin filled (base_of g k) header call now → CutStrictly g (λ left. Holds g left c ⊎ W left) call now
    header_cuts None now is = inr (subst W (sym is) whole)
    header_cuts (Some call) now moment = call_cut g (λ left. Holds g left c ⊎ W left) filled (base_of g k) header header_inside call now moment (header_cut now moment.1)

  pub last_cuts : (W : List ℕ → Type 0) (call : Option DeviceCall) (now : List ℕ) → HeaderLast g k W image call now → CutStrictly g (λ left. Holds g left c ⊎ W left) call now
  last_cuts W call now last = header_cuts W last.filled last.header last.fills last.long last.whole call now last.moment

  -- the write of a master record
  pub completes_cuts : (W : List ℕ → Type 0) (call : Option DeviceCall) (now : List ℕ) → CompletesArea g k W image call now → CutStrictly g (λ left. Holds g left c ⊎ W left) call now
  completes_cuts W call now (inl behind) = cut_weakened g (λ left. Holds g left c) (λ left. Holds g left c ⊎ W left) (λ left is. inl is) call now (behind_cuts call now behind)
  completes_cuts W call now (inr last) = last_cuts W call now last

-- ---- the whole area

module _ (g : Geometry) (valid : IsValid g) (image : List ℕ) (sized : length image ≡ size_of g) (c : Contents) (k : ℕ) (spare : IsSpare g image c k) where
  abbrev unit : List ℕ
  unit = replicate g.erase 255

  unit_long : length (replicate {A = ℕ} g.erase 255) ≡ g.erase
  unit_long = length-replicate g.erase 255

  area_number : (base_of g k ≡ base_of g 0) ⊎ (base_of g k ≡ base_of g 1)
  area_number = ⊎_elim (λ first. inl (ap (base_of g) first)) (λ second. inr (ap (base_of g) second)) spare.number

  unit_inside : base_of g k + g.erase ≤ length image
  unit_inside = omega (arith, erase_le_area g valid, area_inside g valid k spare.number image sized)

  after_erased : get_or (blanked g k image) (base_of g k) 0 ≡ 255
  after_erased = IsErased-put image (base_of g k) g.erase unit_inside (base_of g k) (omega arith) (omega (arith, valid.erase_positive))

  whole_torn : Torn (base_of g k) g.erase image (blanked g k image)
  whole_torn = subst (λ (n : ℕ). Torn (base_of g k) n image (blanked g k image)) unit_long
      (Torn-put image (base_of g k) unit (omega (arith, unit_long, unit_inside)))

  erase_call : (now : List ℕ) → Torn (base_of g k) g.erase image now → IsMasterCall g image (blanked g k image) now c k g.erase
  erase_call now torn = record {
    holds = spare.holds;
    number = spare.number;
    spare = spare.spare;
    inside = erase_le_area g valid;
    cut = record { whole = whole_torn; cut = torn };
  }

  -- the first unit erased leaves no master record there
  pub blanked_holds : Holds g (blanked g k image) (with_version k None c)
  blanked_holds = holds_with g valid image (blanked g k image) (blanked g k image) sized c g.erase k (erase_call (blanked g k image) whole_torn) None
      (erased_has_none g valid (blanked g k image) (base_of g k) after_erased) (active_without c k spare.number spare.spare)

  pub blanked_sized : length (blanked g k image) ≡ size_of g
  blanked_sized = length-erased image (base_of g k) g.erase unit_inside ∙ sized

  pub blanked_is_blank : IsBlank g (blanked g k image) (with_version k None c) k
  blanked_is_blank = record {
    spare = record {
      holds = blanked_holds;
      number = spare.number;
      spare = λ active. spare.spare (sym (active_without c k spare.number spare.spare) ∙ active);
    };
    erased = after_erased;
  }

  erase_cut : (now : List ℕ) → Torn (base_of g k) g.erase image now → IsCut g (HoldsStill g c k) image (blanked g k image) now (base_of g k) (length (replicate {A = ℕ} g.erase 255))
  erase_cut now torn =
      let P : List ℕ → Type 0 = HoldsStill g c k in
      let after : List ℕ = blanked g k image in
      ⊎_elim
      (λ same. cut_sound g valid P image after now (base_of g k) (length (replicate {A = ℕ} g.erase 255)) (inl same) (same_chance g valid image after now c spare.holds same))
      (⊎_elim
      (λ none. cut_sound g valid P image after now (base_of g k) (length (replicate {A = ℕ} g.erase 255)) (inr none) (chance_after g valid image after now (with_version k None c) blanked_holds none))
      (λ breaks. cut_break g valid P image after now (base_of g k) (length (replicate {A = ℕ} g.erase 255)) (inr (unit_long, area_number)) breaks))
      (torn_erase g valid image after now sized c k g.erase (erase_call now torn) after_erased)

  erase_cuts : (call : Option DeviceCall) (now : List ℕ) → IsMomentWithin image (base_of g k) (replicate g.erase 255) call now → CutStrictly g (HoldsStill g c k) call now
  erase_cuts None now is = inr (subst (λ (l : List ℕ). Holds g l (with_version k None c)) (sym is) blanked_holds)
  erase_cuts (Some call) now moment =
      call_cut g (HoldsStill g c k) image (base_of g k) (replicate g.erase 255) (omega (arith, unit_long, unit_inside)) call now moment
      (erase_cut now (subst (λ (n : ℕ). Torn (base_of g k) n image now) unit_long moment.1))

  start_cuts : (call : Option DeviceCall) (now : List ℕ) → call ≡ None → now ≡ image → CutStrictly g (HoldsStill g c k) call now
  start_cuts call now none same =
      subst (λ (o : Option DeviceCall). CutStrictly g (HoldsStill g c k) o now) (sym none)
      (inl (subst (λ (l : List ℕ). Holds g l c) (sym same) spare.holds))

  pub fills_cuts : (call : Option DeviceCall) (now : List ℕ) → FillsArea g k image call now → CutStrictly g (HoldsStill g c k) call now
  fills_cuts call now (inl same) = start_cuts call now same.0 same.1
  fills_cuts call now (inr (inl moment)) = erase_cuts call now moment
  fills_cuts call now (inr (inr behind)) =
      cut_weakened g (λ left. Holds g left (with_version k None c)) (HoldsStill g c k) (λ left is. inr is) call now
      (behind_cuts g valid (blanked g k image) blanked_sized (with_version k None c) k blanked_is_blank call now behind)

  pub renews_cuts : (W : List ℕ → Type 0) (call : Option DeviceCall) (now : List ℕ) → RenewsArea g k W image call now → CutStrictly g (λ left. HoldsStill g c k left ⊎ W left) call now
  renews_cuts W call now (inl fills) = cut_weakened g (HoldsStill g c k) (λ left. HoldsStill g c k left ⊎ W left) (λ left is. inl is) call now (fills_cuts call now fills)
  renews_cuts W call now (inr last) =
      cut_weakened g (λ left. Holds g left (with_version k None c) ⊎ W left) (λ left. HoldsStill g c k left ⊎ W left)
      (λ left is. ⊎_elim (λ held. inl (inr held)) (λ whole. inr whole) is) call now
      (last_cuts g valid (blanked g k image) blanked_sized (with_version k None c) k blanked_is_blank W call now last)
