-- What each moment leaves at which a record that was begun is finished.
use Rattle.std.proofs.Common.{◌≡◌, ◌⊎◌, ℕ, ◌+◌, ◌≤◌, List, length, sym, ◌∙◌, subst, arith, inl, inr, ⊎_elim, refl, Some, None}
use Rattle.std.specs.Prelude.{Option}
use Rattle.base_core.specs.Units.{up}
use Rattle.base_core.proofs.UnitLemmas.{up-ge}
use Rattle.flash_core.specs.declared.geometry.Geometry.{Geometry}
use Rattle.flash_core.specs.Calls.{IsMomentWithin}
use Rattle.flash_core.specs.Images.{Torn, put}
use Rattle.flash_core.specs.Sizes.{IsValid, size_of}
use Rattle.flash_core.specs.State.{DeviceCall, after_of, before_of}
use Rattle.flash_core.proofs.GeometryLaws.{prog_positive}
use Rattle.flash_core.proofs.ImageLaws.{Torn-put}
use Rattle.kv_model.specs.FlaggedMap.{FlaggedMap}
use Rattle.kv_model.specs.Write.{map_of}
use Rattle.record_core.specs.CutMoments.{CutStrictly, IsCut, MountsToOne}
use Rattle.record_core.specs.Cuts.{IsHeaderCall}
use Rattle.record_core.specs.Finishing.{FinishesRecord, InPayload, IsBegun}
use Rattle.record_core.specs.Mounts.{Contents, Holds, Mounts}
use Rattle.record_core.proofs.ChanceLemmas.{no_chance_after}
use Rattle.record_core.proofs.CutLemmas.{call_cut, cut_break, cut_sound, same_chance}
use Rattle.record_core.proofs.RenewalCuts.{area_inside, cut_weakened}
use Rattle.record_core.proofs.TornLemmas.{apart_behind_end, contents_stay, torn_header}

module _ (g : Geometry) (valid : IsValid g) (image : List ℕ) (sized : length image ≡ size_of g) (c : Contents) (k n : ℕ) (begun : IsBegun g image c k n) where
  header_some : 24 ≤ up g.prog 24
  header_some = up-ge g.prog 24 (prog_positive g valid)

  begun_stays : (now : List ℕ) → Torn (c.end + up g.prog 24) n image now → Holds g now c
  begun_stays now torn =
      contents_stay g valid image now sized (c.end + up g.prog 24) n torn c begun.holds
      (apart_behind_end g valid image c begun.holds k (c.end + up g.prog 24) n begun.active
      (record { number = begun.inside.number; from = omega (arith, begun.inside.from); to = omega (arith, begun.inside.to) })
      (omega (arith, header_some)) begun.erased)

  pub payload_cuts : (call : Option DeviceCall) (now : List ℕ) → InPayload g c.end n image call now → CutStrictly g (λ left. Holds g left c) call now
  payload_cuts None now torn = begun_stays now torn
  payload_cuts (Some call) now inside =
      let was : Holds g (before_of call now) c = begun_stays (before_of call now) inside.torn_before in
      let is : Holds g now c = begun_stays now inside.torn in
      cut_sound g valid (λ left. Holds g left c) (before_of call now) (after_of call now) now call.place (length call.after) is
      (same_chance g valid (before_of call now) (after_of call now) now c was is)

  module _ (W : List ℕ → Type 0) (filled header : List ℕ) (fills : InPayload g c.end n image None filled) (long : length header ≡ up g.prog 24) (whole : W (put filled c.end header)) where
    filled_sized : length filled ≡ size_of g
    filled_sized = fills.same_length ∙ sized

    header_inside : c.end + length header ≤ length filled
    header_inside = omega (arith, long, begun.inside.to, area_inside g valid k begun.inside.number filled filled_sized)

    header_cut : (now : List ℕ) → Torn c.end (length header) filled now → IsCut g (λ left. Holds g left c ⊎ W left) filled (put filled c.end header) now c.end (length header)
    header_cut now torn =
        let P : List ℕ → Type 0 = λ left. Holds g left c ⊎ W left in
        let after : List ℕ = put filled c.end header in
        let held : Holds g filled c = begun_stays filled fills in
        let call : IsHeaderCall g filled after now c k (length header) = record {
          holds = held;
          active = begun.active;
          erased = fills.below c.end (omega (arith, header_some)) ∙ begun.erased;
          in_header = omega (arith, long);
          inside = omega (arith, begun.inside.to, long);
          cut = record { whole = Torn-put filled c.end header header_inside; cut = torn };
        } in
        ⊎_elim
        (λ same. cut_sound g valid P filled after now c.end (length header) (inl same) (same_chance g valid filled after now c held same))
        (⊎_elim
        (λ is. subst (λ (l : List ℕ). IsCut g P filled after l c.end (length header)) (sym is)
        (cut_sound g valid P filled after after c.end (length header) (inr whole) (no_chance_after g valid filled after)))
        (λ breaks. cut_break g valid P filled after now c.end (length header) (inl long) breaks))
        (torn_header g valid filled after now filled_sized c k (length header) call)

    header_cuts : (call : Option DeviceCall) (now : List ℕ) → IsMomentWithin filled c.end header call now → CutStrictly g (λ left. Holds g left c ⊎ W left) call now
    header_cuts None now is = inr (subst W (sym is) whole)
    header_cuts (Some call) now moment = call_cut g (λ left. Holds g left c ⊎ W left) filled c.end header header_inside call now moment (header_cut now moment.1)

  pub finishes_cuts : (W : List ℕ → Type 0) (call : Option DeviceCall) (now : List ℕ) → FinishesRecord g c.end n W image call now → CutStrictly g (λ left. Holds g left c ⊎ W left) call now
  finishes_cuts W call now (inl behind) = cut_weakened g (λ left. Holds g left c) (λ left. Holds g left c ⊎ W left) (λ left is. inl is) call now (payload_cuts call now behind)
  finishes_cuts W call now (inr last) = header_cuts W last.filled last.header last.fills last.long last.whole call now last.moment

  -- as maps
  pub payload_map : (call : Option DeviceCall) (now : List ℕ) → InPayload g c.end n image call now → CutStrictly g (λ left. Mounts g left (map_of c.records)) call now
  payload_map call now moment = cut_weakened g (λ left. Holds g left c) (λ left. Mounts g left (map_of c.records)) (λ left held. (c, held, refl)) call now (payload_cuts call now moment)

  pub finish_map : (next : FlaggedMap) (call : Option DeviceCall) (now : List ℕ) → FinishesRecord g c.end n (λ left. Mounts g left next) image call now → CutStrictly g (MountsToOne g (map_of c.records) next) call now
  finish_map next call now moment =
      cut_weakened g (λ left. Holds g left c ⊎ Mounts g left next) (MountsToOne g (map_of c.records) next)
      (λ left is. ⊎_elim (λ held. inl (c, held, refl)) (λ mounts. inr mounts) is) call now
      (finishes_cuts (λ left. Mounts g left next) call now moment)
