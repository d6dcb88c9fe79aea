-- While a set is written its place's first byte stays erased until the header is programmed.
use Rattle.std.proofs.Common.{◌≡◌, ◌⊎◌, ℕ, ◌+◌, ◌≤◌, List, length, take, Option, Some, None, inl, inr, ◌∙◌, ap, subst, arith}
use Rattle.std.proofs.lemmas.List.{length-take}
use Rattle.std.specs.Prelude.{slice_index}
use Rattle.base_core.specs.Units.{up}
use Rattle.base_core.proofs.UnitLemmas.{up-ge}
use Rattle.flash_core.specs.declared.geometry.Geometry.{Geometry}
use Rattle.flash_core.specs.Calls.{IsMomentWithin}
use Rattle.flash_core.specs.Images.{put}
use Rattle.flash_core.specs.State.{DeviceCall}
use Rattle.flash_core.specs.TwoPrograms.{payload_put}
use Rattle.flash_core.proofs.ImageLaws.{get_or-put_below}
use Rattle.kv_model.specs.Write.{Write}
use Rattle.record_core.specs.Record.{record_header, record_payload}
use Rattle.record_core.specs.Written.{AppendsRecord, Ascends}
use Rattle.record_core.proofs.LogLemmas.{no_record_erased}
use Rattle.record_core.proofs.RecordLemmas.{length-record_header}
use Rattle.inc_set.specs.declared.open_set.OpenSet.{OpenSet}
use Rattle.inc_set.specs.Sets.{HasNoRecord, IsAhead, payload_place}

module _ (g : Geometry) (positive : 1 ≤ g.prog) (image : List ℕ) (set : OpenSet) (ahead : IsAhead g image set) where
  some : 1 ≤ up g.prog 24
  some = omega (arith, up-ge g.prog 24 positive)

  first_erased : slice_index image set.at ≡ 255
  first_erased = ahead.header set.at (omega arith) (omega (arith, some))

  pub no_record : HasNoRecord g.prog image set.at
  no_record r = no_record_erased g.prog positive image set.at r first_erased

  below_units : (from : ℕ) (units : List ℕ) → payload_place g.prog set ≤ from → from + length units ≤ length image
      → (done : ℕ) → slice_index (put image from (take done units)) set.at ≡ 255
  below_units from units behind fits done =
      get_or-put_below image from (take done units) (omega (arith, fits, length-take done units)) set.at (omega (arith, some, behind))
      ∙ first_erased

  pub erased_at : (from : ℕ) (units : List ℕ) → payload_place g.prog set ≤ from → from + length units ≤ length image
      → (call : Option DeviceCall) (now : List ℕ) → Ascends g.prog from units image call now → slice_index now set.at ≡ 255
  erased_at from units behind fits None now is =
      ap (λ (l : List ℕ). slice_index l set.at) is.is ∙ below_units from units behind fits is.done
  erased_at from units behind fits (Some call) now is =
      is.moment.1.below set.at (omega (arith, some, behind)) ∙ below_units from units behind fits is.done

  pub no_record_fed : (from : ℕ) (units : List ℕ) → payload_place g.prog set ≤ from → from + length units ≤ length image
      → (call : Option DeviceCall) (now : List ℕ) → Ascends g.prog from units image call now → HasNoRecord g.prog now set.at
  no_record_fed from units behind fits call now is r =
      no_record_erased g.prog positive now set.at r (erased_at from units behind fits call now is)

  pub no_record_sealed : (r : Write) → payload_place g.prog set + length (record_payload g.prog r.key r.value) ≤ length image
      → (call : Option DeviceCall) (now : List ℕ) → AppendsRecord g.prog set.at r image call now
      → HasNoRecord g.prog now set.at ⊎ IsMomentWithin (payload_put image set.at (record_header g.prog r.flags r.key r.value) (record_payload g.prog r.key r.value)) set.at (record_header g.prog r.flags r.key r.value) call now
  no_record_sealed r fits call now (inl writes) =
      let payload : List ℕ = record_payload g.prog r.key r.value in
      let long : length (record_header g.prog r.flags r.key r.value) ≡ up g.prog 24 = length-record_header g.prog positive r.flags r.key r.value in
      let is : Ascends g.prog (payload_place g.prog set) payload image call now = subst (λ (n : ℕ). Ascends g.prog (set.at + n) payload image call now) long writes in
      inl (no_record_fed (payload_place g.prog set) payload (omega arith) fits call now is)
  no_record_sealed r fits call now (inr header) = inr header
