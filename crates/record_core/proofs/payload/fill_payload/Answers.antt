use Rattle.std.proofs.Common.{◌≡◌, ℕ, ◌+◌, ◌-◌, ◌<◌, List, length, get_or, refl, sym, ◌∙◌, ap, arith, inl, inr}
use Rattle.std.proofs.lemmas.Bool.{cases_lt}
use Rattle.std.proofs.lemmas.List.{ext_get_or}
use Rattle.flash_core.specs.Images.{part}
use Rattle.flash_core.proofs.ImageLaws.{get_or-part, length-part}
use Rattle.base_core.specs.Units.{up}
use Rattle.record_core.specs.Record.{record_payload}
use Rattle.record_core.proofs.RecordLemmas.{length-record_payload}
use Rattle.record_core.proofs.PayloadLemmas.{payload_key, payload_value, payload_pad}
use Rattle.record_core.proofs.payload.fill_payload.Goals as goal

pub returns : goal.returns
returns c prog positive within =
    let n : ℕ = length c.args.units.now in
    let from : ℕ = c.args.from in
    let k : ℕ = length c.args.key.now in
    let payload : List ℕ = record_payload prog c.args.key.now c.args.value.now in
    let whole : length payload ≡ up prog (k + length c.args.value.now) = length-record_payload prog positive 0 c.args.key.now c.args.value.now in
    let long : length (part payload from n) ≡ n = length-part payload from n (omega (arith, whole, within)) in
    let filled : length c.fill.new.self ≡ n = c.fill.ensures.len in
    let first : length c.overlay.new.units ≡ n = omega (arith, filled) in
    let second : length c.overlay-2.new.units ≡ n = omega (arith, filled) in
    ext_get_or 0 c.overlay-2.new.units (part payload from n) (second ∙ sym long) (λ i inside.
    let lt : i < n = omega (arith, inside, second) in
    let byte : get_or c.overlay-2.new.units i 0 ≡ get_or payload (from + i) 0 = elim (cases_lt (from + i) k) [
      | inl in_key ↦
          c.overlay-2.ensures.outside i (omega (arith, lt, first)) (inl in_key)
          ∙ c.overlay.ensures.inside i (omega (arith, lt, filled)) (omega arith) (omega (arith, in_key))
          ∙ ap (λ (j : ℕ). get_or c.args.key.now j 0) (let same : from + i - 0 ≡ from + i = omega arith in same)
          ∙ sym (payload_key prog c.args.key.now c.args.value.now (from + i) in_key)
      | inr behind_key ↦ elim (cases_lt (from + i) (k + length c.args.value.now)) [
        | inl in_value ↦
            c.overlay-2.ensures.inside i (omega (arith, lt, first)) behind_key in_value
            ∙ sym (payload_value prog c.args.key.now c.args.value.now (from + i) behind_key in_value)
        | inr behind ↦
            c.overlay-2.ensures.outside i (omega (arith, lt, first)) (inr behind)
            ∙ c.overlay.ensures.outside i (omega (arith, lt, filled)) (inr (omega (arith, behind_key)))
            ∙ c.fill.ensures.clones i 0 lt refl
            ∙ sym (payload_pad prog c.args.key.now c.args.value.now (from + i) behind (omega (arith, lt, within)))
      ]
    ] in
    byte ∙ sym (get_or-part payload from n i lt))
