-- The bytes of a payload, and those of a piece of it.
use Rattle.std.proofs.Common.{◌≡◌, ◌⊎◌, ℕ, ◌+◌, ◌-◌, ◌<◌, ◌≤◌, List, ◌++◌, length, get_or, replicate, sym, ◌∙◌, ap, arith, min, max, ⊎_elim, length-append}
use Rattle.std.proofs.lemmas.List.{places, get_or-replicate}
use Rattle.std.proofs.Math.Seq.{get_or-append_right}
use Rattle.flash_core.specs.Images.{part, put}
use Rattle.flash_core.proofs.ImageLaws.{get_or-part, get_or-put_below, get_or-put_behind, get_or-put_inside, length-part}
use Rattle.base_core.specs.Units.{up}
use Rattle.record_core.specs.Record.{record_payload}

-- bytes that stand from start on, laid over a range that begins at from
module _ (units bytes : List ℕ) (from start first last : ℕ) (first_is : first ≡ max from start) (last_is : last ≡ min (from + length units) (start + length bytes)) (some : first < last) where
  long : length (part bytes (first - start) (last - start - (first - start))) ≡ last - first
  long = length-part bytes (first - start) (last - start - (first - start)) (omega arith) ∙ omega arith

  pub overlay-inside : (i : ℕ) → i < length units → start ≤ from + i → from + i < start + length bytes → get_or (put units (first - from) (part bytes (first - start) (last - start - (first - start)))) i 0 ≡ get_or bytes (from + i - start) 0
  overlay-inside i in_units from_start before_end =
      let at : first - from + (i - (first - from)) ≡ i = omega arith in
      let to : first - start + (i - (first - from)) ≡ from + i - start = omega arith in
      ap (λ (k : ℕ). get_or (put units (first - from) (part bytes (first - start) (last - start - (first - start)))) k 0) (sym at)
      ∙ get_or-put_inside units (first - from) (part bytes (first - start) (last - start - (first - start))) (omega (arith, long)) (i - (first - from)) (omega (arith, long))
      ∙ get_or-part bytes (first - start) (last - start - (first - start)) (i - (first - from)) (omega arith)
      ∙ ap (λ (k : ℕ). get_or bytes k 0) to

  pub overlay-outside : (i : ℕ) → i < length units → (from + i < start) ⊎ (start + length bytes ≤ from + i) → get_or (put units (first - from) (part bytes (first - start) (last - start - (first - start)))) i 0 ≡ get_or units i 0
  overlay-outside i in_units apart = ⊎_elim
      (λ before. get_or-put_below units (first - from) (part bytes (first - start) (last - start - (first - start))) (omega (arith, long)) i (omega (arith, before)))
      (λ behind. get_or-put_behind units (first - from) (part bytes (first - start) (last - start - (first - start))) (omega (arith, long)) i (omega (arith, behind, long)))
      apart

module _ (prog : ℕ) (key value : List ℕ) where
  pub payload_key : (i : ℕ) → i < length key → get_or (record_payload prog key value) i 0 ≡ get_or key i 0
  unfolding record_payload
  payload_key i inside = grind (arith, places)

  pub payload_value : (i : ℕ) → length key ≤ i → i < length key + length value → get_or (record_payload prog key value) i 0 ≡ get_or value (i - length key) 0
  unfolding record_payload
  payload_value i from to = grind (arith, places)

  pub payload_pad : (i : ℕ) → length key + length value ≤ i → i < up prog (length key + length value) → get_or (record_payload prog key value) i 0 ≡ 255
  unfolding record_payload
  payload_pad i from to =
      let both : List ℕ = key ++ value in
      let long : length both ≡ length key + length value = length-append key value in
      let pad : ℕ = up prog (length both) - length both in
      get_or-append_right both (replicate pad 255) i 0 (omega (arith, long))
      ∙ get_or-replicate pad (i - length both) 255 0 (omega (arith, long, ap (up prog) long))
