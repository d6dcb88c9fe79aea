-- The records that an image spells are those that stand there.
use Rattle.std.proofs.Common.{◌≡◌, ℕ, zero, suc, ◌+◌, ◌<◌, ◌≤◌, true, false, List, [], ◌∷◌, length, slice_range, refl, ◌∙◌, ap, arith}
use Rattle.std.specs.Prelude.{nat_lt, if◌then◌else◌}
use Rattle.std.specs.Int.{w16, w32, from_le_bytes}
use Rattle.std.proofs.lemmas.Bool.Decides.{nat_tests}
use Rattle.std.proofs.lemmas.Nat.{from_le_bytes-to_le_bytes_2, from_le_bytes-to_le_bytes_4}
use Rattle.base_core.specs.Units.{up}
use Rattle.flash_core.specs.Images.{part}
use Rattle.kv_model.specs.Write.{Write}
use Rattle.record_core.specs.Header.{HasFields}
use Rattle.record_core.specs.Log.{AreRecords, IsRecordAt, extent}
use Rattle.record_core.specs.Record.{header_of}
use Rattle.record_core.proofs.HeaderLemmas.{flags_fit, header_has_fields}
use Rattle.record_core.proofs.LogLemmas.{AreRecords-forward, extent-positive, header_at, key_at, value_at}
use Rattle.tdb_read.specs.Records.{record_at, records_between, some_records}

not_less : (place end : ℕ) → end ≤ place → nat_lt place end ≡ false
not_less place end le = grind (arith, nat_tests)

is_less : (place end : ℕ) → place < end → nat_lt place end ≡ true
is_less place end lt = grind (arith, nat_tests)

module _ (prog : ℕ) (positive : 1 ≤ prog) (image : List ℕ) where
  -- a record that stands at a place is spelled there
  pub record_is : (place : ℕ) (r : Write) → IsRecordAt prog image place r → record_at prog image place ≡ r
  unfolding record_at
  record_is place r is =
      let header : List ℕ = part image place 24 in
      let fields : HasFields header (header_of r.flags r.key r.value) =
      header_has_fields header (header_of r.flags r.key r.value) (header_at prog positive image place r is) in
      let flags : from_le_bytes w32 (slice_range header 8 12) ≡ r.flags =
      ap (from_le_bytes w32) fields.flags ∙ from_le_bytes-to_le_bytes_4 r.flags (flags_fit is.valid_header) in
      let key_size : from_le_bytes w16 (slice_range header 12 14) ≡ length r.key =
      ap (from_le_bytes w16) fields.key_size ∙ from_le_bytes-to_le_bytes_2 (length r.key) (omega (arith, is.valid_header.key_most)) in
      let value_size : from_le_bytes w32 (slice_range header 16 20) ≡ length r.value =
      ap (from_le_bytes w32) fields.value_size ∙ from_le_bytes-to_le_bytes_4 (length r.value) (omega (arith, is.valid_header.value_most)) in
      let key : part image (place + up prog 24) (from_le_bytes w16 (slice_range header 12 14)) ≡ r.key =
      ap (part image (place + up prog 24)) key_size ∙ key_at prog positive image place r is in
      let value : part image (place + (up prog 24 + from_le_bytes w16 (slice_range header 12 14))) (from_le_bytes w32 (slice_range header 16 20)) ≡ r.value =
      (λ i. part image (place + (up prog 24 + key_size i)) (value_size i)) ∙ value_at prog positive image place r is in
      λ i. record { flags = flags i; key = key i; value = value i }

  some_are : (end most place : ℕ) (rs : List Write) → AreRecords prog image place end rs → end ≤ place + most → some_records prog image end most place ≡ rs
  unfolding some_records
  some_are end zero place [] each fits = refl
  some_are end zero place (r ∷ rs) each fits =
      let forward = AreRecords-forward prog positive image (place + extent prog r) end rs each.1 in
      absurd (omega (arith, forward, fits, extent-positive prog positive r))
  some_are end (suc most) place [] each fits =
      λ i. if not_less place end (omega (arith, each)) i
      then record_at prog image place ∷ some_records prog image end most (place + extent prog (record_at prog image place))
      else []
  some_are end (suc most) place (r ∷ rs) each fits =
      let forward = AreRecords-forward prog positive image (place + extent prog r) end rs each.1 in
      let long = extent-positive prog positive r in
      (λ i. if is_less place end (omega (arith, forward, long)) i
      then record_at prog image place ∷ some_records prog image end most (place + extent prog (record_at prog image place))
      else [])
      ∙ (λ i. record_is place r each.0 i ∷ some_records prog image end most (place + extent prog (record_is place r each.0 i)))
      ∙ ap (λ (l : List Write). r ∷ l) (some_are end most (place + extent prog r) rs each.1 (omega (arith, fits, long)))

  pub records_are : (place end : ℕ) (rs : List Write) → AreRecords prog image place end rs → records_between prog image place end ≡ rs
  unfolding records_between
  records_are place end rs each = some_are end end place rs each (omega arith)
