-- Records at places of an image, one behind another, and their map.
use Rattle.std.proofs.Common.{◌≡◌, ◌⊎◌, ℕ, ◌+◌, ◌-◌, ◌≤◌, List, [], ◌∷◌, ◌++◌, length, take, drop, refl, sym, ◌∙◌, ap, subst, arith, inl, inr, ⊎_elim, min, get_or, IsTrue, add-zero, ◌≢◌, Some, None, Bool, true, false, ◌==◌, if◌then◌else◌, eq-eqb, length-append}
use Rattle.std.proofs.lemmas.Bool.{ne_eqb, cases_lt}
use Rattle.std.proofs.lemmas.List.{length-take, length-drop}
use Rattle.std.proofs.Math.Seq.{take-append_seam, take-length}
use Rattle.flash_core.specs.Images.{IsErased, part, put, Torn}
use Rattle.flash_core.proofs.ImageLaws.{get_or-part, part-put_same, part-Torn}
use Rattle.kv_model.specs.FlaggedMap.{FlaggedMap}
use Rattle.kv_model.specs.Flags.{remove_flags}
use Rattle.kv_model.specs.Write.{Write, applied}
use Rattle.std.specs.FinMap as map
use Rattle.std.specs.Ordering.{nat_cmp, eq_by_cmp}
use Rattle.std.specs.Cmp.Lexicographic.{slice_cmp, nat_list_cmp_total}
use Rattle.std.proofs.lemmas.Map.Text.{is_eq-slice_cmp}
use Rattle.std.proofs.lemmas.Slice.Eq.{bytes_eq-Decides}
use Rattle.base_core.specs.Units.{up}
use Rattle.base_core.proofs.UnitLemmas.{up-ge}
use Rattle.kv_model.specs.Keys.{is_key}
use Rattle.record_core.specs.Header.{IsHeader, header_front, header_bytes}
use Rattle.record_core.specs.declared.header.Header.{Header}
use Rattle.record_core.proofs.HeaderLemmas.{SameSizes, same_sizes}
use Rattle.record_core.specs.Record.{header_of, IsRecord}
use Rattle.record_core.specs.Log.{extent, spelling_of, IsRecordAt, AreRecords, AreAllRecords}
use Rattle.record_core.proofs.RecordLemmas.{part-part, part-key, part-value, part-header, length-record_bytes}

pub first_byte : (header : Header) → get_or (header_bytes header) 0 0 ≡ 75
unfolding header_front header_bytes
first_byte header = refl

empty_of_length : (l : List ℕ) → length l ≡ 0 → l ≡ []
empty_of_length [] none = refl
empty_of_length (x ∷ l) none = absurd (omega arith)

-- ---- the map

not_true : (b : Bool) → (b ≡ true → ⊥) → b ≡ false
not_true true never = absurd (never refl)
not_true false never = refl

same_key : (key : List ℕ) → eq_by_cmp (slice_cmp nat_cmp) key key ≡ true
same_key key = is_eq-slice_cmp key key ∙ (bytes_eq-Decides key key).1 refl

other_key : (a b : List ℕ) → a ≢ b → eq_by_cmp (slice_cmp nat_cmp) a b ≡ false
other_key a b apart = not_true _ (λ same. apart ((bytes_eq-Decides a b).0 (sym (is_eq-slice_cmp a b) ∙ same)))

module _ (m : FlaggedMap) (r : Write) where
  pub get-applied_stored : r.flags ≢ remove_flags → map.get (applied r m) r.key ≡ Some (record { flags = r.flags; bytes = r.value })
  get-applied_stored stored =
      let kept : (r.flags == remove_flags) ≡ false = ne_eqb r.flags remove_flags stored in
      ap (λ (removes : Bool). map.get (if removes then map.remove m r.key else map.insert m r.key (record { flags = r.flags; bytes = r.value })) r.key) kept
      ∙ map.get-insert nat_list_cmp_total m r.key (record { flags = r.flags; bytes = r.value }) r.key
      ∙ ap (λ (same : Bool). if same then Some (record { flags = r.flags; bytes = r.value }) else map.get m r.key) (same_key r.key)

  pub get-applied_removed : r.flags ≡ remove_flags → map.get (applied r m) r.key ≡ None
  get-applied_removed removed =
      ap (λ (removes : Bool). map.get (if removes then map.remove m r.key else map.insert m r.key (record { flags = r.flags; bytes = r.value })) r.key) (eq-eqb r.flags remove_flags removed)
      ∙ map.get-remove nat_list_cmp_total m r.key r.key
      ∙ ap (λ (same : Bool). if same then None else map.get m r.key) (same_key r.key)

  pub get-applied_other : (key : List ℕ) → key ≢ r.key → map.get (applied r m) key ≡ map.get m key
  get-applied_other key other = of_other (r.flags == remove_flags)
    where
      of_other : (removes : Bool) → map.get (if removes then map.remove m r.key else map.insert m r.key (record { flags = r.flags; bytes = r.value })) key ≡ map.get m key
      of_other true = map.get-remove nat_list_cmp_total m r.key key ∙ ap (λ (same : Bool). if same then None else map.get m key) (other_key key r.key other)
      of_other false = map.get-insert nat_list_cmp_total m r.key (record { flags = r.flags; bytes = r.value }) key ∙ ap (λ (same : Bool). if same then Some (record { flags = r.flags; bytes = r.value }) else map.get m key) (other_key key r.key other)

-- ---- records one behind another

pub AreRecords-append : (prog : ℕ) (image : List ℕ) (place mid end : ℕ) (rs ss : List Write) → AreRecords prog image place mid rs → AreRecords prog image mid end ss → AreRecords prog image place end (rs ++ ss)
AreRecords-append prog image place mid end [] ss is more = subst (λ (p : ℕ). AreRecords prog image p end ss) (sym is) more
AreRecords-append prog image place mid end (r ∷ rs) ss records more =
    (records.0, AreRecords-append prog image (place + extent prog r) mid end rs ss records.1 more)

module _ (prog : ℕ) (positive : 1 ≤ prog) where
  pub extent-positive : (r : Write) → 24 ≤ extent prog r
  extent-positive r = omega (arith, up-ge prog 24 positive)

  -- a record lies in the image
  pub IsRecordAt-fits : (image : List ℕ) (place : ℕ) (r : Write) → IsRecordAt prog image place r → place + extent prog r ≤ length image
  IsRecordAt-fits image place r is =
      let long : length (part image place (extent prog r)) ≡ extent prog r =
      ap length is.spelling ∙ length-record_bytes prog positive r.flags r.key r.value in
      let n : ℕ = extent prog r in
      let shorter : min n (length image - place) ≡ n = sym (length-take n (drop place image) ∙ ap (min n) (length-drop place image)) ∙ long in
      omega (arith, shorter, extent-positive r)

  pub AreRecords-forward : (image : List ℕ) (place end : ℕ) (rs : List Write) → AreRecords prog image place end rs → place ≤ end
  AreRecords-forward image place end [] is = omega arith
  AreRecords-forward image place end (r ∷ rs) records = omega (arith, AreRecords-forward image (place + extent prog r) end rs records.1)

  -- a record that was programmed stands
  pub IsRecordAt-put : (image : List ℕ) (place : ℕ) (r : Write) → IsTrue (is_key r.key) → IsHeader r.flags (length r.key) (length r.value) → place + extent prog r ≤ length image → IsRecordAt prog (put image place (spelling_of prog r)) place r
  IsRecordAt-put image place r valid_key valid_header fits =
      let long : length (spelling_of prog r) ≡ extent prog r = length-record_bytes prog positive r.flags r.key r.value in
      record {
        valid_key = valid_key;
        valid_header = valid_header;
        spelling =
            ap (part (put image place (spelling_of prog r)) place) (sym long)
            ∙ part-put_same image place (spelling_of prog r) (omega (arith, fits, long));
      }

  -- a record stays where another range is torn or programmed
  pub IsRecordAt-Torn : (q n : ℕ) (old new : List ℕ) (place : ℕ) (r : Write) → Torn q n old new → (place + extent prog r ≤ q) ⊎ (q + n ≤ place) → IsRecordAt prog old place r → IsRecordAt prog new place r
  IsRecordAt-Torn q n old new place r torn apart is = record {
    valid_key = is.valid_key;
    valid_header = is.valid_header;
    spelling = part-Torn q n old new place (extent prog r) torn apart (IsRecordAt-fits old place r is) ∙ is.spelling;
  }

  pub AreRecords-Torn : (q n : ℕ) (old new : List ℕ) (place end : ℕ) (rs : List Write) → Torn q n old new → (end ≤ q) ⊎ (q + n ≤ place) → AreRecords prog old place end rs → AreRecords prog new place end rs
  AreRecords-Torn q n old new place end [] torn apart is = is
  AreRecords-Torn q n old new place end (r ∷ rs) torn apart records =
      let forward : place + extent prog r ≤ end = AreRecords-forward old (place + extent prog r) end rs records.1 in
      let first : (place + extent prog r ≤ q) ⊎ (q + n ≤ place) = ⊎_elim (λ before. inl (omega (arith, before, forward))) (λ behind. inr behind) apart in
      let others : (end ≤ q) ⊎ (q + n ≤ place + extent prog r) = ⊎_elim (λ before. inl before) (λ behind. inr (omega (arith, behind))) apart in
      (IsRecordAt-Torn q n old new place r torn first records.0, AreRecords-Torn q n old new (place + extent prog r) end rs torn others records.1)

  -- a part of a record is that part of its spelling
  part_at : (image : List ℕ) (place : ℕ) (r : Write) (i m : ℕ) → i + m ≤ extent prog r → IsRecordAt prog image place r → part image (place + i) m ≡ part (spelling_of prog r) i m
  part_at image place r i m within is =
      sym (part-part image place (extent prog r) i m within) ∙ ap (λ (l : List ℕ). part l i m) is.spelling

  -- the key and the value of a record are parts of the image
  pub key_at : (image : List ℕ) (place : ℕ) (r : Write) → IsRecordAt prog image place r → part image (place + up prog 24) (length r.key) ≡ r.key
  key_at image place r is =
      part_at image place r (up prog 24) (length r.key) (omega (arith, up-ge prog (length r.key + length r.value) positive)) is
      ∙ part-key prog r.flags r.key r.value positive

  pub value_at : (image : List ℕ) (place : ℕ) (r : Write) → IsRecordAt prog image place r → part image (place + (up prog 24 + length r.key)) (length r.value) ≡ r.value
  value_at image place r is =
      part_at image place r (up prog 24 + length r.key) (length r.value) (omega (arith, up-ge prog (length r.key + length r.value) positive)) is
      ∙ part-value prog r.flags r.key r.value positive

  pub header_at : (image : List ℕ) (place : ℕ) (r : Write) → IsRecordAt prog image place r → part image place 24 ≡ header_bytes (header_of r.flags r.key r.value)
  header_at image place r is =
      ap (λ (p : ℕ). part image p 24) (sym (add-zero place))
      ∙ part_at image place r 0 24 (omega (arith, up-ge prog 24 positive)) is
      ∙ part-header prog r.flags r.key r.value

  -- where the first byte is erased there is no record
  pub no_record_erased : (image : List ℕ) (place : ℕ) (r : Write) → get_or image place 0 ≡ 255 → IsRecordAt prog image place r → ⊥
  no_record_erased image place r erased is =
      let magic : get_or (part image place 24) 0 0 ≡ 75 = ap (λ (l : List ℕ). get_or l 0 0) (header_at image place r is) ∙ first_byte (header_of r.flags r.key r.value) in
      let byte : get_or (part image place 24) 0 0 ≡ get_or image place 0 = get_or-part image place 24 0 (omega arith) ∙ ap (λ (p : ℕ). get_or image p 0) (add-zero place) in
      omega (arith, magic, byte, erased)

  -- at a place stands at most one record
  pub one_record : (image : List ℕ) (place : ℕ) (r s : Write) → IsRecordAt prog image place r → IsRecordAt prog image place s → r ≡ s
  one_record image place r s is_r is_s =
      let sizes : SameSizes (header_of r.flags r.key r.value) (header_of s.flags s.key s.value) =
      same_sizes _ _ is_r.valid_header is_s.valid_header (sym (header_at image place r is_r) ∙ header_at image place s is_s) in
      let key : r.key ≡ s.key =
      sym (key_at image place r is_r) ∙ ap (part image (place + up prog 24)) sizes.key_size ∙ key_at image place s is_s in
      let value : r.value ≡ s.value =
      sym (value_at image place r is_r)
      ∙ ap (λ (n : ℕ). part image (place + (up prog 24 + n)) (length r.value)) sizes.key_size
      ∙ ap (part image (place + (up prog 24 + length s.key))) sizes.value_size
      ∙ value_at image place s is_s in
      λ i. record { flags = sizes.flags i; key = key i; value = value i }

  -- no record's spelling is a proper prefix of another's
  pub no_prefix : (r s : Write) (front rest : List ℕ) → IsRecord prog r.flags r.key r.value front → IsRecord prog s.flags s.key s.value (front ++ rest) → rest ≡ []
  no_prefix r s front rest is_r is_s =
      let whole : List ℕ = front ++ rest in
      let long_r : length front ≡ extent prog r = ap length is_r.spelling ∙ length-record_bytes prog positive r.flags r.key r.value in
      let long_s : length whole ≡ extent prog s = ap length is_s.spelling ∙ length-record_bytes prog positive s.flags s.key s.value in
      let at_r : part whole 0 (extent prog r) ≡ front = ap (λ (n : ℕ). take n whole) (sym long_r) ∙ take-append_seam front rest in
      let at_s : part whole 0 (extent prog s) ≡ whole = ap (λ (n : ℕ). take n whole) (sym long_s) ∙ take-length whole in
      let same : r ≡ s = one_record whole 0 r s
      (record { valid_key = is_r.valid_key; valid_header = is_r.valid_header; spelling = at_r ∙ is_r.spelling })
      (record { valid_key = is_s.valid_key; valid_header = is_s.valid_header; spelling = at_s ∙ is_s.spelling }) in
      let none : length rest ≡ 0 = omega (arith, long_r, long_s, length-append front rest, ap (extent prog) same) in
      empty_of_length rest none

  -- records up to an erased tail are all
  pub all_before_erased : (image : List ℕ) (place limit end : ℕ) (rs : List Write) → AreRecords prog image place end rs → end ≤ limit → IsErased image end (limit - end) → AreAllRecords prog image place limit end rs
  all_before_erased image place limit end rs records inside erased = record {
    each = records;
    inside = inside;
    no_more = λ r is. elim (cases_lt end limit) [
      | inl room ↦ absurd (no_record_erased image end r (erased end (omega arith) (omega arith)) is)
      | inr full ↦ omega (arith, full, extent-positive r)
    ];
  }

  -- from a place all records up to the first place that has none are one list
  pub one_list : (image : List ℕ) (place limit end other_end : ℕ) (rs ss : List Write) → AreAllRecords prog image place limit end rs → AreAllRecords prog image place limit other_end ss → (rs ≡ ss) × (end ≡ other_end)
  one_list image place limit end other_end [] [] all other = (refl, sym all.each ∙ other.each)
  one_list image place limit end other_end [] (s ∷ ss) all other =
      let forward : place + extent prog s ≤ other_end = AreRecords-forward image (place + extent prog s) other_end ss other.each.1 in
      absurd (omega (arith, forward, other.inside, all.each, all.no_more s (subst (λ (p : ℕ). IsRecordAt prog image p s) all.each other.each.0)))
  one_list image place limit end other_end (r ∷ rs) [] all other =
      let forward : place + extent prog r ≤ end = AreRecords-forward image (place + extent prog r) end rs all.each.1 in
      absurd (omega (arith, forward, all.inside, other.each, other.no_more r (subst (λ (p : ℕ). IsRecordAt prog image p r) other.each all.each.0)))
  one_list image place limit end other_end (r ∷ rs) (s ∷ ss) all other =
      let same : r ≡ s = one_record image place r s all.each.0 other.each.0 in
      let rest = one_list image (place + extent prog r) limit end other_end rs ss
      (record { each = all.each.1; inside = all.inside; no_more = all.no_more })
      (record {
        each = subst (λ (x : Write). AreRecords prog image (place + extent prog x) other_end ss) (sym same) other.each.1;
        inside = other.inside;
        no_more = other.no_more;
      }) in
      (λ i. same i ∷ rest.0 i, rest.1)
