-- Every image holds something: whether a master or a record stands at a place is settled by the bytes there.
use Rattle.std.proofs.Common.{◌≡◌, ◌⊎◌, ℕ, zero, suc, ◌+◌, ◌*◌, ◌<◌, ◌≤◌, ◌^◌, Bool, true, false, List, [], ◌∷◌, length, take, slice_range, refl, sym, ◌∙◌, ap, subst, arith, inl, inr, IsTrue, Some, None}
use Rattle.std.specs.Prelude.{Option}
use Rattle.std.specs.Int.{w16, w32, from_le_bytes}
use Rattle.std.specs.Str.{bytes_eq}
use Rattle.std.proofs.lemmas.Bool.{cases_lt, cases_eq}
use Rattle.std.proofs.lemmas.Nat.{from_le_bytes-to_le_bytes_2, from_le_bytes-to_le_bytes_4}
use Rattle.std.proofs.lemmas.Slice.Eq.{bytes_eq-Decides}
use mathlib.Core.Bool.{false≢true}
use Rattle.flash_core.specs.declared.geometry.Geometry.{Geometry}
use Rattle.flash_core.specs.Images.{part}
use Rattle.flash_core.specs.Sizes.{IsValid, area_size}
use Rattle.flash_core.proofs.GeometryLaws.{prog_positive}
use Rattle.kv_model.specs.declared.limits.TheConstants.{MAX_VALUE}
use Rattle.kv_model.specs.Flags.{remove_flags}
use Rattle.kv_model.specs.Write.{Write}
use Rattle.kv_model.specs.Keys.{is_key, master_key}
use Rattle.base_core.specs.Units.{up}
use Rattle.base_core.specs.Sizes.{master_size}
use Rattle.record_core.specs.Header.{IsHeader, HasFields}
use Rattle.record_core.specs.Log.{AreAllRecords, IsRecordAt, extent}
use Rattle.record_core.specs.Mounts.{MasterAt, ActiveRecords, Contents, Holds, active_area}
use Rattle.record_core.specs.Record.{IsMaster, header_of, master_bytes, master_value, record_bytes}
use Rattle.record_core.proofs.HeaderLemmas.{flags_fit, header_has_fields}
use Rattle.record_core.proofs.LogLemmas.{extent-positive, header_at, key_at, value_at}
use Rattle.record_core.proofs.RecordLemmas.{part-value}

-- ---- what is true or not

abbrev pub Known : Type 0 → Type 0
Known P = P ⊎ (P → ⊥)

pub known_as : {P Q : Type 0} → (P → Q) → (Q → P) → Known P → Known Q
known_as to from (inl is) = inl (to is)
known_as to from (inr not) = inr (λ is. not (from is))

pub known_both : {P Q : Type 0} → Known P → Known Q → Known (P × Q)
known_both (inl p) (inl q) = inl (p, q)
known_both (inl p) (inr not) = inr (λ both. not both.1)
known_both (inr not) q = inr (λ both. not both.0)

pub known_one : {P Q : Type 0} → Known P → Known Q → Known (P ⊎ Q)
known_one (inl p) q = inl (inl p)
known_one (inr not) (inl q) = inl (inr q)
known_one {P} {Q} (inr no_p) (inr no_q) = inr neither
  where
    neither : P ⊎ Q → ⊥
    neither (inl p) = no_p p
    neither (inr q) = no_q q

pub known_if : {P Q : Type 0} → Known P → Known Q → Known (P → Q)
known_if p (inl q) = inl (λ _. q)
known_if (inl p) (inr not) = inr (λ implies. not (implies p))
known_if (inr none) (inr not) = inl (λ p. absurd (none p))

pub known_true : (b : Bool) → Known (IsTrue b)
known_true true = inl refl
known_true false = inr (λ is. false≢true is)

pub known_le : (m n : ℕ) → Known (m ≤ n)
known_le m n = elim (cases_lt n m) [
  | inl more ↦ inr (λ le. absurd (omega (arith, le, more)))
  | inr le ↦ inl le
]

pub known_lt : (m n : ℕ) → Known (m < n)
known_lt m n = elim (cases_lt m n) [
  | inl less ↦ inl less
  | inr not_less ↦ inr (λ less. absurd (omega (arith, less, not_less)))
]

by_test : {P : Type 0} → (b : Bool) → (b ≡ true → P) → (P → b ≡ true) → Known P
by_test true to from = inl (to refl)
by_test false to from = inr (λ p. false≢true (from p))

pub known_bytes : (xs ys : List ℕ) → Known (xs ≡ ys)
known_bytes xs ys = by_test (bytes_eq xs ys) (bytes_eq-Decides xs ys).0 (bytes_eq-Decides xs ys).1

-- ---- a header's sizes and flags

known_header : (flags key_size value_size : ℕ) → Known (IsHeader flags key_size value_size)
known_header flags key_size value_size =
    known_as
    (λ all. record { kind = all.0; key_least = all.1.0; key_most = all.1.1.0; value_most = all.1.1.1.0; remove_is_empty = all.1.1.1.1 })
    (λ is. (is.kind, (is.key_least, (is.key_most, (is.value_most, is.remove_is_empty)))))
    (known_both (known_one (cases_eq flags 0) (known_one (cases_eq flags 1) (cases_eq flags remove_flags)))
    (known_both (known_le 1 key_size)
    (known_both (known_le key_size 128)
    (known_both (known_le value_size MAX_VALUE)
    (known_if (cases_eq flags remove_flags) (cases_eq value_size 0))))))

-- ---- masters

module _ (prog : ℕ) (positive : 1 ≤ prog) (image : List ℕ) where
  -- the version of the master record at this place, if any stands there
  version_at : ℕ → ℕ
  version_at area = from_le_bytes w16 (take 2 (part (part image area (master_size prog)) (up prog 24 + 4) 8))

  version_is : (area version : ℕ) → IsMaster prog version (part image area (master_size prog)) → version_at area ≡ version
  unfolding version_at
  version_is area version is =
      ap (λ (l : List ℕ). from_le_bytes w16 (take 2 (part l (up prog 24 + 4) 8))) is.spelling
      ∙ ap (λ (l : List ℕ). from_le_bytes w16 (take 2 l)) (part-value prog 0 master_key (master_value version) positive)
      ∙ from_le_bytes-to_le_bytes_2 version is.in_range

  pub some_master : (area : ℕ) → (version : Option ℕ) × MasterAt prog image area version
  some_master area = of_known known
    where
      spelled : List ℕ
      spelled = part image area (master_size prog)

      known : Known (version_at area < 2 ^ 16 × (spelled ≡ master_bytes prog (version_at area)))
      known = known_both (known_lt (version_at area) (2 ^ 16)) (known_bytes spelled (master_bytes prog (version_at area)))

      of_known : Known (version_at area < 2 ^ 16 × (spelled ≡ master_bytes prog (version_at area))) → (version : Option ℕ) × MasterAt prog image area version
      of_known (inl is) = (Some (version_at area), record { in_range = is.0; spelling = is.1 })
      of_known (inr not) = (
        None,
        λ version is. not (
          subst (λ (v : ℕ). v < 2 ^ 16) (sym (version_is area version is)) is.in_range,
          is.spelling ∙ ap (master_bytes prog) (sym (version_is area version is)),
        ),
      )

  -- ---- records

  header_part : ℕ → List ℕ
  header_part place = part image place 24

  -- the record at this place, if any stands there
  record_at : ℕ → Write
  record_at place =
      let key_size : ℕ = from_le_bytes w16 (slice_range (header_part place) 12 14) in
      record {
        flags = from_le_bytes w32 (slice_range (header_part place) 8 12);
        key = part image (place + up prog 24) key_size;
        value = part image (place + (up prog 24 + key_size)) (from_le_bytes w32 (slice_range (header_part place) 16 20));
      }

  record_is : (place : ℕ) (r : Write) → IsRecordAt prog image place r → record_at place ≡ r
  unfolding header_part record_at
  record_is place r is =
      let fields : HasFields (header_part place) (header_of r.flags r.key r.value) =
      header_has_fields (header_part place) (header_of r.flags r.key r.value) (header_at prog positive image place r is) in
      let flags : from_le_bytes w32 (slice_range (header_part place) 8 12) ≡ r.flags =
      ap (from_le_bytes w32) fields.flags ∙ from_le_bytes-to_le_bytes_4 r.flags (flags_fit is.valid_header) in
      let key_size : from_le_bytes w16 (slice_range (header_part place) 12 14) ≡ length r.key =
      ap (from_le_bytes w16) fields.key_size ∙ from_le_bytes-to_le_bytes_2 (length r.key) (omega (arith, is.valid_header.key_most)) in
      let value_size : from_le_bytes w32 (slice_range (header_part place) 16 20) ≡ length r.value =
      ap (from_le_bytes w32) fields.value_size ∙ from_le_bytes-to_le_bytes_4 (length r.value) (omega (arith, is.valid_header.value_most)) in
      let key : part image (place + up prog 24) (from_le_bytes w16 (slice_range (header_part place) 12 14)) ≡ r.key =
      ap (part image (place + up prog 24)) key_size ∙ key_at prog positive image place r is in
      let value : part image (place + (up prog 24 + from_le_bytes w16 (slice_range (header_part place) 12 14))) (from_le_bytes w32 (slice_range (header_part place) 16 20)) ≡ r.value =
      (λ i. part image (place + (up prog 24 + key_size i)) (value_size i)) ∙ value_at prog positive image place r is in
      λ i. record { flags = flags i; key = key i; value = value i }

  known_record : (place : ℕ) (r : Write) → Known (IsRecordAt prog image place r)
  known_record place r =
      known_as
      (λ all. record { valid_key = all.0; valid_header = all.1.0; spelling = all.1.1 })
      (λ is. (is.valid_key, (is.valid_header, is.spelling)))
      (known_both (known_true (is_key r.key))
      (known_both (known_header r.flags (length r.key) (length r.value))
      (known_bytes (part image place (extent prog r)) (record_bytes prog r.flags r.key r.value))))

  -- a record that stands at this place and ends inside the limit, or none does
  abbrev pub EndsInside : ℕ → ℕ → Write → Type 0
  EndsInside place limit r = IsRecordAt prog image place r × (place + extent prog r ≤ limit)

  pub next_record : (place limit : ℕ) → ((r : Write) × EndsInside place limit r) ⊎ ((r : Write) → IsRecordAt prog image place r → limit < place + extent prog r)
  next_record place limit = of_known (known_both (known_record place (record_at place)) (known_le (place + extent prog (record_at place)) limit))
    where
      of_known : Known (IsRecordAt prog image place (record_at place) × (place + extent prog (record_at place) ≤ limit)) → ((r : Write) × EndsInside place limit r) ⊎ ((r : Write) → IsRecordAt prog image place r → limit < place + extent prog r)
      of_known (inl is) = inl (record_at place, is)
      of_known (inr not) = inr (λ r is. elim (cases_lt limit (place + extent prog r)) [
        | inl beyond ↦ beyond
        | inr inside ↦ absurd (not (subst (λ (w : Write). IsRecordAt prog image place w × (place + extent prog w ≤ limit)) (sym (record_is place r is)) (is, inside)))
      ])

  pub record SomeRecords (place limit : ℕ) : Type 0 where
    pub end : ℕ
    pub records : List Write
    pub are : AreAllRecords prog image place limit end records

  -- the record at this place, if there is one, and those behind it
  one_more : (place limit : ℕ) → place ≤ limit → ((r : Write) → EndsInside place limit r → SomeRecords (place + extent prog r) limit)
      → ((r : Write) × EndsInside place limit r) ⊎ ((r : Write) → IsRecordAt prog image place r → limit < place + extent prog r) → SomeRecords place limit
  one_more place limit within rest (inr none) = record { end = place; records = []; are = record { each = refl; inside = within; no_more = none } }
  one_more place limit within rest (inl is) =
      let behind : SomeRecords (place + extent prog is.0) limit = rest is.0 is.1 in
      record {
        end = behind.end;
        records = is.0 ∷ behind.records;
        are = record { each = (is.1.0, behind.are.each); inside = behind.are.inside; no_more = behind.are.no_more };
      }

  -- each record takes some of the bytes up to the limit
  records_within : (fuel place limit : ℕ) → place ≤ limit → limit ≤ place + fuel → SomeRecords place limit
  records_within zero place limit within fits =
      one_more place limit within (λ r is. absurd (omega (arith, is.1, fits, extent-positive prog positive r))) (next_record place limit)
  records_within (suc n) place limit within fits =
      one_more place limit within (λ r is. records_within n (place + extent prog r) limit is.1 (omega (arith, fits, extent-positive prog positive r))) (next_record place limit)

  pub some_records : (place limit : ℕ) → place ≤ limit → SomeRecords place limit
  some_records place limit within = records_within limit place limit within (omega arith)

-- ---- a whole image

module _ (g : Geometry) (valid : IsValid g) where
  positive : 1 ≤ g.prog
  positive = prog_positive g valid

  -- a master record fits in an area
  pub master_within : master_size g.prog ≤ area_size g
  master_within = valid.master_fits

  active_records : (image : List ℕ) (active : Option ℕ) → (end : ℕ) × (records : List Write) × ActiveRecords g image active end records
  active_records image None = (0, [], (refl, refl))
  active_records image (Some area) =
      let found : SomeRecords g.prog positive image (area * area_size g + master_size g.prog) (area * area_size g + area_size g) =
      some_records g.prog positive image _ _ (omega (arith, master_within)) in
      (found.end, found.records, found.are)

  -- every list of bytes holds something
  pub some_contents : (image : List ℕ) → (contents : Contents) × Holds g image contents
  some_contents image =
      let first = some_master g.prog positive image 0 in
      let second = some_master g.prog positive image (area_size g) in
      let log = active_records image (active_area first.0 second.0) in (
        record { first = first.0; second = second.0; records = log.1; end = log.0 },
        record { first_master = first.1; second_master = second.1; active = log.2 },
      )
