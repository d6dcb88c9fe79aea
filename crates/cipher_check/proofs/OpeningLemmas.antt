-- A record that is opened in place.
use Rattle.std.proofs.Common.{◌≡◌, ℕ, ◌+◌, ◌-◌, min, inl, inr, List, ◌++◌, length, take, drop, slice_range, sym, ap, ap₂, ◌∙◌, arith, append_assoc}
use Rattle.std.specs.Prelude.{Some}
use Rattle.std.proofs.lemmas.Bool.{cases_lt}
use Rattle.std.proofs.lemmas.List.{take_at, drop_at, take_all, length-append}
use Rattle.secure_record.specs.declared.metadata.Metadata.{Metadata}
use Rattle.secure_record.specs.Metadata.{metadata_size, spelling}
use Rattle.secure_record.specs.Sealed.{opened}
use Rattle.secure_record.specs.Streams.{record_read}
use Rattle.secure_record.specs.Unseal.{IsInParts, opened_as, unseal}
use Rattle.secure_record.proofs.RecordLemmas.{length-spelling}
use Rattle.cipher_check.specs.Opening.{IsOpening}
use Rattle.cipher_check.specs.declared.records.Opening.{Opening}

-- the head is cut at 40 bytes or at the end
pub head_cut : (bytes : List ℕ) (n : ℕ) → n ≡ min (length bytes) 40 → take n bytes ≡ take 40 bytes
head_cut bytes n is =
    elim (cases_lt (length bytes) 40) [
      | inl short ↦ take_all n bytes (omega arith) ∙ sym (take_all 40 bytes (omega arith))
      | inr long ↦ let same : n ≡ 40 = omega arith in ap (λ (k : ℕ). take k bytes) same
    ]

-- a whole record, cut behind its metadata and behind its stored bytes
pub record IsCut (whole front bytes last : List ℕ) (m : Metadata) : Type 0 where
  pub parts : IsInParts whole m
  pub joined : whole ≡ front ++ (bytes ++ last)
  pub front_long : length front ≡ metadata_size m.revision
  pub bytes_long : length bytes ≡ m.size

pub read_is : (whole front bytes last : List ℕ) (m : Metadata) → IsCut whole front bytes last m → record_read m bytes last ≡ whole
read_is whole front bytes last m h =
    let n : ℕ = metadata_size m.revision in
    let one : take n whole ≡ front = ap (take n) h.joined ∙ take_at front (bytes ++ last) n h.front_long in
    let two : take n whole ≡ spelling m =
    ap (take n) (h.parts.joined ∙ append_assoc (spelling m) _ _) ∙ take_at (spelling m) _ n (length-spelling m h.parts.valid) in
    ap (λ (xs : List ℕ). xs ++ bytes ++ last) (sym two ∙ one) ∙ append_assoc front bytes last ∙ sym h.joined

pub is_opening : (root key whole front bytes last value : List ℕ) (m : Metadata) (opening : Opening) → IsCut whole front bytes last m
    → opening.start ≡ metadata_size m.revision → opening.size ≡ m.size → opening.flags.bits ≡ m.flags
    → value ≡ opened root key m.flags m.vector bytes → length value ≡ length bytes
    → unseal root key (record_read m bytes last) ≡ Some (opened_as root key m bytes)
    → IsOpening opening (front ++ (value ++ last)) (unseal root key whole)
is_opening root key whole front bytes last value m opening h start size flags value_is long found =
    let s : ℕ = opening.start in
    let width : s + opening.size - s ≡ opening.size = omega arith in
    let place : slice_range (front ++ (value ++ last)) s (s + opening.size) ≡ value =
    ap (λ (k : ℕ). take k (drop s (front ++ (value ++ last)))) width
    ∙ ap (take opening.size) (drop_at front (value ++ last) s (h.front_long ∙ sym start))
    ∙ take_at value last opening.size (long ∙ h.bytes_long ∙ sym size) in
    record {
      within = omega (arith, length-append front (value ++ last), length-append value last, h.front_long, h.bytes_long, long, start, size);
      vector = m.vector;
      found_is =
          ap (unseal root key) (sym (read_is whole front bytes last m h)) ∙ found
          ∙ ap₂ (λ (f : ℕ) (v : List ℕ). Some (record { flags = f; vector = m.vector; value = v })) (sym flags) (sym value_is ∙ sym place);
    }
