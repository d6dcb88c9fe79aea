-- Whole records and what they open to.
use Rattle.std.proofs.Common.{◌≡◌, ℕ, suc, ◌+◌, ◌-◌, ◌<◌, ◌≤◌, ◌^◌, ◌⊎◌, inl, inr, Bool, true, false, List, ◌++◌, length, take, drop, slice_range, refl, sym, ap, ap₂, ◌∙◌, subst, arith, append_assoc, if◌then◌else◌}
use Rattle.std.specs.Prelude.{Option, Some, None}
use Rattle.std.specs.Int.{w64, to_be_bytes, from_be_bytes}
use Rattle.std.specs.Str.{bytes_eq}
use Rattle.std.specs.Bool.{Decides}
use Rattle.std.proofs.lemmas.Slice.Eq.{bytes_eq-Decides}
use Rattle.std.proofs.lemmas.List.{take_at, drop_at, take-append-drop, length-take, length-drop, length-append, drop-drop, take-take}
use Rattle.cipher_core.specs.Cmac.{cmac}
use Rattle.secure_record.specs.declared.metadata.Revision.{Revision}
use Rattle.secure_record.specs.declared.metadata.Revision.TheVariants.{First, Second}
use Rattle.secure_record.specs.declared.metadata.Metadata.{Metadata}
use Rattle.secure_record.specs.Metadata.{metadata_size, spelling, first_in, second_in, record_size, is_metadata, metadata_of, HasPrior, IsHead, IsMetadata}
use Rattle.secure_record.specs.Sealed.{stored, opened, record_tag, sealed}
use Rattle.secure_record.specs.Unseal.{Opened, opened_as, stored_in, tag_in, unseal, unseal_by, IsInParts, WasSealed}
use Rattle.secure_record.proofs.MetadataLemmas.{StandsIn, stands, is_metadata-true, metadata_of-first, metadata_of-second, first_read, second_read, second_is_not_first}
use Rattle.secure_record.proofs.BodyLemmas.{stored-twice, length-stored}

-- ---- the bytes of metadata

length-by : (r : Revision) (size flags vector : ℕ) (prior : Option (List ℕ)) → HasPrior r prior
    → length (spelling (record { revision = r; size = size; flags = flags; vector = vector; prior = prior })) ≡ metadata_size r
unfolding spelling
length-by First size flags vector prior has = refl
length-by Second size flags vector None has = refl
length-by Second size flags vector (Some prior) has = ap (λ (n : ℕ). suc (suc (suc (suc (suc (suc (suc (suc (suc (suc (suc (suc (suc (suc (suc (suc (suc (suc (suc (suc (suc (suc (suc (suc n)))))))))))))))))))))))) has.1

pub length-spelling : (m : Metadata) → IsMetadata m → length (spelling m) ≡ metadata_size m.revision
length-spelling m valid = length-by m.revision m.size m.flags m.vector m.prior valid.prior

-- ---- metadata that stands in front is found

spelled_found : (r : Revision) (size flags vector : ℕ) (prior : Option (List ℕ)) (rest : List ℕ) (total : ℕ)
    → let m : Metadata = record { revision = r; size = size; flags = flags; vector = vector; prior = prior } in
    IsMetadata m → total ≡ record_size m → metadata_of (spelling m ++ rest) total ≡ Some m
spelled_found First size flags vector None rest total valid whole =
    let m : Metadata = record { revision = First; size = size; flags = flags; vector = vector; prior = None } in
    let is = first_read size flags vector rest valid.size valid.flags valid.vector in
    let test : is_metadata m (spelling m ++ rest) total ≡ true =
    is_metadata-true m (spelling m ++ rest) total (record { spelled = take_at (spelling m) rest 20 (length-spelling m valid); most = valid.size; flags = valid.flags; whole = whole }) in
    metadata_of-first (spelling m ++ rest) total (ap (λ (x : Metadata). is_metadata x (spelling m ++ rest) total) is ∙ test) ∙ ap Some is
spelled_found First size flags vector (Some prior) rest total valid whole = absurd (cc valid.prior.0)
spelled_found Second size flags vector prior rest total valid whole =
    let m : Metadata = record { revision = Second; size = size; flags = flags; vector = vector; prior = prior } in
    let is = second_read size flags vector prior rest valid.size valid.flags valid.vector valid.prior in
    let test : is_metadata m (spelling m ++ rest) total ≡ true =
    is_metadata-true m (spelling m ++ rest) total (record { spelled = take_at (spelling m) rest 40 (length-spelling m valid); most = valid.size; flags = valid.flags; whole = whole }) in
    metadata_of-second (spelling m ++ rest) total (second_is_not_first size flags vector prior rest total)
    (ap (λ (x : Metadata). is_metadata x (spelling m ++ rest) total) is ∙ test) ∙ ap Some is

-- a head that begins with metadata, in a record of its size
pub metadata_found : (m : Metadata) (head : List ℕ) (total : ℕ) → IsMetadata m → take (metadata_size m.revision) head ≡ spelling m → total ≡ record_size m
    → metadata_of head total ≡ Some m
metadata_found m head total valid front whole =
    let n : ℕ = metadata_size m.revision in
    let cut : head ≡ spelling m ++ drop n head = sym (take-append-drop n head) ∙ ap (λ (xs : List ℕ). xs ++ drop n head) front in
    ap (λ (xs : List ℕ). metadata_of xs total) cut
    ∙ spelled_found m.revision m.size m.flags m.vector m.prior (drop n head) total valid whole

-- ---- what is found stands in front

two_cases : (head : List ℕ) (total : ℕ) (m : Metadata) (first second : Bool) → is_metadata (first_in head) head total ≡ first → is_metadata (second_in head) head total ≡ second
    → (if first then Some (first_in head) else if second then Some (second_in head) else None) ≡ Some m
    → ((m ≡ first_in head) × (is_metadata (first_in head) head total ≡ true)) ⊎ ((m ≡ second_in head) × (is_metadata (second_in head) head total ≡ true))
two_cases head total m true second is_first is_second found = inl (cc, is_first)
two_cases head total m false true is_first is_second found = inr (cc, is_second)
two_cases head total m false false is_first is_second found = absurd (cc)

pub found_cases : (head : List ℕ) (total : ℕ) (m : Metadata) → metadata_of head total ≡ Some m
    → ((m ≡ first_in head) × (is_metadata (first_in head) head total ≡ true)) ⊎ ((m ≡ second_in head) × (is_metadata (second_in head) head total ≡ true))
unfolding metadata_of
found_cases head total m found = two_cases head total m _ _ refl refl found

be_bytes_below : (n : ℕ) → from_be_bytes w64 (to_be_bytes w64 n) < 2 ^ 64
be_bytes_below n = omega arith

vector_again : (size flags vector : ℕ) (rest head : List ℕ)
    → head ≡ spelling (record { revision = First; size = size; flags = flags; vector = vector; prior = None }) ++ rest
    → from_be_bytes w64 (slice_range head 12 20) ≡ from_be_bytes w64 (to_be_bytes w64 vector)
unfolding spelling
vector_again size flags vector rest head is = ap (λ (xs : List ℕ). from_be_bytes w64 (slice_range xs 12 20)) is

vector_again2 : (size flags vector : ℕ) (prior : Option (List ℕ)) (rest head : List ℕ)
    → head ≡ spelling (record { revision = Second; size = size; flags = flags; vector = vector; prior = prior }) ++ rest
    → from_be_bytes w64 (slice_range head 12 20) ≡ from_be_bytes w64 (to_be_bytes w64 vector)
unfolding spelling
vector_again2 size flags vector prior rest head is = ap (λ (xs : List ℕ). from_be_bytes w64 (slice_range xs 12 20)) is

prior_sound : (none : Bool) (prior : List ℕ) → length prior ≡ 16 → HasPrior Second (if none then None else Some prior)
prior_sound true prior long = tt
prior_sound false prior long = (refl, long)

below_again : (n : ℕ) → n ≡ from_be_bytes w64 (to_be_bytes w64 n) → n < 2 ^ 64
below_again n same = subst (λ (x : ℕ). x < 2 ^ 64) (sym same) (be_bytes_below n)

first_valid : (head : List ℕ) (total : ℕ) → StandsIn (first_in head) head total → IsMetadata (first_in head)
first_valid head total h =
    let m : Metadata = first_in head in
    let cut : head ≡ spelling m ++ drop 20 head = sym (take-append-drop 20 head) ∙ ap (λ (xs : List ℕ). xs ++ drop 20 head) h.spelled in
    record { size = h.most; flags = h.flags; vector = below_again m.vector (vector_again m.size m.flags m.vector (drop 20 head) head cut); prior = tt }

second_valid : (head : List ℕ) (total : ℕ) → IsHead head total → StandsIn (second_in head) head total → IsMetadata (second_in head)
second_valid head total is_head h =
    let m : Metadata = second_in head in
    let cut : head ≡ spelling m ++ drop 40 head = sym (take-append-drop 40 head) ∙ ap (λ (xs : List ℕ). xs ++ drop 40 head) h.spelled in
    let long : length (slice_range head 24 40) ≡ 16 = omega (arith, length-take 16 (drop 24 head), length-drop 24 head, is_head, h.whole) in
    record {
      size = h.most;
      flags = h.flags;
      vector = below_again m.vector (vector_again2 m.size m.flags m.vector m.prior (drop 40 head) head cut);
      prior = prior_sound _ (slice_range head 24 40) long;
    }

-- what was found: it may stand in a record, and stands in this one
pub record IsFound (m : Metadata) (head : List ℕ) (total : ℕ) : Type 0 where
  pub valid : IsMetadata m
  pub stands : StandsIn m head total

pub found_is : (head : List ℕ) (total : ℕ) (m : Metadata) → IsHead head total → metadata_of head total ≡ Some m → IsFound m head total
found_is head total m is_head found =
    elim (found_cases head total m found) [
      | inl (is, test) ↦
          let h = stands (first_in head) head total test in
          subst (λ (x : Metadata). IsFound x head total) (sym is) (record { valid = first_valid head total h; stands = h })
      | inr (is, test) ↦
          let h = stands (second_in head) head total test in
          subst (λ (x : Metadata). IsFound x head total) (sym is) (record { valid = second_valid head total is_head h; stands = h })
    ]

metadata_size-most : (r : Revision) → metadata_size r ≤ 40
metadata_size-most First = omega arith
metadata_size-most Second = omega arith

pub head_long : (m : Metadata) (head : List ℕ) (total : ℕ) → IsHead head total → StandsIn m head total → metadata_size m.revision ≤ length head
head_long m head total is_head h = omega (arith, metadata_size-most m.revision, is_head, h.whole)

-- ---- whole records

-- the metadata of a record
pub metadata_of_record : (m : Metadata) (bytes tag : List ℕ) → IsMetadata m → length bytes ≡ m.size → length tag ≡ 16
    → metadata_of (take 40 (spelling m ++ bytes ++ tag)) (length (spelling m ++ bytes ++ tag)) ≡ Some m
metadata_of_record m bytes tag valid long tag_long =
    let whole : List ℕ = spelling m ++ bytes ++ tag in
    let n : ℕ = metadata_size m.revision in
    let spelled : length (spelling m) ≡ n = length-spelling m valid in
    let front : take n (take 40 whole) ≡ spelling m =
    take-take n 40 whole (metadata_size-most m.revision)
    ∙ ap (take n) (append_assoc (spelling m) bytes tag) ∙ take_at (spelling m) (bytes ++ tag) n spelled in
    let total : length whole ≡ record_size m =
    omega (arith, length-append (spelling m ++ bytes) tag, length-append (spelling m) bytes, spelled, long, tag_long) in
    metadata_found m (take 40 whole) (length whole) valid front total

-- a record opens exactly where its tag is its CMAC
pub unseal_record : (root key : List ℕ) (m : Metadata) (bytes tag : List ℕ) → IsMetadata m → length bytes ≡ m.size → length tag ≡ 16
    → unseal root key (spelling m ++ bytes ++ tag) ≡ (if bytes_eq tag (record_tag root key m bytes) then Some (opened_as root key m bytes) else None)
unfolding unseal
unseal_record root key m bytes tag valid long tag_long =
    let whole : List ℕ = spelling m ++ bytes ++ tag in
    let n : ℕ = metadata_size m.revision in
    let spelled : length (spelling m) ≡ n = length-spelling m valid in
    let front_long : length (spelling m ++ bytes) ≡ n + m.size = omega (arith, length-append (spelling m) bytes, spelled, long) in
    let split : whole ≡ spelling m ++ (bytes ++ tag) = append_assoc (spelling m) bytes tag in
    let width : n + m.size - n ≡ m.size = omega arith in
    let stored_is : stored_in m whole ≡ bytes =
    ap (λ (k : ℕ). take k (drop n whole)) width
    ∙ ap (take m.size) (ap (drop n) split ∙ drop_at (spelling m) (bytes ++ tag) n spelled) ∙ take_at bytes tag m.size long in
    let tag_is : tag_in m whole ≡ tag = drop_at (spelling m ++ bytes) tag (n + m.size) front_long in
    ap (unseal_by root key whole) (metadata_of_record m bytes tag valid long tag_long)
    ∙ ap₂ (λ (b t : List ℕ). if bytes_eq t (record_tag root key m b) then Some (opened_as root key m b) else None) stored_is tag_is

choose-true : (same : Bool) (o : Opened) → same ≡ true → (if same then Some o else None) ≡ Some o
choose-true same o is = ap (λ (b : Bool). if b then Some o else None) is

choose-false : (same : Bool) (o : Opened) → same ≡ false → (if same then Some o else None) ≡ None
choose-false same o is = ap (λ (b : Bool). if b then Some o else None) is

not_same : (same : Bool) (P : Type 0) → Decides same P → (P → ⊥) → same ≡ false
not_same true P decides wrong = absurd (wrong (decides.0 refl))
not_same false P decides wrong = refl

pub unseal_right : (root key : List ℕ) (m : Metadata) (bytes tag : List ℕ) → IsMetadata m → length bytes ≡ m.size → length tag ≡ 16 → tag ≡ record_tag root key m bytes
    → unseal root key (spelling m ++ bytes ++ tag) ≡ Some (opened_as root key m bytes)
unseal_right root key m bytes tag valid long tag_long right =
    unseal_record root key m bytes tag valid long tag_long
    ∙ choose-true _ (opened_as root key m bytes) ((bytes_eq-Decides tag (record_tag root key m bytes)).1 right)

pub unseal_wrong : (root key : List ℕ) (m : Metadata) (bytes tag : List ℕ) → IsMetadata m → length bytes ≡ m.size → length tag ≡ 16 → (tag ≡ record_tag root key m bytes → ⊥)
    → unseal root key (spelling m ++ bytes ++ tag) ≡ None
unseal_wrong root key m bytes tag valid long tag_long wrong =
    unseal_record root key m bytes tag valid long tag_long
    ∙ choose-false _ (opened_as root key m bytes) (not_same _ _ (bytes_eq-Decides tag (record_tag root key m bytes)) wrong)

-- what was sealed is opened
pub unseal_sealed : (root key : List ℕ) (m : Metadata) (value : List ℕ) → IsMetadata m → length value ≡ m.size
    → length (record_tag root key m (stored root key m.flags m.vector value)) ≡ 16
    → unseal root key (sealed root key m value) ≡ Some (record { flags = m.flags; vector = m.vector; value = value })
unfolding sealed
unseal_sealed root key m value valid long tag_long =
    let bytes : List ℕ = stored root key m.flags m.vector value in
    unseal_right root key m bytes (record_tag root key m bytes) valid (length-stored root key m.flags m.vector value ∙ long) tag_long refl
    ∙ ap (λ (v : List ℕ). Some (record { flags = m.flags; vector = m.vector; value = v })) (stored-twice root key m.flags m.vector value)

-- ---- the parts of what begins with metadata

is_head : (bytes : List ℕ) → IsHead (take 40 bytes) (length bytes)
is_head bytes = length-take 40 bytes

pub in_parts : (bytes : List ℕ) (m : Metadata) → metadata_of (take 40 bytes) (length bytes) ≡ Some m → IsInParts bytes m
in_parts bytes m found =
    let is = found_is (take 40 bytes) (length bytes) m (is_head bytes) found in
    let n : ℕ = metadata_size m.revision in
    let front : take n bytes ≡ spelling m = sym (take-take n 40 bytes (metadata_size-most m.revision)) ∙ is.stands.spelled in
    let total : length bytes ≡ n + m.size + 16 = is.stands.whole in
    let width : n + m.size - n ≡ m.size = omega arith in
    let behind : drop n bytes ≡ stored_in m bytes ++ tag_in m bytes =
    sym (take-append-drop m.size (drop n bytes))
    ∙ ap₂ (λ (a b : List ℕ). a ++ b) (ap (λ (k : ℕ). take k (drop n bytes)) (sym width)) (drop-drop m.size n bytes) in
    record {
      valid = is.valid;
      joined =
          sym (take-append-drop n bytes) ∙ ap₂ (λ (a b : List ℕ). a ++ b) front behind
          ∙ sym (append_assoc (spelling m) (stored_in m bytes) (tag_in m bytes));
      stored = omega (arith, length-take (n + m.size - n) (drop n bytes), length-drop n bytes, total);
      tag = omega (arith, length-drop (n + m.size) bytes, total);
    }

pub unseal-none : (root key bytes : List ℕ) → metadata_of (take 40 bytes) (length bytes) ≡ None → unseal root key bytes ≡ None
unfolding unseal
unseal-none root key bytes none = ap (unseal_by root key bytes) none

chosen : (same : Bool) (o p : Opened) → (if same then Some o else None) ≡ Some p → (same ≡ true) × (o ≡ p)
chosen true o p is = (refl, cc)
chosen false o p is = absurd (cc)

-- ---- what is opened was sealed

was_sealed_by : (root key bytes : List ℕ) (o : Opened) (found : Option Metadata) → metadata_of (take 40 bytes) (length bytes) ≡ found
    → unseal_by root key bytes found ≡ Some o → WasSealed root key bytes o
unfolding sealed
was_sealed_by root key bytes o None found is = absurd (cc)
was_sealed_by root key bytes o (Some m) found is =
    let parts = in_parts bytes m found in
    let body : List ℕ = stored_in m bytes in
    let same = chosen (bytes_eq (tag_in m bytes) (record_tag root key m body)) (opened_as root key m body) o is in
    let tag : tag_in m bytes ≡ record_tag root key m body = (bytes_eq-Decides (tag_in m bytes) (record_tag root key m body)).0 same.0 in
    let value : o.value ≡ opened root key m.flags m.vector body = sym (ap (λ (x : Opened). x.value) same.1) in
    let again : stored root key m.flags m.vector o.value ≡ body =
    ap (stored root key m.flags m.vector) value ∙ stored-twice root key m.flags m.vector body in
    record {
      metadata = m;
      valid = parts.valid;
      flags = ap (λ (x : Opened). x.flags) same.1;
      vector = ap (λ (x : Opened). x.vector) same.1;
      size = sym parts.stored ∙ sym (length-stored root key m.flags m.vector body) ∙ ap length (sym value);
      bytes_are =
          parts.joined ∙ ap (λ (t : List ℕ). spelling m ++ body ++ t) tag
          ∙ ap (λ (b : List ℕ). spelling m ++ b ++ record_tag root key m b) (sym again);
    }

pub was_sealed : (root key bytes : List ℕ) (o : Opened) → unseal root key bytes ≡ Some o → WasSealed root key bytes o
unfolding unseal
was_sealed root key bytes o is = was_sealed_by root key bytes o (metadata_of (take 40 bytes) (length bytes)) refl is

-- ---- one reading

some_same : {T : Type 0} (x y : T) → Some x ≡ Some y → x ≡ y
some_same x y same = cc

pub one_reading : (root key : List ℕ) (m n : Metadata) (v w : List ℕ) → ((k message : List ℕ) → length (cmac k message) ≡ 16)
    → IsMetadata m → IsMetadata n → length v ≡ m.size → length w ≡ n.size → sealed root key m v ≡ sealed root key n w → (m ≡ n) × (v ≡ w)
unfolding sealed record_tag
one_reading root key m n v w tags valid_m valid_n long_m long_n same =
    let first = metadata_of_record m (stored root key m.flags m.vector v) (record_tag root key m (stored root key m.flags m.vector v)) valid_m
    (length-stored root key m.flags m.vector v ∙ long_m) (tags _ _) in
    let second = metadata_of_record n (stored root key n.flags n.vector w) (record_tag root key n (stored root key n.flags n.vector w)) valid_n
    (length-stored root key n.flags n.vector w ∙ long_n) (tags _ _) in
    let one = unseal_sealed root key m v valid_m long_m (tags _ _) in
    let two = unseal_sealed root key n w valid_n long_n (tags _ _) in
    let opens = some_same _ _ (sym one ∙ ap (unseal root key) same ∙ two) in
    (some_same m n (sym first ∙ ap (λ (xs : List ℕ). metadata_of (take 40 xs) (length xs)) same ∙ second), ap (λ (o : Opened). o.value) opens)

-- ---- the size of a record

pub length-sealed : (root key : List ℕ) (m : Metadata) (value : List ℕ) → IsMetadata m → length value ≡ m.size
    → length (record_tag root key m (stored root key m.flags m.vector value)) ≡ 16 → length (sealed root key m value) ≡ record_size m
unfolding sealed
length-sealed root key m value valid long tag_long =
    let bytes : List ℕ = stored root key m.flags m.vector value in
    omega (
      arith,
      length-append (spelling m ++ bytes) (record_tag root key m bytes),
      length-append (spelling m) bytes,
      length-spelling m valid,
      length-stored root key m.flags m.vector value,
      long,
      tag_long,
    )

-- the CMAC stands at its end
pub tag_at_end : (root key : List ℕ) (m : Metadata) (value : List ℕ) → length (record_tag root key m (stored root key m.flags m.vector value)) ≡ 16
    → drop (length (sealed root key m value) - 16) (sealed root key m value) ≡ record_tag root key m (stored root key m.flags m.vector value)
unfolding sealed
tag_at_end root key m value tag_long =
    let bytes : List ℕ = stored root key m.flags m.vector value in
    let tag : List ℕ = record_tag root key m bytes in
    drop_at (spelling m ++ bytes) tag (length (spelling m ++ bytes ++ tag) - 16) (omega (arith, length-append (spelling m ++ bytes) tag, tag_long))

-- the metadata stands in front
pub metadata_of_sealed : (root key : List ℕ) (m : Metadata) (value : List ℕ) → IsMetadata m → length value ≡ m.size
    → length (record_tag root key m (stored root key m.flags m.vector value)) ≡ 16
    → metadata_of (take 40 (sealed root key m value)) (length (sealed root key m value)) ≡ Some m
unfolding sealed
metadata_of_sealed root key m value valid long tag_long =
    metadata_of_record m (stored root key m.flags m.vector value) (record_tag root key m (stored root key m.flags m.vector value)) valid
    (length-stored root key m.flags m.vector value ∙ long) tag_long
