-- A record that was opened whole.
use Rattle.std.proofs.Common.{◌≡◌, ℕ, ◌+◌, ◌-◌, ◌≤◌, List, [], ◌++◌, length, length-drop, take, drop, min, Option, Some, None, Result, Ok, Err, refl, sym, ◌∙◌, ap, ap₂, subst, inl, inr, arith}
use Rattle.std.proofs.lemmas.Bool.{cases_lt}
use Rattle.std.proofs.lemmas.List.{drop_all, length-append, take_all, take_at, take_min}
use Rattle.kv_model.specs.declared.error.KvError.{KvError}
use Rattle.kv_model.specs.declared.error.KvError.TheVariants.{AuthFailed}
use Rattle.kv_model.specs.FlaggedMap.{FlaggedMap, Stored}
use Rattle.kv_model.specs.Kv.{KvState}
use Rattle.secure_record.specs.declared.metadata.Metadata.{Metadata}
use Rattle.secure_record.specs.Metadata.{metadata_of, metadata_size, spelling, IsMetadata}
use Rattle.secure_record.specs.Sealed.{opened, record_tag, stored}
use Rattle.secure_record.specs.States.{OpenState}
use Rattle.secure_record.specs.Streams.{Ends, record_read}
use Rattle.secure_record.specs.Unseal.{IsInParts, opened_as, stored_in, tag_in, unseal}
use Rattle.secure_record.proofs.BodyLemmas.{stored-empty, stored-twice}
use Rattle.secure_record.proofs.RecordLemmas.{length-spelling}
use Rattle.sealed_pair.specs.declared.opening.Found.{Found}
use Rattle.sealed_pair.specs.Absorbing.{Gives, HasAbsorbedAll, HasHead, IsAuthentic, IsFresh, IsNoRecord, Shows, Source}
use Rattle.kv_model.specs.declared.call.Got.{Got}
use Rattle.std.specs.Prelude.{IsErrAnd}
use Rattle.sealed_pair.specs.Reading.{Begins, BeginsWith, IsUnread, part_at}
use Rattle.std.specs.FinMap.{get}
use Rattle.sealed_pair.specs.Sealing.{tag_of}

-- ---- where the bytes of the value stand

drop_least : (xs : List ℕ) (offset start : ℕ) → start ≡ min offset (length xs) → drop start xs ≡ drop offset xs
drop_least xs offset start is =
    elim (cases_lt offset (length xs)) [
      | inl within ↦ let same : start ≡ offset = omega (arith, is, within) in ap (λ (k : ℕ). drop k xs) same
      | inr beyond ↦ drop_all start xs (omega (arith, is, beyond)) ∙ sym (drop_all offset xs (omega (arith, beyond)))
    ]

least_bytes : (xs : List ℕ) (n count : ℕ) → n ≡ min count (length xs) → take n xs ≡ take count xs
least_bytes xs n count is = ap (λ (k : ℕ). take k xs) is ∙ take_min count xs

-- the front of the buffer has the value from the offset on
pub gives_by : (values : List ℕ) (offset start : ℕ) (found : Found) (front buf : List ℕ) → found.size ≡ length values → start ≡ min offset found.size
    → found.read ≡ min (found.size - start) (length buf) → take found.read buf ≡ front → front ≡ take found.read (drop start values)
    → Gives values offset found buf
gives_by values offset start found front buf size start_is read at_front front_is =
    let rest : drop start values ≡ drop offset values = drop_least values offset start (omega (arith, size, start_is)) in
    record {
      size = size;
      read = omega (arith, read);
      bytes = at_front ∙ front_is ∙ ap (take found.read) rest
          ∙ least_bytes (drop offset values) found.read (length buf) (omega (arith, read, size, start_is, length-drop offset values));
    }

pub gives_in : (values front whole : List ℕ) (offset start : ℕ) (found : Found) → found.size ≡ length values → start ≡ min offset found.size
    → found.read ≡ min (found.size - start) (length whole) → length front ≡ found.read → front ≡ take (length front) (drop start values)
    → Gives values offset found (front ++ drop found.read whole)
gives_in values front whole offset start found size start_is read long front_is =
    gives_by values offset start found front (front ++ drop found.read whole) size start_is
    (omega (arith, read, long, length-append front (drop found.read whole), length-drop found.read whole))
    (take_at front (drop found.read whole) found.read long) (front_is ∙ ap (λ (k : ℕ). take k (drop start values)) long)

-- a record is its metadata, the stored bytes of its size, and its tag
pub record_long : (m : Metadata) (whole : List ℕ) → IsMetadata m → IsInParts whole m → length whole ≡ metadata_size m.revision + m.size + 16
record_long m whole valid parts =
    let joined = ap length parts.joined in
    let one = length-append (spelling m ++ stored_in m whole) (tag_in m whole) in
    let two = length-append (spelling m) (stored_in m whole) in
    omega (arith, joined, one, two, length-spelling m valid, parts.stored, parts.tag)

pub unread_record : (old new : KvState) (e : KvError) → e ≡ AuthFailed → IsUnread old new e
unread_record old new e is = subst (IsUnread old new) (sym is) (record { cause = tt; may_end = refl })

-- ---- what the record seals

module _ (root key : List ℕ) (source : Source) (old new : OpenState) (start : ℕ) (front : List ℕ)
    (fresh : IsFresh root key old) (all : HasAbsorbedAll source old new start front) where
  abbrev m : Metadata
  m = old.metadata

  abbrev bytes : List ℕ
  bytes = all.absorbed.bytes

  values_are : all.values ≡ opened root key m.flags m.vector bytes
  values_are = sym (all.absorbed.gives root key [] fresh.opened ∙ ap (λ (l : List ℕ). l ++ all.values) (stored-empty root key m.flags m.vector))

  bytes_are : stored root key m.flags m.vector all.values ≡ bytes
  bytes_are = ap (stored root key m.flags m.vector) values_are ∙ stored-twice root key m.flags m.vector bytes

  abbrev pub EndsSo : OpenState → List ℕ → List ℕ → Type 0
  EndsSo stream computed read =
      Ends (Ok computed) read (unseal root key (record_read stream.metadata bytes read)) (opened_as root key stream.metadata bytes) (record_tag root key stream.metadata bytes)

  ends_with : (computed read : List ℕ) → EndsSo new computed read → EndsSo old computed read
  ends_with computed read ends =
      subst (λ (n : Metadata). Ends (Ok computed) read (unseal root key (record_read n bytes read)) (opened_as root key n bytes) (record_tag root key n bytes)) all.absorbed.metadata ends

  pub authentic_by : (offset : ℕ) (found : Found) (buf read : List ℕ) → EndsSo new found.tag read → found.flags.bits ≡ m.flags
      → Gives all.values offset found buf → IsAuthentic root key offset found buf
  authentic_by offset found buf read ends flags gives = record {
    metadata = m;
    value = all.values;
    valid = fresh.opened.metadata;
    size = sym all.whole;
    flags = flags;
    tag = (ends_with found.tag read ends).0 ∙ ap (record_tag root key m) (sym bytes_are);
    gives = gives;
  }

  -- ---- over a plain store

  module _ (there : Option Stored) (head : HasHead there m) (parts : IsInParts head.stored.bytes m)
      (told : metadata_size m.revision + length bytes ≤ length head.stored.bytes → bytes ≡ part_at head.stored.bytes (metadata_size m.revision) (length bytes)) where
    abbrev whole : List ℕ
    whole = head.stored.bytes

    abbrev place : ℕ
    place = metadata_size m.revision + m.size

    bytes_long : length bytes ≡ m.size
    bytes_long = all.absorbed.long ∙ all.whole

    total : length whole ≡ place + 16
    total = record_long m whole fresh.opened.metadata parts

    bytes_read : bytes ≡ stored_in m whole
    bytes_read =
        let width : metadata_size m.revision + m.size - metadata_size m.revision ≡ m.size = omega arith in
        told (omega (arith, total, bytes_long)) ∙ ap (part_at whole (metadata_size m.revision)) (bytes_long ∙ sym width)

    tag_read : (read : List ℕ) → read ≡ part_at whole place 16 → read ≡ tag_in m whole
    tag_read read is = is ∙ take_all 16 (drop place whole) (omega (arith, total, length-drop place whole))

    record_is : (read : List ℕ) → read ≡ part_at whole place 16 → record_read m bytes read ≡ whole
    record_is read is = ap₂ (λ (a b : List ℕ). spelling m ++ a ++ b) bytes_read (tag_read read is) ∙ sym parts.joined

    tag_is : tag_of whole ≡ tag_in m whole
    tag_is = let width : length whole - 16 ≡ place = omega (arith, total) in ap (λ (k : ℕ). drop k whole) width

    pub shows_by : (offset : ℕ) (found : Found) (buf read : List ℕ) → EndsSo new found.tag read → read ≡ part_at whole place 16 → found.flags.bits ≡ m.flags
        → Gives all.values offset found buf → Shows root key there offset found buf
    shows_by offset found buf read ends is flags gives =
        let ended = ends_with found.tag read ends in
        record {
          stored = head.stored;
          is_there = head.there;
          opened = opened_as root key m bytes;
          unsealed = ap (unseal root key) (sym (record_is read is)) ∙ ended.2;
          flags = flags;
          tag = ended.0 ∙ sym ended.1 ∙ tag_read read is ∙ sym tag_is;
          long = ap length tag_is ∙ parts.tag;
          gives = subst (λ (v : List ℕ). Gives v offset found buf) values_are gives;
        }

    pub no_record_by : (e : KvError) (read : List ℕ) → read ≡ part_at whole place 16
        → Ends (Err e) read (unseal root key (record_read new.metadata bytes read)) (opened_as root key new.metadata bytes) (record_tag root key new.metadata bytes)
        → IsNoRecord root key there e
    no_record_by e read is ends = record {
      stored = head.stored;
      there = head.there;
      none = ap (unseal root key) (sym (record_is read is)) ∙ ap (λ (n : Metadata). unseal root key (record_read n bytes read)) (sym all.absorbed.metadata) ∙ ends.2;
      refused = ends.0;
    }

-- ---- the head

-- the front that was read, by the key and the answer as they are called elsewhere
pub begins_at : (map : FlaggedMap) (k key : List ℕ) (f g : Option Got) (n : ℕ) (buf : List ℕ) → k ≡ key → f ≡ g → BeginsWith (get map k) (Ok f) n buf
    → BeginsWith (get map key) (Ok g) n buf
begins_at map k key f g n buf key_is is begins =
    subst (λ (h : Option Got). BeginsWith (get map key) (Ok h) n buf) is (subst (λ (q : List ℕ). BeginsWith (get map q) (Ok f) n buf) key_is begins)

pub head_begins : (found : Option Stored) (m : Metadata) (n : ℕ) (got : Got) (buf : List ℕ) → n ≡ 40 → Begins found n got buf
    → metadata_of (take got.read buf) got.size ≡ Some m → HasHead found m
head_begins found m n got buf n_is begins has = record {
  stored = begins.stored;
  there = begins.there;
  head = ap₂ (λ (l : List ℕ) (k : ℕ). metadata_of l k) (sym (begins.bytes ∙ ap (λ (k : ℕ). take k begins.stored.bytes) n_is)) (sym begins.size) ∙ has;
}

pub no_head : (root key : List ℕ) (found : Option Stored) (n : ℕ) (got : Got) (buf : List ℕ) (e : KvError) → n ≡ 40 → Begins found n got buf
    → ((bytes : List ℕ) → metadata_of (take 40 bytes) (length bytes) ≡ None → unseal root key bytes ≡ None)
    → metadata_of (take got.read buf) got.size ≡ None → e ≡ AuthFailed → IsNoRecord root key found e
no_head root key found n got buf e n_is begins law has refused = record {
  stored = begins.stored;
  there = begins.there;
  none = law begins.stored.bytes (ap₂ (λ (l : List ℕ) (k : ℕ). metadata_of l k) (sym (begins.bytes ∙ ap (λ (k : ℕ). take k begins.stored.bytes) n_is)) (sym begins.size) ∙ has);
  refused = refused;
}

pub whole_head : (found : Option Stored) (n least : ℕ) (got : Got) (buf : List ℕ) → n ≡ 40 → Begins found n got buf → least ≡ min got.size 40 → got.read ≡ least
whole_head found n least got buf n_is begins is = omega (arith, n_is, begins.read, begins.size, is)

-- ---- refusals that are handed on

pub handed : {T : Type 0} (P : Result T KvError → Type 0) (result : Result T KvError) (e : KvError) → IsErrAnd result (λ x. x ≡ e) → P (Err e) → P result
handed P (Ok x) e is p = absurd is
handed P (Err x) e is p = subst (λ (k : KvError). P (Err k)) (sym is) p
