-- A reader of keys over a device.
use Rattle.std.proofs.Common.{◌≡◌, ◌⊎◌, ℕ, ◌+◌, ◌-◌, ◌^◌, Bool, true, false, IsTrue, List, inl, inr, refl, sym, ◌∙◌, ap, subst, arith}
use Rattle.std.specs.Prelude.{Option, Some, None, MatchOption, is_some, Result, Ok, Err, IfErr}
use Rattle.std.specs.FinMap.{get}
use Rattle.std.specs.Option.{option_map}
use mathlib.Core.Bool.{false≢true}
use Rattle.base_core.specs.Counts.{counted}
use Rattle.flash_core.specs.Calls.{CountsStand, OnlyReads}
use Rattle.flash_core.specs.Runs.{IsCauseOfRead, IsCounted, ReadsBy}
use Rattle.flash_core.specs.State.{FlashState}
use Rattle.flash_core.specs.declared.geometry.Geometry.{Geometry}
use Rattle.kv_model.specs.declared.error.KvError.{KvError}
use Rattle.kv_model.specs.declared.error.KvError.TheVariants as error
use Rattle.record_core.specs.Endings.{kv_ended, kv_ending}
use Rattle.area_log.specs.declared.area.Area.{Area}
use Rattle.area_log.specs.declared.read.PlacedHeader.{PlacedHeader}
use Rattle.area_log.specs.Areas.{end_of}
use Rattle.ram_table.specs.declared.table.Entry.{Entry}
use Rattle.ram_table.specs.declared.table.Place.{Place}
use Rattle.ram_table.specs.Find.{WhereFound}
use Rattle.ram_table.specs.Table.{entry_at}
use Rattle.tdb_mount.specs.declared.lookup.Seen.{Seen}
use Rattle.record_core.specs.declared.header.Header.{Header}
use Rattle.record_core.specs.Header.{header_bytes}
use Rattle.record_core.specs.Lookup.{HeadBroken, HeadSeen, IsHead, IsReadFault, IsSeen, KeyBroken, KeyedSeen, broken_answer}
use Rattle.ram_table.specs.Reader.{CanReadKey, HasRead as HasReadKey, IsRefusal, Keeps, KeyMap}
use Rattle.tdb_mount.specs.Keys.{HasHead, IsHeadAt, IsLast, SpellsKey, key_spelled, keys_in, keys_of}
use Rattle.kv_model.specs.Keys.{is_key}
use Rattle.base_core.specs.Units.{up}
use Rattle.flash_core.specs.Images.{part}
use Rattle.tdb_mount.proofs.KeyLemmas.{found_below, key_behind_header, key_spells, low_crc, low_spelling}

abbrev some : {X : Type 0} → X → Option X
some x = Some x

abbrev none : {X : Type 0} → Option X
none = None

not_some : {X : Type 0} (x : X) → none {X = X} ≡ Some x → ⊥
not_some x same = cc

some_is : {X : Type 0} (x y : X) → some x ≡ Some y → x ≡ y
some_is x y same = cc

-- what was mapped
pub mapped_from : {X Y : Type 0} (f : X → Y) (o : Option X) (y : Y) → option_map f o ≡ Some y → (x : X) × (o ≡ Some x) × (f x ≡ y)
mapped_from f None y is = absurd (not_some y is)
mapped_from f (Some x) y is = (x, refl, some_is (f x) y is)

mapped_none : {X Y : Type 0} (f : X → Y) (o : Option X) → ((x : X) → o ≡ Some x → ⊥) → option_map f o ≡ None
mapped_none f None never = refl
mapped_none f (Some x) never = absurd (never x refl)

there_is : {X : Type 0} (o : Option X) → is_some o ≡ true → (x : X) × (o ≡ Some x)
there_is None is = absurd (false≢true is)
there_is (Some x) is = (x, refl)

pub reader_kept : {old new : FlashState} (area : Area) (hash_bits before now : ℕ) → OnlyReads old new → Keeps (keys_of old area hash_bits before) (keys_of new area hash_bits now)
reader_kept area hash_bits before now only = record {
  bound = refl;
  hash_bits = refl;
  keys = λ i. option_map (keys_in (only.geometry i) area) (only.image i);
  read_faults = only.read_faults;
  steady = only.steady;
  sound = only.sound;
}

-- a broken header is no fault
counts_of : {old new : FlashState} (bytes : List ℕ) (e : KvError) → e ≡ broken_answer bytes → IsCounted old new (kv_ending e) → CountsStand old new
counts_of {old} {new} bytes e is counts = subst (λ (k : KvError). IsCounted old new (kv_ending k)) is counts

module _ (old new : FlashState) (area : Area) (hash_bits before now offset : ℕ) (can : CanReadKey (keys_of old area hash_bits before) offset) where
  -- where the image is told a key is spelled
  spelled : (image : List ℕ) → old.image ≡ Some image → (key : List ℕ) × SpellsKey old.geometry.prog image (end_of area) offset key
      × (get (keys_in old.geometry area image) offset ≡ Some key)
  spelled image told =
      let keys : KeyMap = keys_in old.geometry area image in
      let found = there_is (get keys offset) (can.has keys (ap (option_map (keys_in old.geometry area)) told)) in (
        found.0,
        key_spells old.geometry.prog image (end_of area) offset found.0
            (found_below (key_spelled old.geometry.prog image (end_of area)) (end_of area) offset found.0 found.1),
        found.1,
      )

  -- where a key is spelled its header is found
  head_spelled : (image : List ℕ) → old.image ≡ Some image → (key : List ℕ) → (spells : SpellsKey old.geometry.prog image (end_of area) offset key) → (bytes : List ℕ) → bytes ≡ part image offset 24
      → IsHead old.geometry.prog (end_of area - offset) bytes (low_crc spells.header)
  head_spelled image told key spells bytes seen = record {
    spelled = seen ∙ spells.spelled ∙ sym (low_spelling spells.header);
    valid = spells.valid;
    fits = omega arith;
    within = omega (arith, spells.inside);
  }

  -- and so is the key
  key_spelled_is : (image : List ℕ) → old.image ≡ Some image → (key read : List ℕ) → SpellsKey old.geometry.prog image (end_of area) offset key → (header : Header) → (head : HeadSeen old offset (end_of area - offset) header)
      → read ≡ part image (offset + up old.geometry.prog 24) header.key_size → read ≡ key
  key_spelled_is image told key read spells header head seen =
      seen ∙ sym (key_behind_header header head.head.valid (sym (head.seen.told image told) ∙ head.head.spelled) spells)

  pub refusal_of_read : (e : KvError) → IsCounted old new (kv_ending e) → IsReadFault old new e ⊎ (HeadBroken old offset (end_of area - offset) e ⊎ KeyBroken old offset (end_of area - offset) e)
      → IsRefusal (keys_of old area hash_bits before) (keys_of new area hash_bits now) e
  refusal_of_read e counts (inl fault) = subst (IsRefusal (keys_of old area hash_bits before) (keys_of new area hash_bits now)) (sym fault.is) (fault.rose, fault.unsteady)
  refusal_of_read e counts (inr (inl broken)) = subst (IsRefusal (keys_of old area hash_bits before) (keys_of new area hash_bits now)) (sym broken.is) (
    λ same. omega (arith, same),
    mapped_none (keys_in old.geometry area) old.image (λ image told.
        let key = spelled image told in
        broken.none (low_crc key.1.header) (head_spelled image told key.0 key.1 broken.bytes (broken.seen.told image told))),
    (counts_of broken.bytes e broken.is counts).of_reads,
  )
  refusal_of_read e counts (inr (inr broken)) = subst (IsRefusal (keys_of old area hash_bits before) (keys_of new area hash_bits now)) (sym broken.is) (
    λ same. omega (arith, same),
    mapped_none (keys_in old.geometry area) old.image (λ image told.
        let key = spelled image told in
        broken.no_key (subst (λ (k : List ℕ). IsTrue (is_key k)) (sym (key_spelled_is image told key.0 broken.key key.1 broken.header broken.head (broken.seen.told image told))) key.1.is_key)),
    (counts_of broken.head.bytes e broken.is counts).of_reads,
  )

  pub key_read : (header : Header) (out : List ℕ) → KeyedSeen old offset (end_of area - offset) header out → (keys : KeyMap) → option_map (keys_in old.geometry area) old.image ≡ Some keys → get keys offset ≡ Some out
  key_read header out seen keys told =
      let image = mapped_from (keys_in old.geometry area) old.image keys told in
      let key = spelled image.0 image.1 in
      let same : out ≡ key.0 = key_spelled_is image.0 image.1 key.0 out key.1 header seen.head (seen.seen.told image.0 image.1) in
      subst (λ (k : KeyMap). get k offset ≡ Some out) image.2 (key.2 ∙ ap (λ (k : List ℕ). Some k) (sym same))

-- a read that answered
pub key_answered : {T : Type 0} {old new : FlashState} (area : Area) (hash_bits refusals : ℕ) (x : T) → OnlyReads old new → CountsStand old new → HasReadKey {T = T} (keys_of old area hash_bits refusals) (keys_of new area hash_bits refusals) (Ok x)
key_answered area hash_bits refusals x only counts = record {
  kept = reader_kept area hash_bits refusals refusals only;
  answered = record { of_faults = counts.of_reads; of_refusals = refl };
  refused = tt;
  cause = tt;
}

-- and one that was refused
pub key_refused : {T : Type 0} {old new : FlashState} (area : Area) (hash_bits before now : ℕ) (e : KvError) → OnlyReads old new → now ≡ counted before → IsRefusal (keys_of old area hash_bits before) (keys_of new area hash_bits now) e
    → HasReadKey {T = T} (keys_of old area hash_bits before) (keys_of new area hash_bits now) (Err e)
key_refused area hash_bits before now e only rose cause = record { kept = reader_kept area hash_bits before now only; answered = tt; refused = rose; cause = cause }

-- ---- what a search does to the device

-- behind which the reader's other fields may be any
module _ (old new : FlashState) (area later : Area) (bits bits_now before now : ℕ) where
  cause_of_search : (e : KvError) → IsRefusal (keys_of old area bits before) (keys_of new later bits_now now) e → IsCauseOfRead old new (kv_ending e)
  cause_of_search error.ReadFault cause = cause
  cause_of_search (error.Corrupt stored computed) cause = tt
  cause_of_search _ cause = absurd cause

  counts_of_search : (e : KvError) → new.write_faults ≡ old.write_faults → IsRefusal (keys_of old area bits before) (keys_of new later bits_now now) e → IsCounted old new (kv_ending e)
  counts_of_search error.ReadFault same cause = same
  counts_of_search (error.Corrupt stored computed) same cause = record { of_reads = cause.2; of_writes = same }
  counts_of_search _ same cause = absurd cause

  pub search_reads : {T : Type 0} (result : Result T KvError) → OnlyReads old new → HasReadKey (keys_of old area bits before) (keys_of new later bits_now now) result → ReadsBy old new (kv_ended result)
  search_reads (Ok x) only read = record { kept = only; cause = tt; counts = record { of_reads = read.answered.of_faults; of_writes = only.write_faults } }
  search_reads (Err e) only read = record {
    kept = only;
    cause = cause_of_search e read.cause;
    counts = counts_of_search e only.write_faults read.cause;
  }

  same_refusal : (e : KvError) → IsRefusal (keys_of old area bits before) (keys_of new later bits_now now) e → IsRefusal (keys_of old area bits 0) (keys_of new area bits 0) e
  same_refusal error.ReadFault cause = cause
  same_refusal (error.Corrupt stored computed) cause = cause
  same_refusal _ cause = absurd cause

  pub search_cause : {T : Type 0} (result : Result T KvError) → IfErr result (IsRefusal (keys_of old area bits before) (keys_of new later bits_now now)) → IfErr result (IsRefusal (keys_of old area bits 0) (keys_of new area bits 0))
  search_cause (Ok x) cause = tt
  search_cause (Err e) cause = same_refusal e cause

-- ---- the header of a key that was found

head_if : (found : Bool) (last head : Option PlacedHeader) (P : PlacedHeader → Type 0) → (found ≡ true → head ≡ last) → (found ≡ false → head ≡ None) → (found ≡ true → MatchOption last ⊥ P)
    → MatchOption head (found ≡ false) (λ h. (found ≡ true) × P h)
head_if true None head P same absent is = absurd (is refl)
head_if true (Some h) head P same absent is =
    subst (λ (o : Option PlacedHeader). MatchOption o (true ≡ false) (λ x. (true ≡ true) × P x)) (sym (same refl)) (refl, is refl)
head_if false last head P same absent is =
    subst (λ (o : Option PlacedHeader). MatchOption o (false ≡ false) (λ x. (false ≡ true) × P x)) (sym (absent refl)) refl

pub has_head : (s : FlashState) (area : Area) (entries : List Entry) (key : List ℕ) (place : Place) (last : Option PlacedHeader) (seen : Seen) → seen.place ≡ place
    → (place.found ≡ true → seen.head ≡ last) → (place.found ≡ false → seen.head ≡ None)
    → WhereFound entries (λ offset. IsLast s area last offset key) place → HasHead s area entries key seen
has_head s area entries key place last seen same found absent is =
    subst (λ (p : Place). MatchOption seen.head (p.found ≡ false) (λ head. (p.found ≡ true) × IsHeadAt s area (entry_at entries p.at).offset key head)) (sym same)
    (head_if place.found last seen.head (IsHeadAt s area (entry_at entries place.at).offset key) found absent is)

-- what was read is there behind reads
seen_later : {old new : FlashState} {place n : ℕ} {bytes : List ℕ} → OnlyReads old new → IsSeen old place n bytes → IsSeen new place n bytes
seen_later reads seen = record { long = seen.long; told = λ image told. seen.told image (sym reads.image ∙ told) }

keyed_later : {old new : FlashState} → OnlyReads old new → (place room : ℕ) (header : Header) (key : List ℕ) → KeyedSeen old place room header key → KeyedSeen new place room header key
keyed_later {old} {new} reads place room header key keyed = record {
  head = record {
    bytes = keyed.head.bytes;
    seen = seen_later reads keyed.head.seen;
    head = subst (λ (g : Geometry). IsHead g.prog room keyed.head.bytes header) (sym reads.geometry) keyed.head.head;
  };
  seen = subst (λ (g : Geometry). IsSeen new (place + up g.prog 24) header.key_size key) (sym reads.geometry) (seen_later reads keyed.seen);
  valid = keyed.valid;
}

pub head_later : {old new : FlashState} (area : Area) (place : ℕ) (key : List ℕ) (head : PlacedHeader) → OnlyReads old new → head.at ≡ place → KeyedSeen old place (end_of area - place) head.header key → IsHeadAt new area place key head
head_later {old} {new} area place key head reads at seen = record {
  at = at;
  seen = keyed_later reads place (end_of area - place) head.header key seen;
}
