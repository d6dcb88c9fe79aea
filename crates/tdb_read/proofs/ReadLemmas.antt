-- What a read leaves of a log, and what the parts of a reading call answer.
use Rattle.std.proofs.Common.{◌≡◌, ◌≢◌, ◌⊎◌, ℕ, ◌+◌, ◌-◌, ◌<◌, ◌≤◌, min, List, ◌++◌, length, take, drop, replicate, inl, inr, refl, sym, ◌∙◌, ap, subst, arith}
use Rattle.std.specs.Prelude.{Option, Some, None, Result, Ok, Err}
use Rattle.std.specs.Option.{option_map}
use Rattle.std.proofs.lemmas.Grind.{common_steps}
use Rattle.std.proofs.lemmas.List.{length-drop, length-take, take-append-le, take_all, take_min}
use Rattle.flash_core.specs.declared.geometry.Geometry.{Geometry}
use Rattle.flash_core.specs.Calls.{OnlyReads}
use Rattle.flash_core.specs.Images.{part}
use Rattle.flash_core.specs.State.{FlashState}
use Rattle.flash_core.proofs.GeometryLaws.{prog_positive}
use Rattle.kv_model.specs.declared.call.Got.{Got}
use Rattle.kv_model.specs.declared.error.KvError.{KvError}
use Rattle.kv_model.specs.declared.error.KvError.TheVariants.{Corrupt, InvalidSize, ReadFault}
use Rattle.kv_model.specs.Given.{AreZerosFrom, read_end}
use Rattle.kv_model.specs.StoreState.{Iterators}
use Rattle.kv_model.specs.Write.{Write}
use Rattle.record_core.specs.declared.header.Header.{Header}
use Rattle.record_core.specs.Log.{IsRecordAt, extent}
use Rattle.record_core.specs.Lookup.{HeadSeen, IsHead, IsReadFault, ReadsHeader}
use Rattle.record_core.proofs.LogLemmas.{one_record}
use Rattle.record_core.proofs.LookupLemmas.{one_head}
use Rattle.area_log.specs.Areas.{IsRange, end_of}
use Rattle.area_log.specs.Reading.{Gives, IsWithin, ReadsValue, filled}
use Rattle.area_log.proofs.ReadLemmas.{head_is, head_of, value_of_record}
use Rattle.ram_table.specs.Reader.{IsRefusal}
use Rattle.tdb_mount.specs.Keys.{keys_in, keys_of}
use Rattle.area_log.specs.declared.area.Area.{Area}
use Rattle.area_log.specs.declared.read.PlacedHeader.{PlacedHeader}
use Rattle.tdb_read.proofs.TableLemmas.{holds_at}
use Rattle.tdb_read.specs.Reads.{GivesHeader, GivesValue, IsHeadOf, IsReadRefusal, OfRecord, SaysOf, offset_in}
use Rattle.tdb_read.specs.Views.{HasOnlyRead, HasRead, IsLogOf, IsReady, IsSafe, LogPart, LogView, area_in}

-- ---- what is kept

safe_with : (g : Geometry) (log : LogPart) (iterators : Iterators) → IsSafe g log → IsSafe g (record log { iterators = iterators })
safe_with g log iterators safe = record {
  valid = safe.valid;
  hash_bits = safe.hash_bits;
  active = safe.active;
  end = safe.end;
  within = safe.within;
  room = safe.room;
  work = safe.work;
  unit = safe.unit;
}

log_with : (g : Geometry) (image : List ℕ) (log : LogPart) (iterators : Iterators) → IsLogOf g image log → IsLogOf g image (record log { iterators = iterators })
log_with g image log iterators is = record {
  first = is.first;
  second = is.second;
  active = is.active;
  version = is.version;
  holds = is.holds;
  table = is.table;
  clean = is.clean;
}

pub ready_since : {old new : LogView} → HasRead old new → IsReady old → IsReady new
ready_since {old} {new} read ready = record {
  safe = subst (λ (l : LogPart). IsSafe new.device.geometry l) (sym read.log)
      (safe_with new.device.geometry old.log new.log.iterators (subst (λ (x : Geometry). IsSafe x old.log) (sym read.device.geometry) ready.safe));
  stands = λ image told. subst (λ (l : LogPart). IsLogOf new.device.geometry image l) (sym read.log)
      (log_with new.device.geometry image old.log new.log.iterators
      (subst (λ (x : Geometry). IsLogOf x image old.log) (sym read.device.geometry) (ready.stands image (sym read.device.image ∙ told))));
}

pub ready_only : {old new : LogView} → IsReady old → HasOnlyRead old new → IsReady new
ready_only {old} {new} ready read = ready_since (record { device = read.device; log = read.log ∙ λ i. record old.log { iterators = sym (ap (λ (l : LogPart). l.iterators) read.log) i } }) ready

pub ready_work : {old : LogView} {device : FlashState} {work : ℕ} → IsReady old → OnlyReads old.device device → work ≡ old.log.work
    → IsReady (record { device = device; log = record old.log { work = work } })
ready_work {old} {device} {work} ready read same = ready_only ready (record { device = read; log = λ i. record old.log { work = same i } })

-- ---- refusals

none_if : {X : Type 0} (o : Option X) → ((x : X) → o ≡ Some x → ⊥) → o ≡ None
none_if None never = refl
none_if (Some x) never = absurd (never x refl)

none_mapped : {X Y : Type 0} (f : X → Y) (o : Option X) → option_map f o ≡ None → o ≡ None
none_mapped f None is = refl
none_mapped f (Some x) is = absurd (cc)

pub from_reader : (old new : FlashState) (area : Area) (hash_bits before now : ℕ) (e : KvError) → IsRefusal (keys_of old area hash_bits before) (keys_of new area hash_bits now) e → IsReadRefusal old new e
from_reader old new area hash_bits before now ReadFault is = is
from_reader old new area hash_bits before now (Corrupt stored computed) is = (is.0, none_mapped (keys_in old.geometry area) old.image is.1)
from_reader old new area hash_bits before now e is = absurd is

pub fault_is : (old new : FlashState) (e : KvError) → IsReadFault old new e → IsReadRefusal old new e
fault_is old new e fault = subst (IsReadRefusal old new) (sym fault.is) (fault.rose, fault.unsteady)

corrupt_is : (old new : FlashState) (e : KvError) (stored computed : ℕ) → e ≡ Corrupt stored computed → stored ≢ computed → old.image ≡ None → IsReadRefusal old new e
corrupt_is old new e stored computed is differ untold = subst (IsReadRefusal old new) (sym is) (differ, untold)

abbrev Known : FlashState → FlashState → KvError → Type 0 → Type 0
Known old new e X = IsReadFault old new e ⊎ ((e ≡ InvalidSize) × X)

not_corrupt : {old new : FlashState} {X : Type 0} (e : KvError) (stored computed : ℕ) → e ≡ Corrupt stored computed → Known old new e X → ⊥
not_corrupt e stored computed is (inl fault) = let same : Corrupt stored computed ≡ ReadFault = sym is ∙ fault.is in absurd (cc)
not_corrupt e stored computed is (inr beyond) = let same : Corrupt stored computed ≡ InvalidSize = sym is ∙ beyond.0 in absurd (cc)

is_beyond : {old new : FlashState} {X : Type 0} (e : KvError) → e ≡ InvalidSize → Known old new e X → X
is_beyond e is (inl fault) = let same : InvalidSize ≡ ReadFault = sym is ∙ fault.is in absurd (cc)
is_beyond e is (inr beyond) = beyond.1

-- ---- an entry of the table

module _ (old new : LogView) (ready : IsReady old) (at : ℕ) (inside : at < length old.log.table.entries) where
  abbrev s : FlashState
  s = old.device

  abbrev place : ℕ
  place = offset_in old.log at

  abbrev end : ℕ
  end = end_of (area_in s.geometry old.log)

  positive : 1 ≤ s.geometry.prog
  positive = prog_positive s.geometry ready.safe.valid

  ends : (image : List ℕ) → s.image ≡ Some image → (r : Write) → IsRecordAt s.geometry.prog image place r → place + extent s.geometry.prog r ≤ end
  ends image told r stands =
      let there = holds_at s.geometry old.log image ready.safe (ready.stands image told) at inside in
      let same : there.this ≡ r = one_record s.geometry.prog positive image place there.this r there.stands stands in
      subst (λ (w : Write). place + extent s.geometry.prog w ≤ end) same there.inside

  some_record : (image : List ℕ) → s.image ≡ Some image → (r : Write) × IsRecordAt s.geometry.prog image place r × (place + extent s.geometry.prog r ≤ end)
  some_record image told =
      let there = holds_at s.geometry old.log image ready.safe (ready.stands image told) at inside in
      (there.this, there.stands, there.inside)

  module _ (offset : ℕ) (buf : List ℕ) where
    known : (image : List ℕ) → s.image ≡ Some image → (e : KvError) → ReadsValue s new.device place (end - place) offset buf (Err e)
        → (r : Write) → IsRecordAt s.geometry.prog image place r → Known s new.device e (length r.value < offset)
    known image told e reads r stands = value_of_record s positive image told place end r stands (ends image told r stands) new.device offset buf (Err e) reads

    untold : (e : KvError) (stored computed : ℕ) → e ≡ Corrupt stored computed → ReadsValue s new.device place (end - place) offset buf (Err e) → s.image ≡ None
    untold e stored computed is reads = none_if s.image (λ image told.
        let r = some_record image told in not_corrupt e stored computed is (known image told e reads r.0 r.1))

    pub value_given : (result : Result Got KvError) → ReadsValue s new.device place (end - place) offset buf result → GivesValue old new place offset buf result
    value_given (Ok got) reads = λ image told r stands.
        value_of_record s positive image told place end r stands (ends image told r stands) new.device offset buf (Ok got) reads
    value_given (Err e) (inl fault) = inl (fault_is s new.device e fault)
    value_given (Err e) (inr (inl broken)) = inl (corrupt_is s new.device e _ _ broken.is (λ same. omega (arith, same)) (untold e _ _ broken.is (inr (inl broken))))
    value_given (Err e) (inr (inr (inl wrong))) = inl (corrupt_is s new.device e _ _ wrong.is wrong.differ (untold e _ _ wrong.is (inr (inr (inl wrong)))))
    value_given (Err e) (inr (inr (inr beyond))) =
        inr (beyond.is, λ image told r stands. is_beyond e beyond.is (known image told e (inr (inr (inr beyond))) r stands))

  head_here : (image : List ℕ) → s.image ≡ Some image → (r : Write) → IsRecordAt s.geometry.prog image place r → (bytes : List ℕ) → bytes ≡ part image place 24
      → IsHead s.geometry.prog (end - place) bytes (head_of r)
  head_here image told r stands bytes seen = record {
    spelled = seen ∙ head_is s.geometry.prog positive image place r stands;
    valid = stands.valid_header;
    fits = omega arith;
    within = omega (arith, ends image told r stands);
  }

  pub header_given : (result : Result Header KvError) → ReadsHeader s new.device place (end - place) result → GivesHeader old new place result
  header_given (Ok header) seen = λ image told r stands.
      let same : header ≡ head_of r = one_head s.geometry.prog (end - place) seen.bytes header (head_of r) seen.head (head_here image told r stands seen.bytes (seen.seen.told image told)) in
      record { flags = ap (λ (h : Header). h.flags) same; key_size = ap (λ (h : Header). h.key_size) same; size = ap (λ (h : Header). h.value_size) same }
  header_given (Err e) (inl fault) = fault_is s new.device e fault
  header_given (Err e) (inr broken) = corrupt_is s new.device e _ _ broken.is (λ same. omega (arith, same))
      (none_if s.image (λ image told. let r = some_record image told in
      broken.none (head_of r.0) (head_here image told r.0 r.1 broken.bytes (broken.seen.told image told))))

-- ---- a header that was looked up

pub head_inside : (v : LogView) → IsReady v → (key : List ℕ) (head : PlacedHeader) → IsHeadOf v key head → IsRange (area_in v.device.geometry v.log) head.at 24
head_inside v ready key head is =
    let within = ready.safe.within is.entry is.inside in
    record { from = omega (arith, within.0, is.at); to = omega (arith, within.1, is.at) }

module _ (old new : LogView) (ready : IsReady old) (key : List ℕ) (head : PlacedHeader) (is : IsHeadOf old key head) where
  pub value_behind : (offset : ℕ) (buf : List ℕ) (result : Result Got KvError) → ReadsValue old.device new.device head.at (end_of (area_in old.device.geometry old.log) - head.at) offset buf result
      → GivesValue old new head.at offset buf result
  value_behind offset buf result reads =
      subst (λ (p : ℕ). GivesValue old new p offset buf result) (sym is.at)
      (value_given old new ready is.entry is.inside offset buf result
      (subst (λ (p : ℕ). ReadsValue old.device new.device p (end_of (area_in old.device.geometry old.log) - p) offset buf result) is.at reads))

  pub head_says : OfRecord old.device head.at (SaysOf head.header)
  head_says =
      subst (λ (p : ℕ). OfRecord old.device p (SaysOf head.header)) (sym is.at)
      (header_given old new ready is.entry is.inside (Ok head.header)
      (subst (λ (p : ℕ). HeadSeen old.device p (end_of (area_in old.device.geometry old.log) - p) head.header) is.at is.seen.head))

-- ---- buffers

zeros_behind : (bytes : List ℕ) (k n : ℕ) → length bytes ≤ n → AreZerosFrom n (bytes ++ replicate k 0)
zeros_behind bytes k n short i from lt = grind (arith, common_steps)

pub zeros_filled : (buf bytes : List ℕ) (n : ℕ) → buf ≡ filled (length buf) bytes → length bytes ≤ n → AreZerosFrom n buf
zeros_filled buf bytes n is short = subst (AreZerosFrom n) (sym is) (zeros_behind bytes (length buf - length bytes) n short)

part_short : (l : List ℕ) (i n : ℕ) → length (part l i n) ≤ n
part_short l i n = omega (arith, length-take n (drop i l))

pub zeros_read : (s new : FlashState) (place room offset size : ℕ) (buf : List ℕ) (result : Result Got KvError) → ReadsValue s new place room offset buf result
    → ((e : KvError) → result ≡ Err e → buf ≡ replicate size 0) → AreZerosFrom (read_end result) buf
zeros_read s new place room offset size buf (Ok got) gives zeros =
    zeros_filled buf (part gives.payload (gives.header.key_size + offset) got.read) got.read gives.bytes (part_short gives.payload (gives.header.key_size + offset) got.read)
zeros_read s new place room offset size buf (Err e) reads zeros =
    subst (AreZerosFrom 0) (sym (zeros e refl)) (λ i from lt. grind (arith, common_steps))

-- what was put at the front of a buffer is what there is and fits
pub value_read : (r : Write) (offset room : ℕ) (buf : List ℕ) (got : Got) → length buf ≡ room → IsWithin offset room got → Gives r offset buf got
    → take got.read buf ≡ take room (drop offset r.value)
value_read r offset room buf got long within gives =
    let rest : List ℕ = drop offset r.value in
    let read : got.read ≡ min room (length rest) = omega (arith, within.read, gives.size, length-drop offset r.value) in
    let there : length (take got.read rest) ≡ got.read = omega (arith, length-take got.read rest, read) in
    ap (take got.read) gives.bytes
    ∙ take-append-le got.read (take got.read rest) (replicate (length buf - length (take got.read rest)) 0) (omega (arith, there))
    ∙ take_all got.read (take got.read rest) (omega (arith, there))
    ∙ ap (λ (n : ℕ). take n rest) read
    ∙ take_min room rest
