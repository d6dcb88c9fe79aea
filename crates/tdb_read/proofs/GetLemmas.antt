-- A get and an info of a key that was looked up are calls of a plain store.
use Rattle.std.proofs.Common.{◌≡◌, ℕ, ◌+◌, ◌-◌, ◌≤◌, ◌<◌, true, false, List, length, take, inl, inr, refl, sym, ◌∙◌, ap, subst, arith}
use Rattle.std.specs.Prelude.{nat_lt, Option, Some, Result, Ok, Err, IfOk}
use Rattle.std.proofs.lemmas.Bool.Decides.{nat_tests}
use Rattle.base_core.proofs.CountLemmas.{Rose-since}
use Rattle.flash_core.specs.declared.geometry.Geometry.{Geometry}
use Rattle.flash_core.specs.Calls.{OnlyReads}
use Rattle.flash_core.specs.State.{FlashState}
use Rattle.flash_core.proofs.KeptLaws.{OnlyReads-trans}
use Rattle.kv_model.specs.declared.call.Got.{Got}
use Rattle.kv_model.specs.declared.call.Reply.TheVariants.{Facts, Refused, Value}
use Rattle.kv_model.specs.declared.error.KvError.{KvError}
use Rattle.kv_model.specs.declared.error.KvError.TheVariants.{Corrupt, InvalidSize, ReadFault}
use Rattle.kv_model.specs.Given.{IsGot, got_or}
use Rattle.kv_model.specs.Keys.{is_key}
use Rattle.kv_model.specs.Kv.{Answers, answered}
use Rattle.kv_model.specs.Operations.{Info, Part}
use Rattle.kv_model.specs.PlainStep.{plain_rules, plain_step}
use Rattle.kv_model.specs.Rules.{Outcome}
use Rattle.kv_model.specs.StoreState.{OpenSet, StoreState}
use Rattle.kv_model.specs.Write.{Write}
use Rattle.record_core.specs.declared.header.Header.{Header}
use Rattle.record_core.specs.Log.{IsRecordAt}
use Rattle.area_log.specs.declared.area.Area.{Area}
use Rattle.area_log.specs.Areas.{IsRange, end_of}
use Rattle.area_log.specs.Reading.{Gives, GivesRead, IsWithin}
use Rattle.base_core.specs.Units.{up}
use Rattle.record_core.specs.Lookup.{IsHead, IsSeen}
use Rattle.record_core.proofs.LookupLemmas.{IsSeen-since}
use Rattle.area_log.specs.declared.read.PlacedHeader.{PlacedHeader}
use Rattle.std.specs.Option.{ForSome}
use Rattle.tdb_mount.specs.Index.{record_of}
use Rattle.tdb_mount.proofs.ReaderLemmas.{mapped_from}
use Rattle.tdb_read.specs.Reads.{GivesValue, HasAt, IsChecked, IsHeadOf, IsReadRefusal, OfRecord, SaysOf}
use Rattle.tdb_read.specs.States.{constants_of, kv_state, state_in}
use Rattle.tdb_read.specs.Views.{HasOnlyRead, HasRead, LogPart, LogView, area_in}
use Rattle.tdb_read.proofs.AnswerLemmas.{refused, ruled}
use Rattle.tdb_read.proofs.ReadLemmas.{value_read}
use Rattle.tdb_read.proofs.StepLemmas.{info_present, part_large, part_present, part_reads}

pub refusal_since : {old mid : FlashState} (new : FlashState) (e : KvError) → OnlyReads old mid → IsReadRefusal mid new e → IsReadRefusal old new e
refusal_since new ReadFault read is = (Rose-since read.read_faults is.0, λ steady. is.1 (read.steady steady))
refusal_since new (Corrupt stored computed) read is = (is.0, sym read.image ∙ is.1)
refusal_since new e read is = absurd is

of_record_since : {old mid : FlashState} (place : ℕ) (P : Write → Type 0) → OnlyReads old mid → OfRecord mid place P → OfRecord old place P
of_record_since {old} {mid} place P read holds = λ image told r stands.
    holds image (read.image ∙ told) r (subst (λ (g : Geometry). IsRecordAt g.prog image place r) (sym read.geometry) stands)

not_below : (m n : ℕ) → n ≤ m → nat_lt m n ≡ false
not_below m n le = grind (arith, nat_tests)

below : (m n : ℕ) → m < n → nat_lt m n ≡ true
below m n lt = grind (arith, nat_tests)

-- what was read between other reads
read_since : {old mid : FlashState} (place room offset : ℕ) (buf : List ℕ) (got : Got) → OnlyReads old mid → GivesRead mid place room offset buf got → GivesRead old place room offset buf got
read_since {old} {mid} place room offset buf got only is = record {
  header = is.header;
  payload = is.payload;
  read = record {
    head = record {
      bytes = is.read.head.bytes;
      seen = IsSeen-since only is.read.head.seen;
      head = subst (λ (g : Geometry). IsHead g.prog room is.read.head.bytes is.header) only.geometry is.read.head.head;
    };
    seen = IsSeen-since only (subst (λ (g : Geometry). IsSeen mid (place + up g.prog 24) (is.header.key_size + is.header.value_size) is.payload) only.geometry is.read.seen);
  };
  right = is.right;
  in_value = is.in_value;
  flags = is.flags;
  size = is.size;
  count = is.count;
  bytes = is.bytes;
}

checked : {old mid : LogView} (offset : ℕ) (buf : List ℕ) (got : Got) → HasOnlyRead old mid → IsChecked mid offset buf got → IsChecked old offset buf got
checked {old} {mid} offset buf got only is =
    let area : area_in mid.device.geometry mid.log ≡ area_in old.device.geometry old.log = λ i. area_in (only.device.geometry i) (only.log i) in
    record {
      place = is.place;
      inside = subst (λ (a : Area). IsRange a is.place 24) area is.inside;
      gives = read_since is.place _ offset buf got only.device (subst (λ (a : Area). GivesRead mid.device is.place (end_of a - is.place) offset buf got) area is.gives);
    }

pub checked_since : {old mid : LogView} (offset : ℕ) (buf : List ℕ) (result : Result Got KvError) → HasOnlyRead old mid → IfOk result (IsChecked mid offset buf) → IfOk result (IsChecked old offset buf)
checked_since offset buf (Ok got) only is = checked offset buf got only is
checked_since offset buf (Err e) only is = tt

-- only reads, and the same iterators
pub only_read : {old new : LogView} → HasOnlyRead old new → HasRead old new
only_read {old} read = record { device = read.device; log = read.log ∙ λ i. record old.log { iterators = sym (ap (λ (l : LogPart). l.iterators) read.log) i } }

pub read_then : {old mid new : LogView} → HasOnlyRead old mid → HasOnlyRead mid new → HasOnlyRead old new
read_then first second = record { device = OnlyReads-trans first.device second.device; log = second.log ∙ first.log }

-- a header that was looked up belongs to a key that the map had before
pub head_since : {old mid : LogView} (key : List ℕ) (head : PlacedHeader) → HasOnlyRead old mid → IsHeadOf mid key head → ForSome old.device.image (λ image. HasAt old.device.geometry image old.log key head.at)
head_since {old} {mid} key head only is = λ image told.
    subst (λ (g : Geometry). HasAt g image old.log key head.at) only.device.geometry
    (subst (λ (l : LogPart). HasAt mid.device.geometry image l key head.at) only.log (is.has image (only.device.image ∙ told)))

-- a value that was read behind other reads
pub value_since : {old mid : LogView} (new : LogView) (at offset : ℕ) (buf : List ℕ) (result : Result Got KvError) → HasOnlyRead old mid → GivesValue mid new at offset buf result → GivesValue old new at offset buf result
value_since new at offset buf (Ok got) first gives = of_record_since at (λ r. Gives r offset buf got) first.device gives
value_since new at offset buf (Err e) first (inl refusal) = inl (refusal_since new.device e first.device refusal)
value_since new at offset buf (Err e) first (inr beyond) = inr (beyond.0, of_record_since at (λ r. length r.value < offset) first.device beyond.1)

pub says_since : {old mid : LogView} (head : PlacedHeader) → HasOnlyRead old mid → OfRecord mid.device head.at (SaysOf head.header) → OfRecord old.device head.at (SaysOf head.header)
says_since head first says = of_record_since head.at (SaysOf head.header) first.device says

module _ (old new : LogView) (whole : HasOnlyRead old new) (set : Option OpenSet) (who : ℕ) (bytes key : List ℕ) (key_is : key ≡ bytes) (valid : is_key bytes ≡ true) (at : ℕ)
    (located : ForSome old.device.image (λ image. HasAt old.device.geometry image old.log key at)) where
  abbrev g : Geometry
  g = old.device.geometry

  same : new.log.iterators ≡ old.log.iterators
  same = ap (λ (l : LogPart). l.iterators) whole.log

  abbrev state : List ℕ → StoreState
  state image = state_in g old.log set image

  abbrev after : List ℕ → StoreState
  after image = state_in g (record old.log { iterators = new.log.iterators }) set image

  stays : (image : List ℕ) → state image ≡ after image
  stays image = λ i. state_in g (record old.log { iterators = sym same i }) set image

  has : (image : List ℕ) → old.device.image ≡ Some image → HasAt g image old.log bytes at
  has image told = subst (λ (k : List ℕ). HasAt g image old.log k at) key_is (located image told)

  -- ---- get

  module _ (offset room : ℕ) (buf : List ℕ) (long : length buf ≡ room) where
    gives_at : (got : Got) → GivesValue old new at offset buf (Ok got) → (image : List ℕ) (told : old.device.image ≡ Some image) → Gives (record_of bytes (has image told).stored) offset buf got
    gives_at got gives image told = gives image told (record_of bytes (has image told).stored) (has image told).kept.stands

    pub get_answer : (result : Result Got KvError) → GivesValue old new at offset buf result → IfOk result (IsWithin offset room)
        → Answers plain_rules (kv_state old set) (kv_state new set) (answered who (Part bytes offset room) (got_or result buf))
    get_answer (Ok got) gives within =
        ruled old new (only_read whole) set (answered who (Part bytes offset room) (Value (take got.read buf))) refl
        (λ image told.
        let is = gives_at got gives image told in
        let stored = (has image told).stored in
        part_present (constants_of g old.log) (state image) who refl bytes offset room valid stored (has image told).present
        (not_below (length stored.bytes) offset (omega (arith, is.size, within.in_value)))
        ∙ λ i. record { state = stays image i; reply = Value (sym (value_read (record_of bytes stored) offset room buf got long within is) i) })
        (λ s l. refl)
    get_answer (Err e) (inl refusal) within =
        refused old new (only_read whole) set who (Part bytes offset room) e same refl refusal
        (λ image told. part_reads (constants_of g old.log) (state image) who refl bytes offset room valid)
    get_answer (Err e) (inr beyond) within =
        subst (λ (x : KvError). Answers plain_rules (kv_state old set) (kv_state new set) (answered who (Part bytes offset room) (Refused x))) (sym beyond.0)
        (ruled old new (only_read whole) set (answered who (Part bytes offset room) (Refused InvalidSize)) refl
        (λ image told.
        let stored = (has image told).stored in
        part_large (constants_of g old.log) (state image) who refl bytes offset room valid stored (has image told).present
        (below (length stored.bytes) offset (beyond.1 image told (record_of bytes stored) (has image told).kept.stands))
        ∙ λ i. record { state = stays image i; reply = Refused InvalidSize })
        (λ s l. refl))

    facts : (got : Got) → GivesValue old new at offset buf (Ok got) → (image : List ℕ) → old.device.image ≡ Some image
        → (plain_step (constants_of g old.log) (state image) 0 (Info bytes)).reply ≡ Facts got.size got.flags
    facts got gives image told =
        let is = gives_at got gives image told in
        let stored = (has image told).stored in
        ap (λ (o : Outcome). o.reply) (info_present (constants_of g old.log) (state image) 0 refl bytes valid stored (has image told).present)
        ∙ λ i. Facts (sym is.size i) (record { bits = sym is.flags i })

    pub get_got : (result : Result Got KvError) → GivesValue old new at offset buf result → IfOk result (IsWithin offset room)
        → IfOk result (IsGot plain_rules (kv_state old set) bytes room)
    get_got (Ok got) gives within = record {
      fits = omega (arith, within.read);
      facts = λ before is. let from = mapped_from (state_in g old.log set) old.device.image before is in
          subst (λ (b : StoreState). (plain_step (constants_of g old.log) b 0 (Info bytes)).reply ≡ Facts got.size got.flags) from.2
          (facts got gives from.0 from.1);
    }
    get_got (Err e) gives within = tt

  -- ---- info

  pub info_answer : (header : Header) → OfRecord old.device at (SaysOf header)
      → Answers plain_rules (kv_state old set) (kv_state new set) (answered who (Info bytes) (Facts header.value_size (record { bits = header.flags })))
  info_answer header says =
      ruled old new (only_read whole) set (answered who (Info bytes) (Facts header.value_size (record { bits = header.flags }))) refl
      (λ image told.
      let stored = (has image told).stored in
      let is = says image told (record_of bytes stored) (has image told).kept.stands in
      info_present (constants_of g old.log) (state image) who refl bytes valid stored (has image told).present
      ∙ λ i. record { state = stays image i; reply = Facts (sym is.size i) (record { bits = sym is.flags i }) })
      (λ s l. refl)
