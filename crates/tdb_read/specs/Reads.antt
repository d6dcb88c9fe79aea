-- What the parts of a reading call answer.
use Rattle.std.specs.Prelude.{◌≡◌, ◌≢◌, ◌⊎◌, ℕ, ◌-◌, ◌<◌, ◌≤◌, IsTrue, List, length, true, false, MatchBool, Option, Some, None, MatchOption, MatchResult, Result, nat_eq}
use Rattle.std.specs.FinMap.{get}
use Rattle.std.specs.List.{starts_with}
use Rattle.std.specs.Option.{ForSome}
use Rattle.base_core.specs.Counts.{Rose}
use Rattle.flash_core.specs.declared.geometry.Geometry.{Geometry}
use Rattle.flash_core.specs.State.{FlashState}
use Rattle.kv_model.specs.declared.call.Got.{Got}
use Rattle.kv_model.specs.declared.error.KvError.{KvError}
use Rattle.kv_model.specs.declared.error.KvError.TheVariants.{Corrupt, InvalidSize, ReadFault}
use Rattle.kv_model.specs.FlaggedMap.{FlaggedMap, Stored}
use Rattle.kv_model.specs.KeyOrder.{is_below}
use Rattle.kv_model.specs.NextKey.{IsNext}
use Rattle.kv_model.specs.Write.{Write, map_of}
use Rattle.record_core.specs.declared.header.Header.{Header}
use Rattle.record_core.specs.Log.{IsRecordAt}
use Rattle.record_core.specs.Lookup.{KeyedSeen}
use Rattle.area_log.specs.declared.read.PlacedHeader.{PlacedHeader}
use Rattle.area_log.specs.Areas.{IsRange, end_of}
use Rattle.area_log.specs.Reading.{Gives, GivesRead}
use Rattle.kv_iters.specs.Calls.{position_of, use_refusal}
use Rattle.ram_table.specs.declared.table.Entry.{Entry}
use Rattle.ram_table.specs.declared.table.Place.{Place}
use Rattle.ram_table.specs.Find.{IsPlaceOf, key_at}
use Rattle.ram_table.specs.Reader.{KeyMap}
use Rattle.ram_table.specs.Table.{entry_at}
use Rattle.tdb_mount.specs.Index.{IsKept}
use Rattle.tdb_mount.specs.Keys.{keys_in}
use Rattle.tdb_read.specs.Views.{LogPart, LogView, area_in, records_in}

-- Why the device did not give what it was read for: a fault, whose count rose and which no steady device has, or a record
-- that does not match, with two values that differ, which a told image never shows.
abbrev pub IsReadRefusal : FlashState → FlashState → KvError → Type 0
IsReadRefusal old new ReadFault = Rose old.read_faults new.read_faults × (IsTrue old.steady → ⊥)
IsReadRefusal old new (Corrupt stored computed) = (stored ≢ computed) × (old.image ≡ None)
IsReadRefusal old new e = ⊥

-- the map that the log stands for
abbrev pub map_in : Geometry → LogPart → List ℕ → FlaggedMap
map_in g log image = map_of (records_in g log image)

-- where the record of a table's entry stands
abbrev pub offset_in : LogPart → ℕ → ℕ
offset_in log at = (entry_at log.table.entries at).offset

-- The map has the key, by the record that stands at this place.
pub record HasAt (g : Geometry) (image : List ℕ) (log : LogPart) (key : List ℕ) (place : ℕ) : Type 0 where
  pub stored : Stored
  pub present : get (map_in g log image) key ≡ Some stored
  pub kept : IsKept g.prog image log.end place key stored

-- where a key stands in the table, or would stand, as the image says
pub record IsLocated (g : Geometry) (image : List ℕ) (log : LogPart) (key : List ℕ) (place : Place) : Type 0 where
  pub place_is : IsPlaceOf log.hash_bits (keys_in g (area_in g log) image) log.table.entries key place
  pub map_is : MatchBool place.found (HasAt g image log key (offset_in log place.at)) (get (map_in g log image) key ≡ None)

-- the same on any device
pub record IsFound (v : LogView) (key : List ℕ) (place : Place) : Type 0 where
  pub inside : place.at ≤ length v.log.table.entries
  pub there : place.found ≡ true → place.at < length v.log.table.entries
  pub located : ForSome v.device.image (λ image. IsLocated v.device.geometry image v.log key place)

-- what a look-up of a key's place answers
abbrev pub Finds : LogView → LogView → List ℕ → Result Place KvError → Type 0
Finds old new key result = MatchResult result (IsFound old key) (IsReadRefusal old.device new.device)

-- no record of the log gives the key a value
abbrev pub Lacks : LogView → List ℕ → Type 0
Lacks v key = ForSome v.device.image (λ image. get (map_in v.device.geometry v.log image) key ≡ None)

-- This header, and the key behind it, were read at the place of an entry of the table, by whose record the map has the key.
pub record IsHeadOf (v : LogView) (key : List ℕ) (head : PlacedHeader) : Type 0 where
  pub entry : ℕ
  pub inside : entry < length v.log.table.entries
  pub at : head.at ≡ offset_in v.log entry
  pub seen : KeyedSeen v.device head.at (end_of (area_in v.device.geometry v.log) - head.at) head.header key
  pub has : ForSome v.device.image (λ image. HasAt v.device.geometry image v.log key head.at)

-- what a look-up of a key's header answers
abbrev pub LooksUp : LogView → LogView → List ℕ → Result (Option PlacedHeader) KvError → Type 0
LooksUp old new key result = MatchResult result (λ found. MatchOption found (Lacks old key) (IsHeadOf new key)) (IsReadRefusal old.device new.device)

-- P of the record that stands at this place, where the device tells its image
abbrev pub OfRecord : FlashState → ℕ → (Write → Type 0) → Type 0
OfRecord s place P = ForSome s.image (λ image. (r : Write) → IsRecordAt s.geometry.prog image place r → P r)

-- the offset lies behind the value
abbrev pub IsBeyond : FlashState → ℕ → ℕ → KvError → Type 0
IsBeyond s place offset e = (e ≡ InvalidSize) × OfRecord s place (λ r. length r.value < offset)

-- what a read of the value at this place answers
abbrev pub GivesValue : LogView → LogView → ℕ → ℕ → List ℕ → Result Got KvError → Type 0
GivesValue old new place offset buf result = MatchResult result
    (λ got. OfRecord old.device place (λ r. Gives r offset buf got))
    (λ e. IsReadRefusal old.device new.device e ⊎ IsBeyond old.device place offset e)

-- What was given of any device: bytes of a value whose CRC was found right, behind a header in the active area.
pub record IsChecked (v : LogView) (offset : ℕ) (buf : List ℕ) (got : Got) : Type 0 where
  pub place : ℕ
  pub inside : IsRange (area_in v.device.geometry v.log) place 24
  pub gives : GivesRead v.device place (end_of (area_in v.device.geometry v.log) - place) offset buf got

-- a header says the flags and the sizes of this record
pub record SaysOf (header : Header) (r : Write) : Type 0 where
  pub flags : header.flags ≡ r.flags
  pub key_size : header.key_size ≡ length r.key
  pub size : header.value_size ≡ length r.value

-- what a read of the header at this place answers
abbrev pub GivesHeader : LogView → LogView → ℕ → Result Header KvError → Type 0
GivesHeader old new place result = MatchResult result
    (λ header. OfRecord old.device place (SaysOf header)) (IsReadRefusal old.device new.device)

-- The keys from this place of a table on that come before another place lack the prefix.
abbrev pub LackBetween : KeyMap → List Entry → List ℕ → ℕ → ℕ → Type 0
LackBetween keys entries prefix from to = (i : ℕ) → from ≤ i → i < to → starts_with nat_eq (key_at keys entries i) prefix ≡ false

-- the first key from a place on that has the prefix
pub record IsFirst (keys : KeyMap) (entries : List Entry) (prefix : List ℕ) (from : ℕ) (key : List ℕ) : Type 0 where
  pub at : ℕ
  pub from_on : from ≤ at
  pub inside : at < length entries
  pub key_is : key_at keys entries at ≡ key
  pub has : starts_with nat_eq key prefix ≡ true
  pub before : LackBetween keys entries prefix from at

abbrev pub IsFirstOrNone : KeyMap → List Entry → List ℕ → ℕ → Option (List ℕ) → Type 0
IsFirstOrNone keys entries prefix from None = LackBetween keys entries prefix from (length entries)
IsFirstOrNone keys entries prefix from (Some key) = IsFirst keys entries prefix from key

-- Before this place stand the keys that are not above the last one given.
abbrev pub IsBehind : ℕ → KeyMap → List Entry → Option (List ℕ) → ℕ → Type 0
IsBehind hash_bits keys entries None at = at ≡ 0
IsBehind hash_bits keys entries (Some last) at =
    ((i : ℕ) → i < at → is_below hash_bits last (key_at keys entries i) ≡ false)
    × ((i : ℕ) → at ≤ i → i < length entries → IsTrue (is_below hash_bits last (key_at keys entries i)))

-- what a look for the next key of an iterator answers
abbrev pub GivesNext : LogView → LogView → ℕ → ℕ → Result (Option (List ℕ)) KvError → Type 0
GivesNext old new who n result = MatchResult result
    (λ found. (use_refusal old.log.iterators who n ≡ None)
    × ForSome old.device.image (λ image. IsNext old.log.hash_bits (map_in old.device.geometry old.log image) (position_of old.log.iterators who n) found))
    (λ e. (use_refusal old.log.iterators who n ≡ Some e)
    ⊎ ((use_refusal old.log.iterators who n ≡ None) × IsReadRefusal old.device new.device e))
