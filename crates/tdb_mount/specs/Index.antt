-- The places of keys, and a table of them.
use Rattle.std.specs.Prelude.{◌≡◌, ◌↔◌, ℕ, ◌+◌, ◌<◌, ◌≤◌, ◌==◌, if◌then◌else◌, List, [], ◌∷◌, length, Option, Some, None}
use Rattle.std.specs.FinMap as map
use Rattle.std.specs.Ordering.{nat_cmp}
use Rattle.std.specs.Cmp.Lexicographic.{slice_cmp}
use Rattle.kv_model.specs.Flags.{remove_flags}
use Rattle.kv_model.specs.FlaggedMap.{Stored}
use Rattle.kv_model.specs.Write.{Write}
use Rattle.record_core.specs.Log.{IsRecordAt, extent}
use Rattle.area_log.specs.Listing.{Found}
use Rattle.ram_table.specs.declared.table.Entry.{Entry}
use Rattle.ram_table.specs.Find.{IsIndexOf, key_at}
use Rattle.ram_table.specs.Reader.{KeyMap}
use Rattle.ram_table.specs.Table.{entry_at}

-- from keys to the places of their last records
abbrev pub PlaceMap : Type 0
PlaceMap = map.FinMap (slice_cmp nat_cmp) ℕ

-- a record takes its key out, or gives it its place
abbrev pub placed : Found → PlaceMap → PlaceMap
placed found places = if found.header.flags == remove_flags then map.remove places found.key else map.insert places found.key found.at

abbrev pub places_after : PlaceMap → List Found → PlaceMap
places_after places [] = places
places_after places (found ∷ list) = places_after (placed found places) list

-- the place of each key's last record, for keys whose last record is no remove
abbrev pub places_of : List Found → PlaceMap
places_of list = places_after map.empty list

-- some entry has this key and this offset
pub record HasEntry (keys : KeyMap) (entries : List Entry) (key : List ℕ) (offset : ℕ) : Type 0 where
  pub place : ℕ
  pub inside : place < length entries
  pub key_is : key_at keys entries place ≡ key
  pub offset_is : (entry_at entries place).offset ≡ offset

-- The entries have the keys and places of this map and no others, in the order of the keys. The keys stand at the
-- entries' offsets.
pub record IsTableOf (hash_bits : ℕ) (keys : KeyMap) (places : PlaceMap) (entries : List Entry) : Type 0 where
  pub index : IsIndexOf hash_bits keys entries
  pub same : (key : List ℕ) (offset : ℕ) → (map.get places key ≡ Some offset) ↔ HasEntry keys entries key offset

pub record IsTable (hash_bits : ℕ) (places : PlaceMap) (entries : List Entry) : Type 0 where
  pub keys : KeyMap
  pub is : IsTableOf hash_bits keys places entries

-- the record by which a key has this value
abbrev pub record_of : List ℕ → Stored → Write
record_of key stored = record { flags = stored.flags; key = key; value = stored.bytes }

-- that record stands at this place, and ends at or before the end
pub record IsKept (prog : ℕ) (image : List ℕ) (end place : ℕ) (key : List ℕ) (stored : Stored) : Type 0 where
  pub stands : IsRecordAt prog image place (record_of key stored)
  pub inside : place + extent prog (record_of key stored) ≤ end

-- the key has a place exactly where it has a value
abbrev pub IsLinked : ℕ → List ℕ → ℕ → List ℕ → Option ℕ → Option Stored → Type 0
IsLinked prog image end key None None = Unit {0}
IsLinked prog image end key (Some place) (Some stored) = IsKept prog image end place key stored
IsLinked prog image end key None (Some stored) = ⊥
IsLinked prog image end key (Some place) None = ⊥
