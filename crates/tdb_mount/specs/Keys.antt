-- The keys of a device by the places of their records.
use Rattle.std.specs.Prelude.{◌≡◌, ℕ, zero, suc, ◌+◌, ◌-◌, ◌≤◌, ◌==◌, ◌&&◌, ◌||◌, not, nat_le, if◌then◌else◌, Bool, IsTrue, List, slice_range, Option, Some, None, true, false, MatchOption}
use Rattle.std.specs.FinMap.{empty, insert}
use Rattle.std.specs.Int.{w16, w32, from_le_bytes}
use Rattle.std.specs.Option.{option_map}
use Rattle.std.specs.Str.{bytes_eq}
use Rattle.flash_core.specs.declared.geometry.Geometry.{Geometry}
use Rattle.flash_core.specs.Images.{part}
use Rattle.flash_core.specs.State.{FlashState}
use Rattle.kv_model.specs.declared.limits.TheConstants.{MAX_KEY, MAX_VALUE}
use Rattle.kv_model.specs.Flags.{remove_flags}
use Rattle.kv_model.specs.Keys.{is_key}
use Rattle.base_core.specs.Units.{up}
use Rattle.base_core.specs.Sizes.{record_size}
use Rattle.record_core.specs.declared.header.Header.{Header}
use Rattle.record_core.specs.Header.{IsValid, header_bytes}
use Rattle.record_core.specs.Lookup.{KeyedSeen}
use Rattle.area_log.specs.declared.area.Area.{Area}
use Rattle.area_log.specs.declared.read.PlacedHeader.{PlacedHeader}
use Rattle.area_log.specs.Areas.{end_of}
use Rattle.ram_table.specs.declared.table.Entry.{Entry}
use Rattle.ram_table.specs.Reader.{KeyMap, ReaderState}
use Rattle.ram_table.specs.Table.{entry_at}
use Rattle.tdb_mount.specs.declared.lookup.Seen.{Seen}

-- A header stands at this place whose record would end at or before this end, and behind it this key.
pub record SpellsKey (prog : ℕ) (image : List ℕ) (end place : ℕ) (key : List ℕ) : Type 0 where
  pub header : Header
  pub spelled : part image place 24 ≡ header_bytes header
  pub valid : IsValid header
  pub inside : place + record_size prog header.key_size header.value_size ≤ end
  pub key_is : key ≡ part image (place + up prog 24) header.key_size
  pub is_key : IsTrue (is_key key)

-- the fields of 24 bytes, whatever they are
abbrev pub fields_of : List ℕ → Header
fields_of bytes = record {
  flags = from_le_bytes w32 (slice_range bytes 8 12);
  key_size = from_le_bytes w16 (slice_range bytes 12 14);
  value_size = from_le_bytes w32 (slice_range bytes 16 20);
  crc = from_le_bytes w32 (slice_range bytes 20 24);
}

unfoldable pub is_header : Header → Bool
is_header header =
    (header.flags == 0 || header.flags == 1 || header.flags == remove_flags)
    && nat_le 1 header.key_size && nat_le header.key_size MAX_KEY && nat_le header.value_size MAX_VALUE
    && (not (header.flags == remove_flags) || header.value_size == 0)

-- the key behind this header, where it is that of this place and its record would end at or before this end
unfoldable pub key_behind : ℕ → List ℕ → ℕ → ℕ → Header → Option (List ℕ)
key_behind prog image end place header =
    if bytes_eq (part image place 24) (header_bytes header) && is_header header
    && nat_le (place + record_size prog header.key_size header.value_size) end
    && is_key (part image (place + up prog 24) header.key_size)
    then Some (part image (place + up prog 24) header.key_size) else None

-- the key that a place spells
abbrev pub key_spelled : ℕ → List ℕ → ℕ → ℕ → Option (List ℕ)
key_spelled prog image end place = key_behind prog image end place (fields_of (part image place 24))

abbrev pub noted : ℕ → Option (List ℕ) → KeyMap → KeyMap
noted place None keys = keys
noted place (Some key) keys = insert keys place key

-- what f gives of each number below n
unfoldable pub tabulate : (ℕ → Option (List ℕ)) → ℕ → KeyMap
tabulate f zero = empty
tabulate f (suc n) = noted n (f n) (tabulate f n)

-- the keys of an area
abbrev pub keys_in : Geometry → Area → List ℕ → KeyMap
keys_in g area image = tabulate (key_spelled g.prog image (end_of area)) (end_of area)

-- what a reader of the keys of an area, which has refused so many reads, is to a table
abbrev pub keys_of : FlashState → Area → ℕ → ℕ → ReaderState
keys_of s area hash_bits refusals = record {
  bound = end_of area - 24;
  hash_bits = hash_bits;
  read_faults = s.read_faults;
  refusals = refusals;
  steady = s.steady;
  sound = s.sound;
  keys = option_map (keys_in s.geometry area) s.image;
}

-- This header was read at this place of an area, and behind it this key.
pub record IsHeadAt (s : FlashState) (area : Area) (place : ℕ) (key : List ℕ) (head : PlacedHeader) : Type 0 where
  pub at : head.at ≡ place
  pub seen : KeyedSeen s place (end_of area - place) head.header key

-- the header that was read last is that of the record at this place, whose key is this
abbrev pub IsLast : FlashState → Area → Option PlacedHeader → ℕ → List ℕ → Type 0
IsLast s area last place key = MatchOption last ⊥ (IsHeadAt s area place key)

-- a header is there exactly where the key was found, and is that of the key's entry
abbrev pub HasHead : FlashState → Area → List Entry → List ℕ → Seen → Type 0
HasHead s area entries key seen = MatchOption seen.head (seen.place.found ≡ false)
    (λ head. (seen.place.found ≡ true) × IsHeadAt s area (entry_at entries seen.place.at).offset key head)
