-- Records copied from one area of a device to the other.
use Rattle.std.specs.Prelude.{◌≡◌, ◌≢◌, ◌⊎◌, ℕ, ◌+◌, ◌-◌, ◌<◌, ◌≤◌, min, List, [], ◌∷◌, ◌++◌, length, take, drop, Some}
use Rattle.std.specs.Option.{ForSome}
use Rattle.base_core.specs.Units.{up}
use Rattle.flash_core.specs.declared.geometry.Geometry.{Geometry}
use Rattle.flash_core.specs.Images.{put}
use Rattle.flash_core.specs.State.{FlashState}
use Rattle.kv_model.specs.declared.error.KvError.{KvError}
use Rattle.kv_model.specs.Write.{Write}
use Rattle.record_core.specs.declared.header.Header.{Header}
use Rattle.record_core.specs.Header.{IsHeader, header_bytes}
use Rattle.record_core.specs.Log.{extent, spelling_of}
use Rattle.record_core.specs.Lookup.{HeadBroken, IsSeen}
use Rattle.record_core.specs.Record.{header_of, padded}
use Rattle.area_log.specs.declared.area.Area.{Area}
use Rattle.area_log.specs.Areas.{end_of, IsAreaOf, IsRange}
use Rattle.area_log.specs.Reading.{IsMismatch, sum_of}
use Rattle.ram_table.specs.declared.table.Entry.{Entry}
use Rattle.ram_table.specs.Table.{entry_at}
use Rattle.area_collect.specs.declared.entries.Route.{Route}

-- ---- one record

-- A record was read at this place, one that takes at most this room: its header, and behind it its key and its value.
pub record IsReadAt (s : FlashState) (place room : ℕ) (r : Write) : Type 0 where
  pub valid : IsHeader r.flags (length r.key) (length r.value)
  pub header : IsSeen s place 24 (header_bytes (header_of r.flags r.key r.value))
  pub payload : IsSeen s (place + up s.geometry.prog 24) (length r.key + length r.value) (r.key ++ r.value)
  pub within : extent s.geometry.prog r ≤ room

-- why none was: the bytes there spell no header of a record that takes at most this room, or the CRC in the header is
-- not that of what was read
abbrev pub IsNotReadAt : FlashState → ℕ → ℕ → KvError → Type 0
IsNotReadAt s place room e = HeadBroken s place room e ⊎ IsMismatch s place room e

-- A payload was read, whose CRC is the header's, and stands at the target.
pub record HasCopiedPayload (old new : FlashState) (source target : ℕ) (header : Header) : Type 0 where
  pub payload : List ℕ
  pub seen : IsSeen old source (header.key_size + header.value_size) payload
  pub right : header.crc ≡ sum_of header payload
  pub written : ForSome old.image (λ image. new.image ≡ Some (put image target (padded old.geometry.prog payload)))

-- A record was read, and stands at the target; this is the place behind it.
pub record HasCopiedRecord (old new : FlashState) (place target room end : ℕ) : Type 0 where
  pub this : Write
  pub read : IsReadAt old place room this
  pub end_is : end ≡ target + extent old.geometry.prog this
  pub written : ForSome old.image (λ image. new.image ≡ Some (put image target (spelling_of old.geometry.prog this)))

-- ---- records of entries

-- how many bytes a record at a place may take whose copy begins where the copies end so far: it ends in both areas
abbrev pub room_for : Route → ℕ → ℕ → ℕ
room_for route place end = min (end_of route.from - place) (end_of route.to - end)

-- these records were read at the entries' places, one for each, and each fits behind those before it
abbrev pub AreRead : FlashState → Route → ℕ → List Entry → List Write → Type 0
AreRead s route end [] [] = Unit {0}
AreRead s route end [] (r ∷ rs) = ⊥
AreRead s route end (e ∷ es) [] = ⊥
AreRead s route end (e ∷ es) (r ∷ rs) = IsReadAt s e.offset (room_for route e.offset end) r × AreRead s route (end + extent s.geometry.prog r) es rs

-- the place behind records that stand from a place on
abbrev pub end_behind : ℕ → ℕ → List Write → ℕ
end_behind prog place [] = place
end_behind prog place (r ∷ rs) = end_behind prog (place + extent prog r) rs

-- their bytes
abbrev pub spellings : ℕ → List Write → List ℕ
spellings prog [] = []
spellings prog (r ∷ rs) = spelling_of prog r ++ spellings prog rs

-- the entries with the places of these copies, which stand from a place on
abbrev pub moved : ℕ → ℕ → List Entry → List Write → List Entry
moved prog place [] rs = []
moved prog place (e ∷ es) [] = []
moved prog place (e ∷ es) (r ∷ rs) = record { hash = e.hash; offset = place } ∷ moved prog (place + extent prog r) es rs

-- the entries from one place of a table to another
abbrev pub segment : List Entry → ℕ → ℕ → List Entry
segment entries first last = take (last - first) (drop first entries)

-- The areas of a device between which a copy goes.
pub record IsRoute (g : Geometry) (route : Route) : Type 0 where
  pub from : IsAreaOf g route.from
  pub to : IsAreaOf g route.to
  pub apart : route.from.base ≢ route.to.base

-- each entry's header lies in the area
abbrev pub AreIn : Area → List Entry → Type 0
AreIn area entries = (i : ℕ) → i < length entries → IsRange area (entry_at entries i).offset 24

-- A copy to be made, of the records of these entries.
pub record Copy : Type 0 where
  pub route : Route
  pub entries : List Entry

-- How far it is: the place behind the copies, and their entries.
pub record Copied : Type 0 where
  pub end : ℕ
  pub entries : List Entry

-- Records were read, and stand one behind another from where the copies ended, with their entries behind the others.
pub record HasCopiedMore (old new : FlashState) (copy : Copy) (before now : Copied) : Type 0 where
  pub records : List Write
  pub read : AreRead old copy.route before.end copy.entries records
  pub end_is : now.end ≡ end_behind old.geometry.prog before.end records
  pub entries_are : now.entries ≡ before.entries ++ moved old.geometry.prog before.end copy.entries records
  pub written : ForSome old.image (λ image. new.image ≡ Some (put image before.end (spellings old.geometry.prog records)))

-- A record was not read, and those of the entries before it were; their copies begin at this place.
pub record IsNotCopied (s : FlashState) (copy : Copy) (place : ℕ) (e : KvError) : Type 0 where
  pub before : List Entry
  pub this : Entry
  pub after : List Entry
  pub entries_are : copy.entries ≡ before ++ this ∷ after
  pub records : List Write
  pub read : AreRead s copy.route place before records
  pub not_read : IsNotReadAt s this.offset (room_for copy.route this.offset (end_behind s.geometry.prog place records)) e
