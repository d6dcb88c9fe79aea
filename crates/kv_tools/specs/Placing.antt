-- The records at the places of a table's entries.
use Rattle.std.specs.Prelude.{◌≡◌, ◌≢◌, ℕ, ◌+◌, ◌<◌, ◌≤◌, List, length, map, Some}
use Rattle.flash_core.specs.declared.geometry.Geometry.{Geometry}
use Rattle.flash_core.specs.State.{FlashState}
use Rattle.kv_model.specs.Flags.{remove_flags}
use Rattle.kv_model.specs.Write.{Write}
use Rattle.record_core.specs.declared.header.Header.{Header}
use Rattle.record_core.specs.Log.{IsRecordAt, extent}
use Rattle.area_log.specs.declared.area.Area.{Area}
use Rattle.area_log.specs.Areas.{end_of}
use Rattle.ram_table.specs.declared.table.Entry.{Entry}
use Rattle.ram_table.specs.Table.{entry_at}
use Rattle.tdb_mount.specs.declared.mount.Parts.{Parts}
use Rattle.tdb_mount.specs.Room.{area_of}
use Rattle.tdb_read.specs.Records.{record_at}

-- the device tells its image, and this holds of it
abbrev pub Tells : FlashState → (List ℕ → Type 0) → Type 0
Tells s P = (image : List ℕ) × (s.image ≡ Some image) × P image

-- A record that is no remove stands at this place of an area, and ends in it.
pub record HoldsLive (g : Geometry) (image : List ℕ) (area : Area) (place : ℕ) : Type 0 where
  pub this : Write
  pub stands : IsRecordAt g.prog image place this
  pub inside : place + extent g.prog this ≤ end_of area
  pub kept : this.flags ≢ remove_flags

-- one does at the place of each entry that a mount found
abbrev pub AreHeld : Geometry → List ℕ → Parts → Type 0
AreHeld g image parts = (i : ℕ) → i < length parts.table.entries → HoldsLive g image (area_of g parts.active) (entry_at parts.table.entries i).offset

-- the records at these places
abbrev pub records_at : ℕ → List ℕ → List Entry → List Write
records_at prog image entries = map (λ e. record_at prog image e.offset) entries

-- A header and a key are those of a record.
pub record IsHeadOf (r : Write) (key : List ℕ) (header : Header) : Type 0 where
  pub key_is : key ≡ r.key
  pub flags : header.flags ≡ r.flags
  pub size : header.value_size ≡ length r.value
