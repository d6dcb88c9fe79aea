-- What contracts see of a mounted log: its device, and what it keeps in memory.
use Rattle.std.specs.Prelude.{◌≡◌, ◌↔◌, ℕ, ◌-◌, ◌≤◌, Bool, IsTrue, List, length, Option, Some}
use Rattle.std.specs.Option.{ForSome}
use Rattle.flash_core.specs.declared.geometry.Geometry.{Geometry}
use Rattle.flash_core.specs.Calls.{OnlyReads}
use Rattle.flash_core.specs.Images.{IsErased}
use Rattle.flash_core.specs.Sizes.{IsValid}
use Rattle.flash_core.specs.State.{FlashState}
use Rattle.kv_model.specs.StoreState.{Iterators}
use Rattle.kv_model.specs.Write.{Write}
use Rattle.record_core.specs.Mounts.{Holds, active_area}
use Rattle.area_log.specs.declared.area.Area.{Area}
use Rattle.area_log.specs.Areas.{IsEnd, end_of, first_place}
use Rattle.area_log.specs.Listing.{listed}
use Rattle.ram_table.specs.Table.{TableState}
use Rattle.tdb_mount.specs.Choice.{version_in}
use Rattle.tdb_mount.specs.Index.{IsTable, places_of}
use Rattle.tdb_mount.specs.Room.{AreIn, HasRoomFor, area_of}
use Rattle.tdb_read.specs.declared.log.MountedLog.{MountedLog}
use Rattle.tdb_read.specs.Records.{records_between}

-- what is kept in memory: of the work buffer only how long it is
pub record LogPart : Type 0 where
  -- how many low bits of a key's CRC are its hash
  pub hash_bits : ℕ
  -- the number of the active area, and its version
  pub active : ℕ
  pub version : ℕ
  -- the place behind the last record, and whether the area is erased from there on
  pub end : ℕ
  pub is_clean : Bool
  pub table : TableState
  pub spare : TableState
  pub iterators : Iterators
  pub work : ℕ
  -- the buffer of one program unit, in which an incremental set may wait
  pub unit : List ℕ

pub record LogView : Type 1 where
  pub device : FlashState
  pub log : LogPart

abbrev pub view_of : {F : Type 0} → (F → FlashState) → MountedLog F → LogView
view_of state m = record {
  device = state m.flash;
  log = record {
    hash_bits = m.hash_bits;
    active = m.active;
    version = m.version;
    end = m.end;
    is_clean = m.is_clean;
    table = m.table;
    spare = m.spare;
    iterators = m.iterators;
    work = length m.work.items;
    unit = m.unit.items;
  };
}

-- the active area, and its records
abbrev pub area_in : Geometry → LogPart → Area
area_in g log = area_of g log.active

abbrev pub records_in : Geometry → LogPart → List ℕ → List Write
records_in g log image = records_between g.prog image (first_place g (area_in g log)) log.end

-- What a log keeps over any device of this geometry: its places lie in the active area, and its buffers are long enough.
pub record IsSafe (g : Geometry) (log : LogPart) : Type 0 where
  pub valid : IsValid g
  pub hash_bits : log.hash_bits ≤ 32
  pub active : log.active ≤ 1
  pub end : IsEnd g (area_in g log) log.end
  pub within : AreIn (area_in g log) log.table.entries
  pub room : HasRoomFor log.spare log.table
  pub work : log.work ≡ 4096
  pub unit : length log.unit ≡ g.prog

-- It is the log of this image: the active area and its version, its records up to the end, and the table of them.
pub record IsLogOf (g : Geometry) (image : List ℕ) (log : LogPart) : Type 0 where
  -- the versions of the areas that are valid
  pub first : Option ℕ
  pub second : Option ℕ
  pub active : active_area first second ≡ Some log.active
  pub version : version_in first second log.active ≡ Some log.version
  pub holds : Holds g image (record { first = first; second = second; records = records_in g log image; end = log.end })
  pub table : IsTable log.hash_bits (places_of (listed g.prog (first_place g (area_in g log)) (records_in g log image))) log.table.entries
  pub clean : IsTrue log.is_clean ↔ IsErased image log.end (end_of (area_in g log) - log.end)

-- What a log keeps at every moment.
pub record IsReady (v : LogView) : Type 0 where
  pub safe : IsSafe v.device.geometry v.log
  pub stands : ForSome v.device.image (λ image. IsLogOf v.device.geometry image v.log)

-- A call that has only read the device, and changed no more than the iterators.
pub record HasRead (old new : LogView) : Type 0 where
  pub device : OnlyReads old.device new.device
  pub log : new.log ≡ record old.log { iterators = new.log.iterators }

-- the same, the iterators included
pub record HasOnlyRead (old new : LogView) : Type 0 where
  pub device : OnlyReads old.device new.device
  pub log : new.log ≡ old.log

module _ {F : Type 0} (state : F → FlashState) where
  abbrev pub Ready : MountedLog F → Type 0
  Ready m = IsReady (view_of state m)

  abbrev pub OnlyRead : MountedLog F → MountedLog F → Type 0
  OnlyRead old new = HasOnlyRead (view_of state old) (view_of state new)
