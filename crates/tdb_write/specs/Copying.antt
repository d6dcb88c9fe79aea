-- A copy of a log in the other area, to which only its master record is missing.
use Rattle.std.specs.Prelude.{◌≡◌, ℕ, ◌+◌, ◌-◌, ◌<◌, ◌≤◌, ◌%◌, ◌^◌, List, [], length, true}
use Rattle.std.specs.FinMap as map
use Rattle.std.specs.Option.{ForSome}
use Rattle.flash_core.specs.declared.geometry.Geometry.{Geometry}
use Rattle.base_core.specs.Sizes.{master_size}
use Rattle.flash_core.specs.Images.{IsErased}
use Rattle.kv_model.specs.FlaggedMap.{FlaggedMap}
use Rattle.kv_model.specs.LogStep.{AreLive, IsCollected}
use Rattle.kv_model.specs.Opening.{Log}
use Rattle.kv_model.specs.Write.{map_of}
use Rattle.area_collect.specs.Collection.{with_master}
use Rattle.record_core.specs.Cuts.{base_of}
use Rattle.tdb_mount.specs.Room.{area_of}
use Rattle.ram_table.specs.declared.table.Place.{Place}
use Rattle.tdb_read.specs.Reads.{IsFound, IsLocated, map_in}
use Rattle.tdb_write.specs.Changes.{IsReserved}
use Rattle.tdb_read.specs.Views.{IsLogOf, IsSafe, LogPart, LogView, records_in}

-- the log once the other area, in which copies end here, is the active one
abbrev pub completed : LogPart → ℕ → LogPart
completed log end = record log {
  active = 1 - log.active;
  version = (log.version + 1) % 2 ^ 16;
  end = end;
  is_clean = true;
  table = log.spare;
  spare = log.table;
}

-- the image with the master record of the next version in the other area
abbrev pub completed_image : Geometry → LogPart → List ℕ → List ℕ
completed_image g log image = with_master g (area_of g (1 - log.active)) ((log.version + 1) % 2 ^ 16) image

-- The image would then have that log, with the live records of this map; until then the place of its master record is
-- erased.
pub record IsCopyOf (g : Geometry) (image : List ℕ) (log : LogPart) (end : ℕ) (m : FlaggedMap) : Type 0 where
  pub log_of : IsLogOf g (completed_image g log image) (completed log end)
  pub live : AreLive log.hash_bits m (records_in g (completed log end) (completed_image g log image))
  pub blank : IsErased image (base_of g (1 - log.active)) (master_size g.prog)

-- The other area has copies of the live records of what `after` makes of the log's map, which end here.
pub record IsPreparedFor (v : LogView) (end : ℕ) (after : FlaggedMap → FlaggedMap) : Type 0 where
  pub safe : IsSafe v.device.geometry (completed v.log end)
  pub copy : ForSome v.device.image (λ image. IsCopyOf v.device.geometry image v.log end (after (map_in v.device.geometry v.log image)))

-- the map without a key
abbrev pub without : List ℕ → FlaggedMap → FlaggedMap
without key m = map.remove m key

-- no key
abbrev pub emptied : FlaggedMap → FlaggedMap
emptied m = map.empty

-- The other area has copies of all live records but the key's, which end here.
abbrev pub IsPrepared : LogView → ℕ → List ℕ → Type 0
IsPrepared v end key = IsPreparedFor v end (without key)

-- A master record may be written before copies that end here.
pub record CanComplete (v : LogView) (end : ℕ) : Type 0 where
  pub safe : IsSafe v.device.geometry (completed v.log end)
  pub blank : ForSome v.device.image (λ image. IsErased image (base_of v.device.geometry (1 - v.log.active)) (master_size v.device.geometry.prog))

-- the other area, of the next version, with the live records of what `after` makes of the map
abbrev pub IsRenewed : ℕ → (FlaggedMap → FlaggedMap) → Log → Log → Type 0
IsRenewed hash_bits after old new = IsCollected hash_bits (after (map_of old.records)) [] old new

-- nothing but the table of copies has changed in memory
abbrev pub SameButSpare : LogPart → LogPart → Type 0
SameButSpare old new = new ≡ record old { spare = new.spare }

-- Where a key will stand in the table once the copies that end here are the log.
pub record IsFoundCopied (v : LogView) (end : ℕ) (key : List ℕ) (place : Place) : Type 0 where
  pub inside : place.at ≤ length v.log.spare.entries
  pub there : place.found ≡ true → place.at < length v.log.spare.entries
  pub located : ForSome v.device.image (λ image.
      IsLocated v.device.geometry (completed_image v.device.geometry v.log image) (completed v.log end) key place)

-- The log was collected: its tail is clean, and its tables have as many entries and no less room.
pub record HasTurned (old new : LogPart) : Type 0 where
  pub clean : new.is_clean ≡ true
  pub count : length new.table.entries ≡ length old.table.entries
  pub reserved : IsReserved old → IsReserved new

-- A key was found at this entry of the table.
pub record IsFoundAt (v : LogView) (key : List ℕ) (place : Place) (at : ℕ) : Type 0 where
  pub found : IsFound v key place
  pub there : place.found ≡ true
  pub at_is : place.at ≡ at
