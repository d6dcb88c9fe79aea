-- What a mount finds on a device.
use Rattle.std.specs.Prelude.{◌≡◌, ◌↔◌, ℕ, ◌-◌, ◌≤◌, List, [], IsTrue, Some}
use Rattle.std.specs.FinMap.{get}
use Rattle.flash_core.specs.declared.geometry.Geometry.{Geometry}
use Rattle.flash_core.specs.Images.{IsErased}
use Rattle.kv_model.specs.FlaggedMap.{FlaggedMap}
use Rattle.kv_model.specs.Write.{map_of}
use Rattle.record_core.specs.Mounts.{Contents, Holds, Mounts, active_area}
use Rattle.area_log.specs.Areas.{end_of, first_place, IsEnd}
use Rattle.area_log.specs.Listing.{listed}
use Rattle.tdb_mount.specs.declared.mount.Parts.{Parts}
use Rattle.tdb_mount.specs.Choice.{version_in}
use Rattle.tdb_mount.specs.Index.{IsLinked, IsTable, places_of}
use Rattle.tdb_mount.specs.Room.{AreIn, HasRoomFor, area_of}

-- What a mount answers of any device.
pub record IsSafe (g : Geometry) (parts : Parts) : Type 0 where
  pub active : parts.active ≤ 1
  pub end : IsEnd g (area_of g parts.active) parts.end
  pub within : AreIn (area_of g parts.active) parts.table.entries
  pub room : HasRoomFor parts.spare parts.table
  pub spare : parts.spare.entries ≡ []

-- What was found stands for what this image holds. The table has the place of each key's last record, and at that place
-- stands the record by which the key has its value in the map.
pub record IsMountOf (g : Geometry) (hash_bits : ℕ) (image : List ℕ) (parts : Parts) : Type 0 where
  pub contents : Contents
  pub holds : Holds g image contents
  pub active : active_area contents.first contents.second ≡ Some parts.active
  pub version : version_in contents.first contents.second parts.active ≡ Some parts.version
  pub end : parts.end ≡ contents.end
  pub table : IsTable hash_bits (places_of (listed g.prog (first_place g (area_of g parts.active)) contents.records)) parts.table.entries
  pub linked : (key : List ℕ) → IsLinked g.prog image parts.end key
      (get (places_of (listed g.prog (first_place g (area_of g parts.active)) contents.records)) key) (get (map_of contents.records) key)
  pub clean : IsTrue parts.clean ↔ IsErased image parts.end (end_of (area_of g parts.active) - parts.end)

-- A mount of this image, which left that one, gave these parts: they stand for the map to which the image at entry mounts.
pub record MountsAs (g : Geometry) (hash_bits : ℕ) (image left : List ℕ) (parts : Parts) : Type 0 where
  pub map : FlaggedMap
  pub mounts : Mounts g image map
  pub found : IsMountOf g hash_bits left parts
  pub stands : map ≡ map_of found.contents.records
