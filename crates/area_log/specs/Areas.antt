-- One area of a device, and its ends.
use Rattle.std.specs.Prelude.{◌≡◌, ℕ, ◌+◌, ◌≤◌, List, length}
use Rattle.flash_core.specs.declared.geometry.Geometry.{Geometry}
use Rattle.flash_core.specs.Sizes.{IsValid, area_size}
use Rattle.base_core.specs.Units.{IsMultipleOf}
use Rattle.base_core.specs.Sizes.{master_size}
use Rattle.record_core.specs.Written.{IsArea}
use Rattle.area_log.specs.declared.area.Area.{Area}

-- the place behind an area's last byte
abbrev pub end_of : Area → ℕ
end_of area = area.base + area.size

-- one of the two areas of a device
pub record IsAreaOf (g : Geometry) (area : Area) : Type 0 where
  pub base : IsArea g area.base
  pub size : area.size ≡ area_size g

-- An area of a device of a valid geometry, and a buffer of at least 64 bytes and at least a program unit.
pub record CanWork (g : Geometry) (area : Area) (work : List ℕ) : Type 0 where
  pub valid : IsValid g
  pub is_area : IsAreaOf g area
  pub unit : g.prog ≤ length work
  pub least : 64 ≤ length work

-- the place of an area's first record, behind the room of its master record
abbrev pub first_place : Geometry → Area → ℕ
first_place g area = area.base + master_size g.prog

-- a place of an area, its end included
pub record IsIn (area : Area) (place : ℕ) : Type 0 where
  pub from : area.base ≤ place
  pub to : place ≤ end_of area

-- a place at which a record may begin, or the place behind the last one
pub record IsEnd (g : Geometry) (area : Area) (place : ℕ) : Type 0 where
  pub inside : IsIn area place
  pub aligned : IsMultipleOf g.prog place

-- n bytes of an area from this place on
pub record IsRange (area : Area) (place n : ℕ) : Type 0 where
  pub from : area.base ≤ place
  pub to : place + n ≤ end_of area
