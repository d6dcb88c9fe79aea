-- The choice between two areas.
use Rattle.std.specs.Prelude.{◌≡◌, ℕ, ◌==◌, if◌then◌else◌, List, Option, Some, None}
use Rattle.flash_core.specs.declared.geometry.Geometry.{Geometry}
use Rattle.flash_core.specs.Sizes.{area_size}
use Rattle.record_core.specs.Mounts.{MasterAt, active_area}
use Rattle.tdb_mount.specs.declared.active.Active.{Active}

-- the version of the area of this number, given both
abbrev pub version_in : Option ℕ → Option ℕ → ℕ → Option ℕ
version_in first second number = if number == 0 then first else second

-- This area is the active one of two with these versions, or neither is valid.
abbrev pub IsChoice : Option ℕ → Option ℕ → Option Active → Type 0
IsChoice first second None = active_area first second ≡ None
IsChoice first second (Some active) =
    (active_area first second ≡ Some active.number) × (version_in first second active.number ≡ Some active.version)

-- This is the active area of the image, or none of its areas is valid.
pub record ChosenIn (g : Geometry) (image : List ℕ) (found : Option Active) : Type 0 where
  pub first : Option ℕ
  pub second : Option ℕ
  pub first_master : MasterAt g.prog image 0 first
  pub second_master : MasterAt g.prog image (area_size g) second
  pub choice : IsChoice first second found

-- The image has this active area, of this version.
abbrev pub IsActiveIn : Geometry → List ℕ → Active → Type 0
IsActiveIn g image active = ChosenIn g image (Some active)
