-- What a format leaves.
use Rattle.std.specs.Prelude.{◌≡◌, ◌⊎◌, ℕ, List, replicate, Option, Some, None}
use Rattle.flash_core.specs.declared.geometry.Geometry.{Geometry}
use Rattle.flash_core.specs.Images.{put, Torn}
use Rattle.flash_core.specs.Erases.{ErasesUnits}
use Rattle.flash_core.specs.Runs.{Ending, Done, WriteFailed}
use Rattle.flash_core.specs.Sizes.{area_size}
use Rattle.flash_core.specs.State.{DeviceCall}
use Rattle.kv_model.specs.FlaggedMap.{FlaggedMap}
use Rattle.record_core.specs.Mounts.{MasterAt, Mounts, active_area}
use Rattle.record_core.specs.Record.{master_bytes}
use Rattle.record_core.specs.Written.{AppendsRecord, master_of}

-- the image with its first area erased
abbrev pub first_erased : Geometry → List ℕ → List ℕ
first_erased g image = put image 0 (replicate (area_size g) 255)

-- and a master record of version 1 at its start
abbrev pub formatted : Geometry → List ℕ → List ℕ
formatted g image = put (first_erased g image) 0 (master_bytes g.prog 1)

-- a moment of a format: of the erase of the first area's units, in ascending order, and then of the write of its master
abbrev pub Formats : Geometry → List ℕ → Option DeviceCall → List ℕ → Type 0
Formats g image call c =
    ErasesUnits g 0 g.units_per_area image call c ⊎ AppendsRecord g.prog 0 (master_of 1) (first_erased g image) call c

-- No area of the image is valid.
pub record HasNoArea (g : Geometry) (image : List ℕ) : Type 0 where
  pub first : MasterAt g.prog image 0 None
  pub second : MasterAt g.prog image (area_size g) None

-- a moment of a mount: the image at its entry, or, where no area of that is valid, a moment of a format of it
abbrev pub MountsBy : Geometry → List ℕ → Option DeviceCall → List ℕ → Type 0
MountsBy g image call c = ((call ≡ None) × (c ≡ image)) ⊎ (HasNoArea g image × Formats g image call c)

-- What a mount that ended so leaves of an image: all of it where some area is valid. Else it is formatted; where a write
-- failed it stands outside the first area, and where anything else did it is as before or formatted.
abbrev pub LeavesBy : Geometry → List ℕ → List ℕ → Ending → Option ℕ → Type 0
LeavesBy g image left ending (Some area) = left ≡ image
LeavesBy g image left Done None = left ≡ formatted g image
LeavesBy g image left WriteFailed None = Torn 0 (area_size g) image left
LeavesBy g image left ending None = (left ≡ image) ⊎ (left ≡ formatted g image)

abbrev pub Leaves : Geometry → List ℕ → List ℕ → Ending → Type 0
Leaves g image left ending = (first second : Option ℕ) → MasterAt g.prog image 0 first → MasterAt g.prog image (area_size g) second
    → LeavesBy g image left ending (active_area first second)

-- that image mounts to the map to which this one does
abbrev pub MountsAlike : Geometry → List ℕ → List ℕ → Type 0
MountsAlike g image c = (map : FlaggedMap) → Mounts g image map → Mounts g c map
