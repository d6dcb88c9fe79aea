-- What a power cut inside a program or erase leaves of what an image holds.
use Rattle.std.specs.Prelude.{◌≡◌, ◌⊎◌, ℕ, zero, suc, ◌+◌, ◌*◌, ◌<◌, ◌≤◌, List, Option, Some, slice_index}
use Rattle.flash_core.specs.declared.geometry.Geometry.{Geometry}
use Rattle.flash_core.specs.Images.{Torn, part}
use Rattle.flash_core.specs.Sizes.{area_size}
use Rattle.base_core.specs.Units.{up}
use Rattle.base_core.specs.Sizes.{master_size}
use Rattle.record_core.specs.Mounts.{Contents, Holds, active_area}
use Rattle.record_core.specs.Record.{IsMaster}

-- the number of the active area
abbrev pub active_of : Contents → Option ℕ
active_of c = active_area c.first c.second

-- the version of an area's master record, by the area's number
abbrev pub version_of : ℕ → Contents → Option ℕ
version_of zero c = c.first
version_of (suc k) c = c.second

-- the same with another version there, or with no master record there
abbrev pub with_version : ℕ → Option ℕ → Contents → Contents
with_version zero version c = record { first = version; second = c.second; records = c.records; end = c.end }
with_version (suc k) version c = record { first = c.first; second = version; records = c.records; end = c.end }

-- where an area begins, by its number
abbrev pub base_of : Geometry → ℕ → ℕ
base_of g k = k * area_size g

-- The n bytes from this place on lie in the area of this number.
pub record IsInArea (g : Geometry) (k place n : ℕ) : Type 0 where
  pub number : (k ≡ 0) ⊎ (k ≡ 1)
  pub from : base_of g k ≤ place
  pub to : place + n ≤ base_of g k + area_size g

-- Of the n bytes from this place on none is of an area's master record, or none can make one, since the area's first
-- byte is erased and is not among them.
abbrev pub IsApartFromMaster : Geometry → List ℕ → ℕ → ℕ → ℕ → Type 0
IsApartFromMaster g image area place n =
    (area + master_size g.prog ≤ place) ⊎ (place + n ≤ area) ⊎ ((area < place) × (slice_index image area ≡ 255))

-- None of them is of the area's records, or they lie behind the end, where an erased byte stands.
abbrev pub IsApartFromRecords : Geometry → List ℕ → ℕ → ℕ → ℕ → ℕ → Type 0
IsApartFromRecords g image k end place n =
    (base_of g k + area_size g ≤ place) ⊎ (place + n ≤ base_of g k) ⊎ ((end < place) × (slice_index image end ≡ 255))

-- They are apart from all that the image holds.
pub record IsApart (g : Geometry) (image : List ℕ) (c : Contents) (place n : ℕ) : Type 0 where
  pub first : IsApartFromMaster g image 0 place n
  pub second : IsApartFromMaster g image (area_size g) place n
  pub records : (k : ℕ) → active_of c ≡ Some k → IsApartFromRecords g image k c.end place n

-- Two images that a cut of one call may leave of an image: the torn one, and the whole one.
pub record AreCut (before after torn : List ℕ) (place n : ℕ) : Type 0 where
  pub whole : Torn place n before after
  pub cut : Torn place n before torn

-- The header of a record is programmed where the records of the active area end, on an erased byte.
pub record IsHeaderCall (g : Geometry) (before after torn : List ℕ) (c : Contents) (k n : ℕ) : Type 0 where
  pub holds : Holds g before c
  pub active : active_of c ≡ Some k
  pub erased : slice_index before c.end ≡ 255
  pub in_header : n ≤ up g.prog 24
  pub inside : c.end + n ≤ base_of g k + area_size g
  pub cut : AreCut before after torn c.end n

-- The first bytes of an area that isn't active are programmed or erased.
pub record IsMasterCall (g : Geometry) (before after torn : List ℕ) (c : Contents) (k n : ℕ) : Type 0 where
  pub holds : Holds g before c
  pub number : (k ≡ 0) ⊎ (k ≡ 1)
  pub spare : active_of c ≡ Some k → ⊥
  pub inside : n ≤ area_size g
  pub cut : AreCut before after torn (base_of g k) n

-- The same master record begins the area in both images.
pub record ShareMaster (g : Geometry) (after torn : List ℕ) (area : ℕ) : Type 0 where
  pub version : ℕ
  pub stands : IsMaster g.prog version (part after area (master_size g.prog))
  pub same : part torn area (master_size g.prog) ≡ part after area (master_size g.prog)
