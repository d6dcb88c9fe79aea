-- What an image of two areas holds, and the map to which it mounts.
use Rattle.std.specs.Prelude.{◌≡◌, ℕ, ◌+◌, ◌*◌, ◌%◌, ◌^◌, ◌==◌, if◌then◌else◌, List, [], ◌∷◌, ◌++◌, length, Option, Some, None}
use Rattle.flash_core.specs.declared.geometry.Geometry.{Geometry}
use Rattle.flash_core.specs.Images.{part}
use Rattle.flash_core.specs.Sizes.{area_size}
use Rattle.kv_model.specs.FlaggedMap.{FlaggedMap}
use Rattle.kv_model.specs.Write.{Write, map_of}
use Rattle.base_core.specs.Sizes.{master_size}
use Rattle.record_core.specs.Record.{IsMaster, master_bytes}
use Rattle.record_core.specs.Log.{AreAllRecords, extent, spelling_of}

-- the version of the master record that begins the area at this place, or none where none does
abbrev pub MasterAt : ℕ → List ℕ → ℕ → Option ℕ → Type 0
MasterAt prog image area None = (version : ℕ) → IsMaster prog version (part image area (master_size prog)) → ⊥
MasterAt prog image area (Some version) = IsMaster prog version (part image area (master_size prog))

-- the number of the active area, by the versions of the valid ones
abbrev pub active_area : Option ℕ → Option ℕ → Option ℕ
active_area None None = None
active_area (Some first) None = Some 0
active_area None (Some second) = Some 1
active_area (Some first) (Some second) = Some (if second == (first + 1) % 2 ^ 16 then 1 else 0)

pub record Contents : Type 0 where
  -- the versions of the areas that are valid
  pub first : Option ℕ
  pub second : Option ℕ
  -- the records of the active area
  pub records : List Write
  -- the place behind the last of them
  pub end : ℕ

abbrev pub ActiveRecords : Geometry → List ℕ → Option ℕ → ℕ → List Write → Type 0
ActiveRecords g image None end records = (records ≡ []) × (end ≡ 0)
ActiveRecords g image (Some area) end records =
    AreAllRecords g.prog image (area * area_size g + master_size g.prog) (area * area_size g + area_size g) end records

-- An image holds these masters and these records of the active area.
pub record Holds (g : Geometry) (image : List ℕ) (contents : Contents) : Type 0 where
  pub first_master : MasterAt g.prog image 0 contents.first
  pub second_master : MasterAt g.prog image (area_size g) contents.second
  pub active : ActiveRecords g image (active_area contents.first contents.second) contents.end contents.records

-- An image mounts to the map of its records, which is empty where no area is valid.
abbrev pub Mounts : Geometry → List ℕ → FlaggedMap → Type 0
Mounts g image map = (contents : Contents) × Holds g image contents × (map ≡ map_of contents.records)

abbrev pub master_reads : ℕ → ℕ → Option ℕ → List (ℕ × List ℕ)
master_reads prog area None = []
master_reads prog area (Some version) = (area, master_bytes prog version) ∷ []

abbrev pub record_reads : ℕ → ℕ → List Write → List (ℕ × List ℕ)
record_reads prog place [] = []
record_reads prog place (r ∷ rs) = (place, spelling_of prog r) ∷ record_reads prog (place + extent prog r) rs

abbrev pub active_reads : Geometry → Option ℕ → List Write → List (ℕ × List ℕ)
active_reads g None records = []
active_reads g (Some area) records = record_reads g.prog (area * area_size g + master_size g.prog) records

-- what mounting reads, each with its place: the valid masters, and then the records
abbrev pub reads_of : Geometry → Contents → List (ℕ × List ℕ)
reads_of g contents = master_reads g.prog 0 contents.first ++ master_reads g.prog (area_size g) contents.second
    ++ active_reads g (active_area contents.first contents.second) contents.records

-- these bytes stand at their place
abbrev pub StandsIn : List ℕ → ℕ × List ℕ → Type 0
StandsIn image read = part image read.0 (length read.1) ≡ read.1

-- each of these does
abbrev pub Stand : List ℕ → List (ℕ × List ℕ) → Type 0
Stand image [] = Unit {0}
Stand image (read ∷ reads) = StandsIn image read × Stand image reads
