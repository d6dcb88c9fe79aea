-- The text of a check: a line for each area.
use Rattle.std.specs.Prelude.{◌≡◌, ◌↔◌, ◌+◌, ◌-◌, ◌==◌, ℕ, Bool, false, if◌then◌else◌, IsTrue, List, ◌++◌, length, codes, Option, Some, None}
use Rattle.std.specs.FinMap.{len}
use Rattle.std.specs.Fmt.{decimal}
use Rattle.std.specs.Option.{option_map_or}
use Rattle.base_core.specs.Sizes.{master_size}
use Rattle.flash_core.specs.declared.geometry.Geometry.{Geometry}
use Rattle.flash_core.specs.Images.{IsErased}
use Rattle.flash_core.specs.Sizes.{area_size}
use Rattle.kv_model.specs.Write.{Write, map_of}
use Rattle.record_core.specs.Cuts.{base_of}
use Rattle.record_core.specs.Log.{AreAllRecords}
use Rattle.record_core.specs.Mounts.{MasterAt, active_area}
use Rattle.kv_tools.specs.declared.check.AreaFacts.{AreaFacts}

-- a word, and a number behind it
abbrev pub field : List ℕ → ℕ → List ℕ
field name number = name ++ decimal number

abbrev pub role_text : Bool → List ℕ
role_text is_active = if is_active then codes " active" else codes " standby"

abbrev pub tail_text : Bool → List ℕ
tail_text is_clean = if is_clean then codes " tail clean\n" else codes " tail dirty\n"

-- the line of a valid area
abbrev pub facts_line : AreaFacts → List ℕ
facts_line f =
    field (codes "area ") f.number ++ field (codes " version ") f.version ++ role_text f.is_active
    ++ field (codes " records ") f.records ++ field (codes " live ") f.live ++ field (codes " end ") f.end ++ tail_text f.is_clean

-- the line of one that is not valid
abbrev pub none_line : ℕ → List ℕ
none_line number = field (codes "area ") number ++ codes " none\n"

-- whether the area of this number is active
abbrev pub is_active : Option ℕ → ℕ → Bool
is_active active number = option_map_or (λ k. k == number) active false

-- What is told of a valid area is so: its version and its role, how many records stand behind its master record and for
-- how many keys they stand, where they end, counted from the area's start, and whether each byte behind that is 0xFF.
pub record AreFacts (g : Geometry) (image : List ℕ) (active : Option ℕ) (version : ℕ) (f : AreaFacts) : Type 0 where
  pub version_is : f.version ≡ version
  pub role : f.is_active ≡ is_active active f.number
  pub records : List Write
  pub all : AreAllRecords g.prog image (base_of g f.number + master_size g.prog) (base_of g f.number + area_size g) (base_of g f.number + f.end) records
  pub count : f.records ≡ length records
  pub live : f.live ≡ len (map_of records)
  pub clean : IsTrue f.is_clean ↔ IsErased image (base_of g f.number + f.end) (area_size g - f.end)

-- the line of the area of this number, whose master record has this version
abbrev pub IsLineOf : Geometry → List ℕ → Option ℕ → ℕ → Option ℕ → List ℕ → Type 0
IsLineOf g image active number None line = line ≡ none_line number
IsLineOf g image active number (Some version) line =
    (f : AreaFacts) × (f.number ≡ number) × AreFacts g image active version f × (line ≡ facts_line f)

-- The text of an image's check: the line of its first area, and that of its second.
pub record IsCheckOf (g : Geometry) (image text : List ℕ) : Type 0 where
  pub first : Option ℕ
  pub second : Option ℕ
  pub first_master : MasterAt g.prog image 0 first
  pub second_master : MasterAt g.prog image (area_size g) second
  pub one : List ℕ
  pub two : List ℕ
  pub first_line : IsLineOf g image (active_area first second) 0 first one
  pub second_line : IsLineOf g image (active_area first second) 1 second two
  pub text_is : text ≡ one ++ two
