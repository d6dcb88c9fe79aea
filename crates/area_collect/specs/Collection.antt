-- A collection: the records that still count are copied to the other area, which then becomes the active one.
use Rattle.std.specs.Prelude.{◌≡◌, ℕ, ◌+◌, ◌≤◌, ◌==◌, if◌then◌else◌, List, [], ◌∷◌, Option, Some}
use Rattle.std.specs.Option.{ForSome}
use Rattle.flash_core.specs.declared.geometry.Geometry.{Geometry}
use Rattle.flash_core.specs.Erases.{erased_from}
use Rattle.flash_core.specs.Images.{put}
use Rattle.flash_core.specs.Sizes.{area_size}
use Rattle.flash_core.specs.State.{DeviceCall, FlashState}
use Rattle.kv_model.specs.Write.{Write}
use Rattle.record_core.specs.Log.{IsRecordAt, extent}
use Rattle.record_core.specs.Record.{master_bytes}
use Rattle.record_core.specs.Renewal.{RenewsArea}
use Rattle.area_log.specs.declared.area.Area.{Area}
use Rattle.area_log.specs.Areas.{end_of, first_place, IsEnd}
use Rattle.ram_table.specs.declared.table.Entry.{Entry}
use Rattle.area_collect.specs.Copies.{AreIn, AreRead, Copied, Copy, end_behind, moved, spellings}

-- the number of an area
abbrev pub number_of : Area → ℕ
number_of area = if area.base == 0 then 0 else 1

-- a copy from one area to the other, of the records of these entries
abbrev pub copy_of : Area → Area → List Entry → Copy
copy_of from to entries = record { route = record { from = from; to = to }; entries = entries }

-- the image with an area erased, and in it, behind the place of its master record, these records
abbrev pub with_copies : Geometry → Area → List ℕ → List Write → List ℕ
with_copies g to image records = put (erased_from image to.base (area_size g)) (first_place g to) (spellings g.prog records)

-- the image with a master record of this version at the beginning of an area
abbrev pub with_master : Geometry → Area → ℕ → List ℕ → List ℕ
with_master g to version image = put image to.base (master_bytes g.prog version)

-- these records stand at the entries' places, and end at or before this end
abbrev pub StandAt : ℕ → List ℕ → ℕ → List Entry → List Write → Type 0
StandAt prog image end [] [] = Unit {0}
StandAt prog image end [] (r ∷ rs) = ⊥
StandAt prog image end (e ∷ es) [] = ⊥
StandAt prog image end (e ∷ es) (r ∷ rs) = IsRecordAt prog image e.offset r × (e.offset + extent prog r ≤ end) × StandAt prog image end es rs

-- The records of a copy's entries stand in its one area and fit in the other, behind the place of a master record.
pub record CanCopy (g : Geometry) (image : List ℕ) (copy : Copy) (records : List Write) : Type 0 where
  pub stand : StandAt g.prog image (end_of copy.route.from) copy.entries records
  pub fit : end_behind g.prog (first_place g copy.route.to) records ≤ end_of copy.route.to

-- These records were read, those that stand there where the image is told; their copies and entries were made, and the
-- image is what comes of the one with the copies.
pub record HasCopied (old new : FlashState) (copy : Copy) (done : Copied) (finish : List ℕ → List ℕ) : Type 0 where
  pub records : List Write
  pub read : AreRead old copy.route (first_place old.geometry copy.route.to) copy.entries records
  pub these : ForSome old.image (λ image. (standing : List Write) → CanCopy old.geometry image copy standing → records ≡ standing)
  pub end_is : done.end ≡ end_behind old.geometry.prog (first_place old.geometry copy.route.to) records
  pub end : IsEnd old.geometry copy.route.to done.end
  pub entries_are : done.entries ≡ moved old.geometry.prog (first_place old.geometry copy.route.to) copy.entries records
  pub places : AreIn copy.route.to done.entries
  pub written : ForSome old.image (λ image. new.image ≡ Some (finish (with_copies old.geometry copy.route.to image records)))

-- An image is that of a whole collection over this one.
pub record IsWhole (s : FlashState) (copy : Copy) (version : ℕ) (image left : List ℕ) : Type 0 where
  pub records : List Write
  pub read : AreRead s copy.route (first_place s.geometry copy.route.to) copy.entries records
  pub is : left ≡ with_master s.geometry copy.route.to version (with_copies s.geometry copy.route.to image records)

-- a moment of a collection: the area is erased and filled, and its master record's header comes last, over the whole
abbrev pub Collects : FlashState → Copy → ℕ → List ℕ → Option DeviceCall → List ℕ → Type 0
Collects s copy version image call now = RenewsArea s.geometry (number_of copy.route.to) (IsWhole s copy version image) image call now
