-- What a collection keeps.
use Rattle.std.specs.Prelude.{◌≡◌, ◌≢◌, ◌⊎◌, ℕ, ◌+◌, ◌%◌, ◌^◌, List, [], ◌∷◌, Option, Some, None}
use Rattle.std.specs.FinMap.{get}
use Rattle.flash_core.specs.declared.geometry.Geometry.{Geometry}
use Rattle.flash_core.specs.State.{DeviceCall, FlashState}
use Rattle.kv_model.specs.FlaggedMap.{FlaggedMap}
use Rattle.kv_model.specs.Flags.{remove_flags}
use Rattle.kv_model.specs.Write.{Write, map_of}
use Rattle.record_core.specs.CutMoments.{CutStrictly}
use Rattle.record_core.specs.Cuts.{active_of, version_of}
use Rattle.record_core.specs.Mounts.{Contents, Holds, Mounts}
use Rattle.area_collect.specs.Copies.{Copy}
use Rattle.area_collect.specs.Collection.{CanCopy, number_of}

-- ---- records of a map

-- The key of a record has its flags and value in this map.
pub record IsOfMap (map : FlaggedMap) (r : Write) : Type 0 where
  pub kept : r.flags ≢ remove_flags
  pub found : get map r.key ≡ Some (record { flags = r.flags; bytes = r.value })

-- each of these does
abbrev pub AreOfMap : FlaggedMap → List Write → Type 0
AreOfMap map [] = Unit {0}
AreOfMap map (r ∷ rs) = IsOfMap map r × AreOfMap map rs

-- one of these records has this key
abbrev pub HasKey : List ℕ → List Write → Type 0
HasKey key [] = ⊥
HasKey key (r ∷ rs) = (r.key ≡ key) ⊎ HasKey key rs

-- They are records by which the keys of the map have their values, and no key is missing.
pub record StandForMap (map : FlaggedMap) (records : List Write) : Type 0 where
  pub each : AreOfMap map records
  pub all : (key : List ℕ) → (get map key ≡ None → ⊥) → HasKey key records

-- ---- what may be collected

-- This version is the next one behind the area's own.
pub record Follows (contents : Contents) (k version : ℕ) : Type 0 where
  pub own : ℕ
  pub own_is : version_of k contents ≡ Some own
  pub next : version ≡ (own + 1) % 2 ^ 16

-- The area that is copied from is the active one of an image that mounts to this map, and the entries are those of the
-- records by which its keys have their values; the version is the next one.
pub record CanCollect (g : Geometry) (image : List ℕ) (copy : Copy) (version : ℕ) (map : FlaggedMap) : Type 0 where
  pub contents : Contents
  pub holds : Holds g image contents
  pub active : active_of contents ≡ Some (number_of copy.route.from)
  pub map_is : map ≡ map_of contents.records
  pub follows : Follows contents (number_of copy.route.from) version
  pub records : List Write
  pub can : CanCopy g image copy records
  pub stand_for : StandForMap map records

-- a moment of a collection that leaves the map as it was, as far as chance goes
abbrev pub KeepsMap : FlashState → Copy → ℕ → List ℕ → Option DeviceCall → List ℕ → Type 0
KeepsMap s copy version image call now = (map : FlaggedMap) → CanCollect s.geometry image copy version map
    → CutStrictly s.geometry (λ left. Mounts s.geometry left map) call now
