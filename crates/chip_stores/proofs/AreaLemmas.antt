-- What an image holds goes by the size of its areas alone.
use Rattle.std.proofs.Common.{◌≡◌, ℕ, ◌+◌, ◌-◌, ◌*◌, ◌≤◌, List, refl, sym, ap, subst, arith}
use Rattle.std.specs.Prelude.{Option, Some, None}
use Rattle.base_core.specs.Sizes.{master_size}
use Rattle.flash_core.specs.declared.geometry.Geometry.{Geometry}
use Rattle.flash_core.specs.Sizes.{IsValid, area_size}
use Rattle.kv_model.specs.FlaggedMap.{FlaggedMap}
use Rattle.kv_model.specs.Sizes.{room_of}
use Rattle.kv_model.specs.Write.{Write}
use Rattle.record_core.specs.Log.{AreAllRecords}
use Rattle.record_core.specs.Mounts.{ActiveRecords, Contents, Holds, MasterAt, Mounts, active_area}
use Rattle.chip_stores.specs.Chips.{HasSameAreas}

room_is : (a b m n : ℕ) → m ≤ a → n ≤ b → m ≡ n → a - m ≡ b - n → a ≡ b
room_is a b m n least other same is = omega (arith, least, other, same, is)

-- the program unit and the room tell the size of areas
pub areas_by : (old new : Geometry) → IsValid old → IsValid new → new.prog ≡ old.prog → room_of new.prog (area_size new) ≡ room_of old.prog (area_size old) → HasSameAreas old new
areas_by old new valid other prog room = record {
  prog = prog;
  area = room_is (area_size new) (area_size old) (master_size new.prog) (master_size old.prog) other.master_fits valid.master_fits (ap master_size prog) room;
}

pub areas_back : {g h : Geometry} → HasSameAreas g h → HasSameAreas h g
areas_back same = record { prog = sym same.prog; area = sym same.area }

pub areas_of_same : {g h : Geometry} → h ≡ g → HasSameAreas g h
areas_of_same same = record { prog = ap (λ (g : Geometry). g.prog) same; area = ap area_size same }

module _ (g h : Geometry) (same : HasSameAreas g h) (image : List ℕ) where
  active_there : (area : Option ℕ) (end : ℕ) (records : List Write) → ActiveRecords h image area end records → ActiveRecords g image area end records
  active_there None end records is = is
  active_there (Some area) end records is =
      subst (λ (a : ℕ). AreAllRecords g.prog image (area * a + master_size g.prog) (area * a + a) end records) same.area
      (subst (λ (p : ℕ). AreAllRecords p image (area * area_size h + master_size p) (area * area_size h + area_size h) end records) same.prog is)

  pub holds_there : (c : Contents) → Holds h image c → Holds g image c
  holds_there c is = record {
    first_master = subst (λ (p : ℕ). MasterAt p image 0 c.first) same.prog is.first_master;
    second_master = subst (λ (a : ℕ). MasterAt g.prog image a c.second) same.area (subst (λ (p : ℕ). MasterAt p image (area_size h) c.second) same.prog is.second_master);
    active = active_there (active_area c.first c.second) c.end c.records is.active;
  }

  pub mounts_there : (m : FlaggedMap) → Mounts h image m → Mounts g image m
  mounts_there m (c, is, map_is) = (c, holds_there c is, map_is)
