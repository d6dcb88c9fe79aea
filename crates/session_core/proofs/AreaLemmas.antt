-- The chip of a session keeps the size of its areas, and what an image holds goes by that size alone.
use Rattle.std.proofs.Common.{◌≡◌, ℕ, ◌+◌, ◌-◌, ◌*◌, ◌≤◌, IsTrue, List, sym, ◌∙◌, ap, subst, arith}
use Rattle.std.specs.Prelude.{◌↔◌, Option, Some, None}
use Rattle.base_core.specs.Sizes.{master_size}
use Rattle.flash_core.specs.declared.geometry.Geometry.{Geometry}
use Rattle.flash_core.specs.Images.{IsErased, part}
use Rattle.flash_core.specs.Sizes.{area_size}
use Rattle.kv_model.specs.Constants.{Constants}
use Rattle.kv_model.specs.FlaggedMap.{FlaggedMap}
use Rattle.kv_model.specs.Opening.{Log}
use Rattle.kv_model.specs.Write.{Write}
use Rattle.record_core.specs.Log.{AreAllRecords}
use Rattle.record_core.specs.Mounts.{ActiveRecords, Contents, Holds, MasterAt, Mounts, active_area}
use Rattle.session_core.specs.declared.session.Session.{Session}
use Rattle.session_core.specs.Backing.{unmounted}
use Rattle.session_core.specs.Chips.{HasSameAreas}
use Rattle.session_core.specs.Telling.{IsLogIn}
use Rattle.session_core.specs.Views.{primary_in, state_in}
use Rattle.session_core.proofs.MountLemmas.{constants_kept, valid_by}

room_is : (a b m n : ℕ) → m ≤ a → n ≤ b → m ≡ n → a - m ≡ b - n → a ≡ b
room_is a b m n least other same is = omega (arith, least, other, same, is)

-- where the constants stand
pub same_areas : (old new : Session) → (state_in new).known.constants ≡ (state_in old).known.constants
    → HasSameAreas (primary_in old).geometry (primary_in new).geometry
same_areas old new same =
    let g : Geometry = (primary_in old).geometry in
    let h : Geometry = (primary_in new).geometry in
    let all : (unmounted new.hash_bits (primary_in new)).known.constants ≡ (unmounted old.hash_bits (primary_in old)).known.constants =
    sym (constants_kept new.hash_bits new.store new.chips new.same_bits) ∙ same ∙ constants_kept old.hash_bits old.store old.chips old.same_bits in
    let prog : h.prog ≡ g.prog = ap (λ (c : Constants). c.prog) all in
    let room : area_size h - master_size h.prog ≡ area_size g - master_size g.prog = ap (λ (c : Constants). c.room) all in
    record {
      prog = prog;
      area = room_is (area_size h) (area_size g) (master_size h.prog) (master_size g.prog) (valid_by new.store new.chips new.one).master_fits
          (valid_by old.store old.chips old.one).master_fits (ap master_size prog) room;
    }

-- ---- the same contents, map and log

module _ (g h : Geometry) (same : HasSameAreas g h) (image : List ℕ) where
  active_there : (area : Option ℕ) (end : ℕ) (records : List Write) → ActiveRecords h image area end records → ActiveRecords g image area end records
  active_there None end records is = is
  active_there (Some area) end records is =
      subst (λ (a : ℕ). AreAllRecords g.prog image (area * a + master_size g.prog) (area * a + a) end records) same.area
      (subst (λ (p : ℕ). AreAllRecords p image (area * area_size h + master_size p) (area * area_size h + area_size h) end records) same.prog is)

  pub holds_there : (c : Contents) → Holds h image c → Holds g image c
  holds_there c is = record {
    first_master = subst (λ (p : ℕ). MasterAt p image 0 c.first) same.prog is.first_master;
    second_master = subst (λ (a : ℕ). MasterAt g.prog image a c.second) same.area (subst (λ (p : ℕ). MasterAt p image (area_size h) c.second) same.prog is.second_master);
    active = active_there (active_area c.first c.second) c.end c.records is.active;
  }

  pub mounts_there : (m : FlaggedMap) → Mounts h image m → Mounts g image m
  mounts_there m (c, is, map_is) = (c, holds_there c is, map_is)

  pub log_there : (log : Log) → IsLogIn h image log → IsLogIn g image log
  log_there log is = record {
    contents = is.contents;
    holds = holds_there is.contents is.holds;
    active = is.active;
    version = is.version;
    records = is.records;
    clean = subst (λ (a : ℕ). IsTrue log.is_clean ↔ IsErased image is.contents.end ((log.active * a + a) - is.contents.end)) same.area is.clean;
    other = subst (λ (a : ℕ). log.other ≡ part image ((1 - log.active) * a) a) same.area is.other;
  }
