-- What is told of an area that was surveyed.
use Rattle.std.proofs.Common.{◌≡◌, ◌↔◌, ℕ, ◌+◌, ◌-◌, ◌*◌, List, Bool, refl, sym, subst, arith}
use Rattle.std.specs.Prelude.{Option, IsTrue}
use Rattle.base_core.specs.Sizes.{master_size}
use Rattle.flash_core.specs.declared.geometry.Geometry.{Geometry}
use Rattle.flash_core.specs.Images.{IsErased}
use Rattle.flash_core.specs.Sizes.{area_size}
use Rattle.record_core.specs.Log.{AreAllRecords}
use Rattle.area_log.specs.declared.area.Area.{Area}
use Rattle.area_log.specs.Areas.{IsEnd, end_of}
use Rattle.tdb_mount.specs.Room.{area_of}
use Rattle.kv_tools.specs.declared.survey.Survey.{Survey}
use Rattle.kv_tools.specs.Checking.{AreFacts, is_active}
use Rattle.kv_tools.specs.Surveying.{IsSurveyOf}

module _ (g : Geometry) (image : List ℕ) (active : Option ℕ) (version number : ℕ) (survey : Survey) (role : Bool) (clean : Bool) (role_is : role ≡ is_active active number) where
  abbrev AreSo : Area → Type 0
  AreSo area = AreFacts g image active version (record {
    number = number;
    version = version;
    is_active = role;
    records = survey.records;
    live = survey.live;
    end = survey.end - area.base;
    is_clean = clean;
  })

  in_place : IsEnd g (area_of g number) survey.end → IsSurveyOf g image (area_of g number) survey
      → (IsTrue clean ↔ IsErased image survey.end (end_of (area_of g number) - survey.end)) → AreSo (area_of g number)
  in_place end is tail =
      let base : ℕ = number * area_size g in
      let at : survey.end ≡ base + (survey.end - base) = omega (arith, end.inside.from) in
      let left : end_of (area_of g number) - survey.end ≡ area_size g - (survey.end - base) = omega (arith, end.inside.from, end.inside.to) in
      record {
        version_is = refl;
        role = role_is;
        records = is.records;
        all = subst (λ (e : ℕ). AreAllRecords g.prog image (base + master_size g.prog) (base + area_size g) e is.records) at is.all;
        count = is.count;
        live = is.live;
        clean = subst (λ (n : ℕ). IsTrue clean ↔ IsErased image (base + (survey.end - base)) n) left
            (subst (λ (e : ℕ). IsTrue clean ↔ IsErased image e (end_of (area_of g number) - survey.end)) at tail);
      }

  pub facts_are : (area : Area) → area ≡ area_of g number → IsEnd g area survey.end → IsSurveyOf g image area survey
      → (IsTrue clean ↔ IsErased image survey.end (end_of area - survey.end)) → AreSo area
  facts_are area same = subst (λ (a : Area). IsEnd g a survey.end → IsSurveyOf g image a survey → (IsTrue clean ↔ IsErased image survey.end (end_of a - survey.end)) → AreSo a) (sym same) in_place
