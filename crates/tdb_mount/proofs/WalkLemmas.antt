-- What a walk over the active area finds.
use Rattle.std.proofs.Common.{◌≡◌, ℕ, ◌-◌, ◌≤◌, List, [], refl, sym, ◌∙◌, subst, arith}
use Rattle.std.specs.Prelude.{◌↔◌, IsTrue, Option, Some}
use Rattle.std.specs.FinMap as map
use Rattle.std.specs.Ordering.{nat_cmp}
use Rattle.std.specs.Cmp.Lexicographic.{slice_cmp}
use Rattle.flash_core.specs.declared.geometry.Geometry.{Geometry}
use Rattle.flash_core.specs.Images.{IsErased}
use Rattle.record_core.specs.Mounts.{ActiveRecords}
use Rattle.area_log.specs.declared.area.Area.{Area}
use Rattle.area_log.specs.Areas.{end_of, first_place, IsEnd}
use Rattle.area_log.specs.Listing.{Found, IsListOf}
use Rattle.ram_table.specs.declared.table.Entry.{Entry}
use Rattle.ram_table.specs.Reader.{KeyMap}
use Rattle.tdb_mount.specs.declared.mount.Parts.{Parts}
use Rattle.tdb_mount.specs.Choice.{ChosenIn}
use Rattle.tdb_mount.specs.Index.{IsTable, IsTableOf, PlaceMap, places_of}
use Rattle.tdb_mount.specs.Mounted.{IsMountOf, IsSafe}
use Rattle.tdb_mount.specs.Room.{AreIn, HasRoomFor, area_of}
use Rattle.tdb_mount.proofs.PlaceLemmas.{records_linked}
use Rattle.tdb_mount.proofs.TableLemmas.{not_some}

abbrev no_places : PlaceMap
no_places = map.empty

abbrev no_keys : KeyMap
no_keys = map.empty

no_entries : (bits : ℕ) → IsTableOf bits no_keys no_places []
no_entries bits = record {
  index = record { has = λ i lt. absurd (omega arith); hash = λ i lt. absurd (omega arith); ascend = λ i j lt inside. absurd (omega arith) };
  same = λ key offset. (
    (λ found. absurd (not_some offset (sym (map.get-empty (slice_cmp nat_cmp) key) ∙ found))),
    (λ has. absurd (omega (arith, has.inside))),
  );
}

-- the table of no records
pub empty_table : (bits : ℕ) (entries : List Entry) → entries ≡ [] → IsTable bits no_places entries
empty_table bits entries none = subst (IsTable bits no_places) (sym none) (record { keys = no_keys; is = no_entries bits })

-- what holds of any device
pub safe_of : (g : Geometry) (parts : Parts) (area : Area) → area ≡ area_of g parts.active → parts.active ≤ 1 → IsEnd g area parts.end → AreIn area parts.table.entries → HasRoomFor parts.spare parts.table → parts.spare.entries ≡ []
    → IsSafe g parts
safe_of g parts area is active end within room empty = record {
  active = active;
  end = subst (λ (a : Area). IsEnd g a parts.end) is end;
  within = subst (λ (a : Area). AreIn a parts.table.entries) is within;
  room = room;
  spare = empty;
}

-- what holds of the image that is told
pub mount_of : (g : Geometry) → 1 ≤ g.prog → (bits : ℕ) (image : List ℕ) (parts : Parts) (area : Area) → area ≡ area_of g parts.active
    → ChosenIn g image (Some (record { number = parts.active; version = parts.version })) → (list : List Found) → IsListOf g image area parts.end list
    → IsTable bits (places_of list) parts.table.entries → (IsTrue parts.clean ↔ IsErased image parts.end (end_of area - parts.end)) → IsMountOf g bits image parts
mount_of g positive bits image parts area area_is chosen list there table clean =
    let at : Area = area_of g parts.active in
    let here : IsListOf g image at parts.end list = subst (λ (a : Area). IsListOf g image a parts.end list) area_is there in
    record {
      contents = record { first = chosen.first; second = chosen.second; records = here.records; end = parts.end };
      holds = record {
        first_master = chosen.first_master;
        second_master = chosen.second_master;
        active = subst (λ (o : Option ℕ). ActiveRecords g image o parts.end here.records) (sym chosen.choice.0) here.all;
      };
      active = chosen.choice.0;
      version = chosen.choice.1;
      end = refl;
      table = subst (λ (l : List Found). IsTable bits (places_of l) parts.table.entries) here.list_is table;
      linked = records_linked g.prog positive image parts.end (first_place g at) here.records here.all.each;
      clean = subst (λ (a : Area). IsTrue parts.clean ↔ IsErased image parts.end (end_of a - parts.end)) area_is clean;
    }
