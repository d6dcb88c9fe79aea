-- What the table of a log says of a key.
use Rattle.std.proofs.Common.{◌≡◌, ℕ, ◌<◌, ◌≤◌, Bool, true, false, List, length, refl, sym, ◌∙◌, subst, arith}
use Rattle.std.specs.Prelude.{Option, Some, None, MatchBool}
use Rattle.std.specs.FinMap as map
use mathlib.Core.Bool.{false≢true}
use Rattle.flash_core.specs.declared.geometry.Geometry.{Geometry}
use Rattle.flash_core.proofs.GeometryLaws.{prog_positive}
use Rattle.kv_model.specs.FlaggedMap.{Stored}
use Rattle.kv_model.specs.Write.{Write}
use Rattle.record_core.specs.Log.{AreAllRecords}
use Rattle.record_core.specs.Mounts.{ActiveRecords}
use Rattle.area_log.specs.declared.area.Area.{Area}
use Rattle.area_log.specs.Areas.{end_of, first_place}
use Rattle.area_log.specs.Listing.{listed}
use Rattle.area_log.specs.Reading.{HoldsRecord}
use Rattle.ram_table.specs.declared.table.Place.{Place}
use Rattle.ram_table.specs.Find.{CanFind, IsIndexOf, IsPlaceOf, key_at}
use Rattle.ram_table.specs.Reader.{KeyMap}
use Rattle.tdb_mount.specs.Index.{HasEntry, IsKept, IsLinked, IsTableOf, PlaceMap, places_of, record_of}
use Rattle.tdb_mount.specs.Keys.{keys_in, keys_of}
use Rattle.tdb_mount.proofs.ReaderLemmas.{mapped_from}
use Rattle.tdb_mount.proofs.PlaceLemmas.{record_of_place, records_linked, tells_record}
use Rattle.tdb_mount.proofs.TableLemmas.{table_with}
use Rattle.tdb_read.specs.Reads.{HasAt, IsLocated, map_in, offset_in}
use Rattle.tdb_read.specs.Views.{IsLogOf, IsReady, IsSafe, LogPart, LogView, area_in, records_in}

-- a key without a place is not in the map
unlinked : (prog : ℕ) (image : List ℕ) (end : ℕ) (key : List ℕ) (there : Option Stored) → IsLinked prog image end key None there → there ≡ None
unlinked prog image end key None is = refl
unlinked prog image end key (Some stored) is = absurd is

-- what a place says of the map: the key is in it, and its record stands there
record Present (prog : ℕ) (image : List ℕ) (end place : ℕ) (key : List ℕ) (there : Option Stored) : Type 0 where
  pub stored : Stored
  pub present : there ≡ Some stored
  pub kept : IsKept prog image end place key stored

linked_at : (prog : ℕ) (image : List ℕ) (end place : ℕ) (key : List ℕ) (there : Option Stored) → IsLinked prog image end key (Some place) there → Present prog image end place key there
linked_at prog image end place key None is = absurd is
linked_at prog image end place key (Some stored) is = record { stored = stored; present = refl; kept = is }

-- a key with a value has a place
some_place : (prog : ℕ) (image : List ℕ) (end : ℕ) (key : List ℕ) (place : Option ℕ) (stored : Stored) → IsLinked prog image end key place (Some stored) → (p : ℕ) × (place ≡ Some p)
some_place prog image end key None stored is = absurd is
some_place prog image end key (Some place) stored is = (place, refl)

module _ (g : Geometry) (log : LogPart) (image : List ℕ) (safe : IsSafe g log) (is : IsLogOf g image log) where
  positive : 1 ≤ g.prog
  positive = prog_positive g safe.valid

  abbrev area : Area
  area = area_in g log

  abbrev records : List Write
  records = records_in g log image

  abbrev places : PlaceMap
  places = places_of (listed g.prog (first_place g area) records)

  abbrev keys : KeyMap
  keys = keys_in g area image

  pub all_records : AreAllRecords g.prog image (first_place g area) (end_of area) log.end records
  all_records = subst (λ (o : Option ℕ). ActiveRecords g image o log.end records) is.active is.holds.active

  tells : (key : List ℕ) (offset : ℕ) → map.get places key ≡ Some offset → map.get keys offset ≡ Some key
  tells key offset found =
      let kept = record_of_place g.prog positive image log.end (first_place g area) records all_records.each key offset found in
      tells_record g positive image area offset (record_of key kept.0) kept.1.stands (omega (arith, kept.1.inside, all_records.inside))

  -- the table, as the device tells its keys
  pub told_table : IsTableOf log.hash_bits keys places log.table.entries
  told_table = table_with log.hash_bits is.table.keys keys places log.table.entries is.table.is tells

  linked : (key : List ℕ) → IsLinked g.prog image log.end key (map.get places key) (map.get (map_in g log image) key)
  linked = records_linked g.prog positive image log.end (first_place g area) records all_records.each

  -- the record of an entry
  pub found_of : (key : List ℕ) (offset : ℕ) → HasEntry keys log.table.entries key offset → HasAt g image log key offset
  found_of key offset has =
      let found = linked_at g.prog image log.end offset key _
      (subst (λ (p : Option ℕ). IsLinked g.prog image log.end key p (map.get (map_in g log image) key)) ((told_table.same key offset).1 has) (linked key)) in
      record { stored = found.stored; present = found.present; kept = found.kept }

  -- at each entry's offset stands the record of its key
  pub at_entry : (i : ℕ) → i < length log.table.entries → HasAt g image log (key_at keys log.table.entries i) (offset_in log i)
  at_entry i lt = found_of (key_at keys log.table.entries i) (offset_in log i) (record { place = i; inside = lt; key_is = refl; offset_is = refl })

  pub holds_at : (i : ℕ) → i < length log.table.entries → HoldsRecord g image area (offset_in log i)
  holds_at i lt =
      let found = at_entry i lt in
      record { this = record_of (key_at keys log.table.entries i) found.stored; stands = found.kept.stands; inside = omega (arith, found.kept.inside, all_records.inside) }

  -- a key that the map has is that of an entry
  pub entry_of : (key : List ℕ) (stored : Stored) → map.get (map_in g log image) key ≡ Some stored
      → (i : ℕ) × (i < length log.table.entries) × (key_at keys log.table.entries i ≡ key)
  entry_of key stored there =
      let place = some_place g.prog image log.end key (map.get places key) stored
      (subst (IsLinked g.prog image log.end key (map.get places key)) there (linked key)) in
      let has = (told_table.same key place.0).0 place.1 in
      (has.place, has.inside, has.key_is)

  module _ (key : List ℕ) (place : Place) (is_place : IsPlaceOf log.hash_bits keys log.table.entries key place) where
    no_place : (o : Option ℕ) → map.get places key ≡ o → place.found ≡ false → o ≡ None
    no_place None gets missing = refl
    no_place (Some offset) gets missing =
        let has = (told_table.same key offset).0 gets in
        absurd (false≢true (sym missing ∙ is_place.found.1 (record { place = has.place; inside = has.inside; is = has.key_is })))

    absent : place.found ≡ false → map.get (map_in g log image) key ≡ None
    absent missing = unlinked g.prog image log.end key _
        (subst (λ (p : Option ℕ). IsLinked g.prog image log.end key p (map.get (map_in g log image) key)) (no_place (map.get places key) refl missing) (linked key))

    there : place.found ≡ true → place.at < length log.table.entries → HasAt g image log key (offset_in log place.at)
    there found inside = found_of key (offset_in log place.at) (record { place = place.at; inside = inside; key_is = is_place.here found; offset_is = refl })

    in_map : (b : Bool) → place.found ≡ b → (place.found ≡ true → place.at < length log.table.entries)
        → MatchBool b (HasAt g image log key (offset_in log place.at)) (map.get (map_in g log image) key ≡ None)
    in_map true found inside = there found (inside found)
    in_map false missing inside = absent missing

    pub located : (place.found ≡ true → place.at < length log.table.entries) → IsLocated g image log key place
    located inside = record { place_is = is_place; map_is = in_map place.found refl inside }

-- the table may be searched
pub can_find : (v : LogView) → IsReady v → CanFind (keys_of v.device (area_in v.device.geometry v.log) v.log.hash_bits 0) v.log.table.entries
can_find v ready = record {
  within = λ i lt. omega (arith, (ready.safe.within i lt).1);
  index = λ keys told. let image = mapped_from (keys_in v.device.geometry (area_in v.device.geometry v.log)) v.device.image keys told in
      subst (λ (k : KeyMap). IsIndexOf v.log.hash_bits k v.log.table.entries) image.2 (told_table v.device.geometry v.log image.0 ready.safe (ready.stands image.0 image.1)).index;
}
