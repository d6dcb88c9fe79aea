-- A log whose image changed, where its records stay.
use Rattle.std.proofs.Common.{◌≡◌, ℕ, ◌-◌, ◌<◌, ◌≤◌, Bool, true, List, [], length, refl, sym, ◌∙◌, ap, subst, arith}
use Rattle.std.specs.Prelude.{◌↔◌, IsTrue, Option}
use Rattle.std.specs.FinMap as map
use Rattle.std.specs.Option.{unwrap_or}
use Rattle.flash_core.specs.declared.geometry.Geometry.{Geometry}
use Rattle.flash_core.specs.Images.{IsErased}
use Rattle.flash_core.specs.Sizes.{IsValid}
use Rattle.flash_core.proofs.GeometryLaws.{prog_positive}
use Rattle.kv_model.specs.KeyOrder.{is_below}
use Rattle.kv_model.specs.Write.{Write}
use Rattle.record_core.specs.Log.{AreAllRecords}
use Rattle.record_core.specs.Mounts.{ActiveRecords, Contents, Holds}
use Rattle.area_log.specs.Areas.{end_of, first_place}
use Rattle.area_log.specs.Listing.{listed}
use Rattle.ram_table.specs.declared.table.Entry.{Entry}
use Rattle.ram_table.specs.declared.table.Place.{Place}
use Rattle.ram_table.specs.Find.{IsPlaceOf, key_at}
use Rattle.ram_table.specs.Reader.{KeyMap}
use Rattle.ram_table.specs.Table.{entry_at}
use Rattle.tdb_mount.specs.Index.{HasEntry, IsTable, IsTableOf, PlaceMap, places_of}
use Rattle.tdb_mount.specs.Keys.{keys_in}
use Rattle.tdb_read.specs.Reads.{IsLocated}
use Rattle.tdb_read.specs.Views.{IsLogOf, IsSafe, LogPart, area_in, records_in}
use Rattle.tdb_read.proofs.RecordLemmas.{records_are}
use Rattle.tdb_read.proofs.TableLemmas.{located, told_table}

-- what the image of a log holds
abbrev pub contents : (g : Geometry) (image : List ℕ) (log : LogPart) → IsLogOf g image log → Contents
contents g image log is = record { first = is.first; second = is.second; records = records_in g log image; end = log.end }

-- the log with another tail
abbrev pub with_tail : LogPart → Bool → List ℕ → LogPart
with_tail log clean unit = record log { is_clean = clean; unit = unit }

-- the keys of one table's entries are those of another's
abbrev pub KeysStay : KeyMap → List Entry → KeyMap → List Entry → Type 0
KeysStay keys entries later moved = (i : ℕ) → i < length entries → key_at later moved i ≡ key_at keys entries i

-- so a key's place is the same
pub place_stays : (bits : ℕ) (keys : KeyMap) (entries : List Entry) (later : KeyMap) (moved : List Entry) (key : List ℕ) (place : Place) → length moved ≡ length entries
    → KeysStay keys entries later moved → place.at ≤ length entries → (place.found ≡ true → place.at < length entries) → IsPlaceOf bits keys entries key place → IsPlaceOf bits later moved key place
place_stays bits keys entries later moved key place long same inside there is = record {
  found = (
    (λ found. let has = is.found.0 found in record { place = has.place; inside = omega (arith, long, has.inside); is = same has.place has.inside ∙ has.is }),
    (λ has. let lt : has.place < length entries = omega (arith, long, has.inside) in
        is.found.1 (record { place = has.place; inside = lt; is = sym (same has.place lt) ∙ has.is })),
  );
  here = λ found. same place.at (there found) ∙ is.here found;
  below = λ i lt. subst (λ (k : List ℕ). IsTrue (is_below bits k key)) (sym (same i (omega (arith, lt, inside)))) (is.below i lt);
  above = λ missing i le lt. let less : i < length entries = omega (arith, long, lt) in
      subst (λ (k : List ℕ). IsTrue (is_below bits key k)) (sym (same i less)) (is.above missing i le less);
}

-- the keys that two readers have of one table of places are the same
pub keys_stay : (bits : ℕ) (keys later : KeyMap) (places : PlaceMap) (entries : List Entry) → IsTableOf bits keys places entries → IsTableOf bits later places entries → KeysStay keys entries later entries
keys_stay bits keys later places entries table now i lt =
    let offset : ℕ = (entry_at entries i).offset in
    let here = (table.same (key_at keys entries i) offset).1 (record { place = i; inside = lt; key_is = refl; offset_is = refl }) in
    let has : HasEntry later entries (key_at keys entries i) offset = (now.same (key_at keys entries i) offset).0 here in
    ap (λ (o : ℕ). unwrap_or (map.get later o) []) (sym has.offset_is) ∙ has.key_is

module _ (g : Geometry) (valid : IsValid g) (image : List ℕ) (log : LogPart) (is : IsLogOf g image log) (now : List ℕ) (held : Holds g now (contents g image log is)) (clean : Bool) (unit : List ℕ) where
  all_now : AreAllRecords g.prog now (first_place g (area_in g log)) (end_of (area_in g log)) log.end (records_in g log image)
  all_now = subst (λ (o : Option ℕ). ActiveRecords g now o log.end (records_in g log image)) is.active held.active

  pub records_stay : records_in g (with_tail log clean unit) now ≡ records_in g log image
  records_stay = records_are g.prog (prog_positive g valid) now (first_place g (area_in g log)) log.end (records_in g log image) all_now.each

  pub log_stays : (IsTrue clean ↔ IsErased now log.end (end_of (area_in g log) - log.end)) → IsLogOf g now (with_tail log clean unit)
  log_stays tail = record {
    first = is.first;
    second = is.second;
    active = is.active;
    version = is.version;
    holds = subst (λ (rs : List Write). Holds g now (record { first = is.first; second = is.second; records = rs; end = log.end })) (sym records_stay) held;
    table = subst (λ (rs : List Write). IsTable log.hash_bits (places_of (listed g.prog (first_place g (area_in g log)) rs)) log.table.entries) (sym records_stay) is.table;
    clean = tail;
  }

  module _ (safe : IsSafe g log) (safe_now : IsSafe g (with_tail log clean unit)) (is_now : IsLogOf g now (with_tail log clean unit)) where
    same_keys : KeysStay (keys_in g (area_in g log) image) log.table.entries (keys_in g (area_in g log) now) log.table.entries
    same_keys = keys_stay log.hash_bits (keys_in g (area_in g log) image) (keys_in g (area_in g log) now) (places_of (listed g.prog (first_place g (area_in g log)) (records_in g log image))) log.table.entries
        (told_table g log image safe is)
        (subst (λ (rs : List Write). IsTableOf log.hash_bits (keys_in g (area_in g log) now) (places_of (listed g.prog (first_place g (area_in g log)) rs)) log.table.entries) records_stay
        (told_table g (with_tail log clean unit) now safe_now is_now))

    pub located_still : (key : List ℕ) (place : Place) → place.at ≤ length log.table.entries → (place.found ≡ true → place.at < length log.table.entries)
        → IsLocated g image log key place → IsLocated g now (with_tail log clean unit) key place
    located_still key place inside there was =
        located g (with_tail log clean unit) now safe_now is_now key place
        (place_stays log.hash_bits (keys_in g (area_in g log) image) log.table.entries (keys_in g (area_in g log) now) log.table.entries key place refl same_keys inside there was.place_is) there
