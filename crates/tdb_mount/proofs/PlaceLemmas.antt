-- The places of an area's records.
use Rattle.std.proofs.Common.{◌≡◌, ◌≢◌, ℕ, ◌+◌, ◌<◌, ◌≤◌, Bool, true, false, List, [], ◌∷◌, ◌++◌, length, ⊎_elim, refl, sym, ◌∙◌, ap, subst, arith}
use Rattle.std.specs.Prelude.{◌==◌, if◌then◌else◌, Option, Some, None, Result, Ok, Err, OnOk}
use Rattle.std.specs.FinMap as map
use Rattle.std.specs.Ordering.{nat_cmp}
use Rattle.std.specs.Cmp.Lexicographic.{slice_cmp}
use Rattle.std.proofs.lemmas.Bool.{eq-eqb, eqb-true}
use mathlib.Core.Bool.{false≢true}
use Rattle.std.specs.Option.{ForSome}
use Rattle.flash_core.specs.declared.geometry.Geometry.{Geometry}
use Rattle.flash_core.specs.State.{FlashState}
use Rattle.kv_model.specs.Crc.{key_hash}
use Rattle.kv_model.specs.FlaggedMap.{FlaggedMap, Stored}
use Rattle.kv_model.specs.Flags.{remove_flags}
use Rattle.kv_model.specs.Write.{Write, applied, map_after, map_of}
use Rattle.record_core.specs.Log.{AreRecords, IsRecordAt, extent}
use Rattle.record_core.proofs.LogLemmas.{AreRecords-forward, extent-positive, get-applied_other, get-applied_removed, get-applied_stored}
use Rattle.area_log.specs.declared.area.Area.{Area}
use Rattle.area_log.specs.Areas.{end_of, first_place}
use Rattle.area_log.specs.Listing.{Found, IsNext, found_at, listed}
use Rattle.ram_table.specs.declared.table.Entry.{Entry}
use Rattle.ram_table.specs.declared.table.Place.{Place}
use Rattle.ram_table.specs.Find.{CanFind, IsIndexOf, IsPlaceOf}
use Rattle.ram_table.specs.Reader.{KeyMap}
use Rattle.ram_table.specs.Table.{changed}
use Rattle.tdb_mount.specs.Index.{IsKept, IsLinked, IsTable, IsTableOf, PlaceMap, placed, places_after, places_of, record_of}
use Rattle.tdb_mount.specs.Keys.{key_spelled, keys_in, keys_of}
use Rattle.tdb_mount.specs.Room.{AreIn}
use Rattle.tdb_mount.proofs.ReaderLemmas.{mapped_from}
use Rattle.tdb_mount.proofs.KeyLemmas.{get-tabulate, record_spells, spelled_key}
use Rattle.tdb_mount.proofs.TableLemmas.{cases_key, get-placed, get-placed_other, get-taken, get-taken_other, not_some, places_of-append, some_is, table_by, table_with}

-- ---- records and the places of their keys

abbrev Linked : ℕ → List ℕ → ℕ → PlaceMap → FlaggedMap → Type 0
Linked prog image end places m = (key : List ℕ) → IsLinked prog image end key (map.get places key) (map.get m key)

abbrev LinkedBy : ℕ → List ℕ → ℕ → List ℕ → Option ℕ → Option Stored → Type 0
LinkedBy prog image end key place there = IsLinked prog image end key place there

module _ (prog : ℕ) (positive : 1 ≤ prog) (image : List ℕ) (end : ℕ) where
  -- one record more
  linked_more : (removes : Bool) (places : PlaceMap) (m : FlaggedMap) (place : ℕ) (r : Write) → (r.flags == remove_flags) ≡ removes
      → IsRecordAt prog image place r → place + extent prog r ≤ end → Linked prog image end places m
      → Linked prog image end (if removes then map.remove places r.key else map.insert places r.key place) (applied r m)
  linked_more true places m place r is stands inside linked key = ⊎_elim
      (λ same. subst (λ (k : List ℕ). LinkedBy prog image end k (map.get (map.remove places r.key) k) (map.get (applied r m) k)) (sym same)
      (subst (LinkedBy prog image end r.key (map.get (map.remove places r.key) r.key)) (sym (get-applied_removed m r (eqb-true r.flags remove_flags is)))
      (subst (λ (p : Option ℕ). LinkedBy prog image end r.key p None) (sym (get-taken places r.key)) tt)))
      (λ other. subst (LinkedBy prog image end key (map.get (map.remove places r.key) key)) (sym (get-applied_other m r key other))
      (subst (λ (p : Option ℕ). LinkedBy prog image end key p (map.get m key)) (sym (get-taken_other places r.key key other)) (linked key)))
      (cases_key key r.key)
  linked_more false places m place r is stands inside linked key =
      let stored : r.flags ≢ remove_flags = λ same. false≢true (sym is ∙ eq-eqb r.flags remove_flags same) in
      ⊎_elim
      (λ same. subst (λ (k : List ℕ). LinkedBy prog image end k (map.get (map.insert places r.key place) k) (map.get (applied r m) k)) (sym same)
      (subst (LinkedBy prog image end r.key (map.get (map.insert places r.key place) r.key)) (sym (get-applied_stored m r stored))
      (subst (λ (p : Option ℕ). LinkedBy prog image end r.key p (Some (record { flags = r.flags; bytes = r.value }))) (sym (get-placed places r.key place))
      (record { stands = stands; inside = inside }))))
      (λ other. subst (LinkedBy prog image end key (map.get (map.insert places r.key place) key)) (sym (get-applied_other m r key other))
      (subst (λ (p : Option ℕ). LinkedBy prog image end key p (map.get m key)) (sym (get-placed_other places r.key place key other)) (linked key)))
      (cases_key key r.key)

  linked_after : (places : PlaceMap) (m : FlaggedMap) (place : ℕ) (rs : List Write) → AreRecords prog image place end rs → Linked prog image end places m
      → Linked prog image end (places_after places (listed prog place rs)) (map_after m rs)
  linked_after places m place [] records linked = linked
  linked_after places m place (r ∷ rs) records linked =
      linked_after (placed (found_at place r) places) (applied r m) (place + extent prog r) rs records.1
      (linked_more (r.flags == remove_flags) places m place r refl records.0 (AreRecords-forward prog positive image (place + extent prog r) end rs records.1) linked)

  abbrev no_values : FlaggedMap
  no_values = map.empty

  abbrev no_places : PlaceMap
  no_places = map.empty

  -- records stand for a map and for the places of its keys
  pub records_linked : (place : ℕ) (rs : List Write) → AreRecords prog image place end rs → Linked prog image end (places_of (listed prog place rs)) (map_of rs)
  records_linked place rs records = linked_after no_places no_values place rs records
      (λ key. subst (λ (p : Option ℕ). LinkedBy prog image end key p (map.get no_values key)) (sym (map.get-empty (slice_cmp nat_cmp) key))
      (subst (LinkedBy prog image end key None) (sym (map.get-empty (slice_cmp nat_cmp) key)) tt))

  kept_of : (key : List ℕ) (place : Option ℕ) (there : Option Stored) (offset : ℕ) → place ≡ Some offset → IsLinked prog image end key place there → (stored : Stored) × IsKept prog image end offset key stored
  kept_of key None there offset is linked = absurd (not_some offset is)
  kept_of key (Some place) None offset is linked = absurd linked
  kept_of key (Some place) (Some stored) offset is linked = (stored, subst (λ (p : ℕ). IsKept prog image end p key stored) (some_is place offset is) linked)

  -- at a key's place its record stands
  pub record_of_place : (place : ℕ) (rs : List Write) → AreRecords prog image place end rs → (key : List ℕ) (offset : ℕ) → map.get (places_of (listed prog place rs)) key ≡ Some offset
      → (stored : Stored) × IsKept prog image end offset key stored
  record_of_place place rs records key offset found =
      kept_of key (map.get (places_of (listed prog place rs)) key) (map.get (map_of rs) key) offset found (records_linked place rs records key)

-- ---- what a reader tells of them

-- a table of entries in an area may be searched with the reader of its keys
pub can_find : (s : FlashState) (area : Area) (hash_bits refusals : ℕ) (entries : List Entry) → AreIn area entries → ForSome s.image (λ image. IsIndexOf hash_bits (keys_in s.geometry area image) entries)
    → CanFind (keys_of s area hash_bits refusals) entries
can_find s area hash_bits refusals entries within index = record {
  within = λ i inside. omega (arith, (within i inside).1);
  index = λ keys told.
      let image = mapped_from (keys_in s.geometry area) s.image keys told in
      subst (λ (k : KeyMap). IsIndexOf hash_bits k entries) image.2 (index image.0 image.1);
}

module _ (g : Geometry) (positive : 1 ≤ g.prog) (image : List ℕ) (area : Area) where
  -- a record of the area tells its key
  pub tells_record : (place : ℕ) (r : Write) → IsRecordAt g.prog image place r → place + extent g.prog r ≤ end_of area → map.get (keys_in g area image) place ≡ Some r.key
  tells_record place r stands inside =
      let below : place < end_of area = omega (arith, inside, extent-positive g.prog positive r) in
      get-tabulate (key_spelled g.prog image (end_of area)) (end_of area) place below
      ∙ spelled_key g.prog image (end_of area) place r.key (record_spells g.prog positive image (end_of area) place r stands inside)

  module _ (found : Found) (before : List Found) (next : IsNext g image area found before) where
    pub tells_before : (key : List ℕ) (offset : ℕ) → map.get (places_of before) key ≡ Some offset → map.get (keys_in g area image) offset ≡ Some key
    tells_before key offset is =
        let kept = record_of_place g.prog positive image found.at (first_place g area) next.records next.each key offset (ap (λ (l : List Found). map.get (places_of l) key) (sym next.before_is) ∙ is) in
        tells_record offset (record_of key kept.0) kept.1.stands (omega (arith, kept.1.inside, next.inside))

    -- the table of those before, as the device tells their keys
    pub table_told : (bits : ℕ) (entries : List Entry) → IsTable bits (places_of before) entries → IsTableOf bits (keys_in g area image) (places_of before) entries
    table_told bits entries table = table_with bits table.keys (keys_in g area image) (places_of before) entries table.is tells_before

    tells_this : map.get (keys_in g area image) found.at ≡ Some found.key
    tells_this = tells_record found.at next.this next.stands next.inside ∙ ap (λ (f : Found). Some f.key) (sym next.found_is)

    pub table_this : (bits : ℕ) (entries : List Entry) (place : Place) (hash : ℕ) (is_remove : Bool) → IsTable bits (places_of before) entries
        → IsPlaceOf bits (keys_in g area image) entries found.key place → place.at ≤ length entries → (place.found ≡ true → place.at < length entries)
        → hash ≡ key_hash bits found.key → is_remove ≡ (found.header.flags == remove_flags)
        → IsTable bits (places_of (before ++ found ∷ [])) (changed entries place hash found.at is_remove)
    table_this bits entries place hash is_remove table is_place inside there hash_is is =
        let keys = keys_in g area image in
        let by : IsTableOf bits keys (placed found (places_of before)) (changed entries place hash found.at (found.header.flags == remove_flags)) =
        table_by bits keys (places_of before) entries (table_told bits entries table) found.key place is_place inside found.at tells_this there hash hash_is
        (found.header.flags == remove_flags) place.found refl in
        record {
          keys = keys;
          is = subst (λ (p : PlaceMap). IsTableOf bits keys p (changed entries place hash found.at is_remove)) (sym (places_of-append before found))
              (subst (λ (b : Bool). IsTableOf bits keys (placed found (places_of before)) (changed entries place hash found.at b)) (sym is) by);
        }

    -- the table with this record too, once it was taken in
    pub table_more : {T E : Type 0} (bits later : ℕ) (entries entries_now : List Entry) (place : Place) (hash : ℕ) (is_remove : Bool) (result : Result T E) → later ≡ bits
        → OnOk result (entries_now ≡ changed entries place hash found.at is_remove) → IsTable bits (places_of before) entries
        → IsPlaceOf bits (keys_in g area image) entries found.key place → place.at ≤ length entries → (place.found ≡ true → place.at < length entries)
        → hash ≡ key_hash bits found.key → is_remove ≡ (found.header.flags == remove_flags)
        → OnOk result (IsTable later (places_of (before ++ found ∷ [])) entries_now)
    table_more bits later entries entries_now place hash is_remove (Ok x) same is_now table is_place inside there hash_is is =
        subst (λ (b : ℕ). IsTable b (places_of (before ++ found ∷ [])) entries_now) (sym same)
        (subst (IsTable bits (places_of (before ++ found ∷ []))) (sym is_now) (table_this bits entries place hash is_remove table is_place inside there hash_is is))
    table_more bits later entries entries_now place hash is_remove (Err e) same is_now table is_place inside there hash_is is = tt
