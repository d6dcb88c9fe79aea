-- The records at the places that a mount found are those of the map to which the image mounts.
use Rattle.std.proofs.Common.{◌≡◌, ◌≢◌, ◌⊎◌, ℕ, suc, ◌<◌, ◌≤◌, List, [], ◌∷◌, length, inl, inr, refl, sym, ◌∙◌, ap, subst, arith}
use Rattle.std.specs.Prelude.{All, IsTrue, Option, Some, None, Result, Ok, Err, IfOk, OnOk, Vec}
use Rattle.std.specs.FinMap as map
use Rattle.std.specs.List.{flat_map}
use Rattle.std.proofs.lemmas.List.Elements.{All-cons, All-nil}
use Rattle.std.specs.declared.alloc.Global.{Global}
use Rattle.flash_core.specs.declared.geometry.Geometry.{Geometry}
use Rattle.flash_core.specs.Sizes.{IsValid, area_size}
use Rattle.flash_core.proofs.GeometryLaws.{prog_positive}
use Rattle.kv_model.specs.FlaggedMap.{FlaggedMap, Stored}
use Rattle.kv_model.specs.Flags.{is_plain_flags, remove_flags}
use Rattle.kv_model.specs.LogStep.{AreLive}
use Rattle.kv_model.specs.Sizes.{room_of, used}
use Rattle.kv_model.specs.Write.{Write, map_of}
use Rattle.record_core.specs.Log.{AreAllRecords}
use Rattle.record_core.specs.Mounts.{ActiveRecords}
use Rattle.area_log.specs.declared.area.Area.{Area}
use Rattle.area_log.specs.Areas.{end_of, first_place}
use Rattle.area_log.specs.Listing.{listed}
use Rattle.ram_table.specs.declared.table.Entry.{Entry}
use Rattle.ram_table.specs.Find.{key_at}
use Rattle.ram_table.specs.Reader.{KeyMap}
use Rattle.ram_table.specs.Table.{entry_at}
use Rattle.tdb_mount.specs.declared.mount.Parts.{Parts}
use Rattle.tdb_mount.specs.Index.{HasEntry, IsKept, IsLinked, PlaceMap, places_of, record_of}
use Rattle.tdb_mount.specs.Mounted.{IsMountOf, MountsAs}
use Rattle.tdb_mount.specs.Room.{area_of}
use Rattle.tdb_read.specs.Records.{record_at}
use Rattle.tdb_read.proofs.RecordLemmas.{record_is}
use Rattle.tdb_write.proofs.LiveLemmas.{AreLiveEntries, FindsKey, live_are, live_of, no_removes, records_spent, used_most}
use Rattle.kv_tools.specs.Listing.{HasLines, IsDumpOf, IsSpelled, key_line, set_line}
use Rattle.kv_tools.proofs.ListLemmas.{parsed}
use Rattle.kv_tools.specs.Replaying.{CanSet}
use Rattle.kv_tools.specs.Placing.{AreHeld, HoldsLive, records_at}

-- ---- the records of a map

records_are : (prog : ℕ) (image : List ℕ) (es : List Entry) → live_of prog image es ≡ records_at prog image es
records_are prog image [] = refl
records_are prog image (e ∷ es) = ap (λ (rs : List Write). record_at prog image e.offset ∷ rs) (records_are prog image es)

-- what a place says of the map
record Present (prog : ℕ) (image : List ℕ) (end place : ℕ) (key : List ℕ) (there : Option Stored) : Type 0 where
  pub stored : Stored
  pub present : there ≡ Some stored
  pub kept : IsKept prog image end place key stored

linked_at : (prog : ℕ) (image : List ℕ) (end place : ℕ) (key : List ℕ) (there : Option Stored) → IsLinked prog image end key (Some place) there → Present prog image end place key there
linked_at prog image end place key None is = absurd is
linked_at prog image end place key (Some stored) is = record { stored = stored; present = refl; kept = is }

some_place : (prog : ℕ) (image : List ℕ) (end : ℕ) (key : List ℕ) (place : Option ℕ) (stored : Stored) → IsLinked prog image end key place (Some stored) → (p : ℕ) × (place ≡ Some p)
some_place prog image end key None stored is = absurd is
some_place prog image end key (Some place) stored is = (place, refl)

module _ (g : Geometry) (valid : IsValid g) (hash_bits : ℕ) (image : List ℕ) (parts : Parts) (is : IsMountOf g hash_bits image parts) where
  abbrev keys : KeyMap
  keys = is.table.keys

  abbrev es : List Entry
  es = parts.table.entries

  abbrev m : FlaggedMap
  m = map_of is.contents.records

  abbrev places : PlaceMap
  places = places_of (listed g.prog (first_place g (area_of g parts.active)) is.contents.records)

  all_records : AreAllRecords g.prog image (first_place g (area_of g parts.active)) (end_of (area_of g parts.active)) is.contents.end is.contents.records
  all_records = subst (λ (o : Option ℕ). ActiveRecords g image o is.contents.end is.contents.records) is.active is.holds.active

  -- the record of an entry's key
  at_entry : (i : ℕ) → i < length es → Present g.prog image parts.end (entry_at es i).offset (key_at keys es i) (map.get m (key_at keys es i))
  at_entry i lt =
      let key : List ℕ = key_at keys es i in
      let offset : ℕ = (entry_at es i).offset in
      let has : HasEntry keys es key offset = record { place = i; inside = lt; key_is = refl; offset_is = refl } in
      linked_at g.prog image parts.end offset key (map.get m key)
      (subst (λ (p : Option ℕ). IsLinked g.prog image parts.end key p (map.get m key)) ((is.table.is.same key offset).1 has) (is.linked key))

  finds : (key : List ℕ) (found : Option Stored) → map.get m key ≡ found → (map.get m key ≡ None → ⊥) → FindsKey keys es key
  finds key None none some = absurd (some none)
  finds key (Some stored) there some =
      let place = some_place g.prog image parts.end key (map.get places key) stored
      (subst (λ (o : Option Stored). IsLinked g.prog image parts.end key (map.get places key) o) there (is.linked key)) in
      let entry = (is.table.is.same key place.0).0 place.1 in
      record { at = entry.place; inside = entry.inside; is = entry.key_is }

  live_entries : AreLiveEntries g.prog hash_bits image parts.end keys m es
  live_entries = record {
    index = is.table.is.index;
    each = λ i lt.
        let at = at_entry i lt in
        let key : List ℕ = key_at keys es i in
        record {
          this = record_of key at.stored;
          stands = at.kept.stands;
          inside = at.kept.inside;
          of_map = record { kept = no_removes is.contents.records key at.stored at.present; found = at.present };
          key_is = refl;
        };
    all = λ key some. finds key (map.get m key) refl some;
  }

  pub records_live : AreLive hash_bits m (records_at g.prog image es)
  records_live = subst (AreLive hash_bits m) (records_are g.prog image es)
      (live_are g.prog (prog_positive g valid) hash_bits image parts.end keys m es live_entries)

  -- they fit into an area
  pub map_fits : used g.prog m ≤ room_of g.prog (area_size g)
  map_fits = omega (
    arith,
    used_most g.prog is.contents.records,
    valid.master_fits,
    all_records.inside,
    records_spent g.prog image (first_place g (area_of g parts.active)) is.contents.end is.contents.records all_records.each,
  )

  -- each of them stands at its place
  pub are_held : AreHeld g image parts
  are_held i lt =
      let at = at_entry i lt in
      let end : parts.end ≤ end_of (area_of g parts.active) = omega (arith, is.end, all_records.inside) in
      record {
        this = record_of (key_at keys es i) at.stored;
        stands = at.kept.stands;
        inside = omega (arith, at.kept.inside, end);
        kept = no_removes is.contents.records (key_at keys es i) at.stored at.present;
      }

plain : (flags : ℕ) → (flags ≡ 0) ⊎ (flags ≡ 1) ⊎ (flags ≡ remove_flags) → flags ≢ remove_flags → IsTrue (is_plain_flags flags)
plain flags (inl zero) kept = ap is_plain_flags zero
plain flags (inr (inl one)) kept = ap is_plain_flags one
plain flags (inr (inr removes)) kept = absurd (kept removes)

-- each of them is a set that a plain store takes
module _ (g : Geometry) (positive : 1 ≤ g.prog) (image : List ℕ) (area : Area) where
  can_set : (place : ℕ) → HoldsLive g image area place → CanSet (record_at g.prog image place)
  can_set place held = subst CanSet (sym (record_is g.prog positive image place held.this held.stands)) (record {
    key = held.stands.valid_key;
    flags = plain held.this.flags held.stands.valid_header.kind held.kept;
    size = held.stands.valid_header.value_most;
  })

  all_can : (es : List Entry) → ((i : ℕ) → i < length es → HoldsLive g image area (entry_at es i).offset) → All CanSet (records_at g.prog image es)
  all_can [] held = All-nil CanSet
  all_can (e ∷ es) held = All-cons CanSet (record_at g.prog image e.offset) (records_at g.prog image es) (can_set e.offset (held 0 (omega arith))) (all_can es (λ i lt. held (suc i) (omega (arith, lt))))

-- a text of their lines is one of the image that was mounted
module _ (line : Write → List ℕ) (g : Geometry) (valid : IsValid g) (hash_bits : ℕ) (image left : List ℕ) (parts : Parts) (mounted : MountsAs g hash_bits image left parts) where
  pub has_lines : (text : List ℕ) → text ≡ flat_map line (records_at g.prog left parts.table.entries) → HasLines line g hash_bits image text
  has_lines text is = record {
    of = mounted.map;
    mounts = mounted.mounts;
    live = records_at g.prog left parts.table.entries;
    are = subst (λ (x : FlaggedMap). AreLive hash_bits x (records_at g.prog left parts.table.entries)) (sym mounted.stands) (records_live g valid hash_bits left parts mounted.found);
    text_is = is;
  }

-- ---- at the end of a call

by_result : {T E : Type 0} (P Q : T → Type 0) (result : Result T E) → ((x : T) → P x → Q x) → IfOk result P → IfOk result Q
by_result P Q (Ok x) implies holds = implies x holds
by_result P Q (Err e) implies holds = tt

module _ (g old new : Geometry) (valid : IsValid g) (same : old ≡ g) (kept : new ≡ old) (hash_bits : ℕ) (image copy left : List ℕ) (copied : copy ≡ image) (parts : Parts) (mounted : MountsAs old hash_bits copy left parts) where
  mounted_so : MountsAs g hash_bits image left parts
  mounted_so = subst (λ (l : List ℕ). MountsAs g hash_bits l left parts) copied (subst (λ (x : Geometry). MountsAs x hash_bits copy left parts) same mounted)

  pub held_so : AreHeld new left parts
  held_so = subst (λ (x : Geometry). AreHeld x left parts) (sym (kept ∙ same)) (are_held g valid hash_bits left parts mounted_so.found)

  lines_so : (line : Write → List ℕ) (text : List ℕ) → text ≡ flat_map line (records_at new.prog left parts.table.entries) → HasLines line g hash_bits image text
  lines_so line text is = has_lines line g valid hash_bits image left parts mounted_so text (is ∙ ap (λ (x : Geometry). flat_map line (records_at x.prog left parts.table.entries)) (kept ∙ same))

  pub listed_so : {E : Type 0} (result : Result (Vec ℕ Global) E) → IfOk result (λ text. text.items ≡ flat_map key_line (records_at new.prog left parts.table.entries))
      → IfOk result (λ text. HasLines key_line g hash_bits image text.items)
  listed_so result is = by_result (λ text. text.items ≡ flat_map key_line (records_at new.prog left parts.table.entries)) (λ text. HasLines key_line g hash_bits image text.items) result
      (λ text. lines_so key_line text.items) is

  pub dumped_so : {E : Type 0} (result : Result (Vec ℕ Global) E) → IfOk result (λ text. text.items ≡ flat_map set_line (records_at new.prog left parts.table.entries))
      → OnOk result (All IsSpelled (records_at new.prog left parts.table.entries)) → IfOk result (λ text. IsDumpOf g hash_bits image text.items)
  unfolding has_lines lines_so
  dumped_so (Ok text) is spelled =
      let sets : HasLines set_line g hash_bits image text.items = lines_so set_line text.items is in
      record {
        sets = sets;
        can = all_can g (prog_positive g valid) left (area_of g parts.active) parts.table.entries (are_held g valid hash_bits left parts mounted_so.found);
        fits = subst (λ (x : FlaggedMap). used g.prog x ≤ room_of g.prog (area_size g)) (sym mounted_so.stands) (map_fits g valid hash_bits left parts mounted_so.found);
        parses = λ mode few. parsed mode text.items (records_at g.prog left parts.table.entries) sets.text_is
            (subst (λ (x : Geometry). All IsSpelled (records_at x.prog left parts.table.entries)) (kept ∙ same) spelled) few;
      }
  dumped_so (Err e) is spelled = tt
