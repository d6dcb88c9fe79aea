-- The table of copies that stand one behind another.
use Rattle.std.proofs.Common.{◌≡◌, ◌≢◌, ◌⊎◌, ℕ, zero, suc, ◌+◌, ◌<◌, ◌≤◌, Bool, true, false, List, [], ◌∷◌, ◌++◌, length, ⊎_elim, refl, sym, ◌∙◌, ap, subst, arith}
use Rattle.std.specs.Prelude.{◌==◌, ◌↔◌, if◌then◌else◌, IsTrue, Option, Some, None}
use Rattle.std.specs.FinMap as map
use Rattle.std.specs.List.{insert}
use Rattle.std.specs.Option.{unwrap_or}
use Rattle.std.proofs.lemmas.Bool.{cases_lt, ne_eqb}
use Rattle.std.proofs.lemmas.List.{append_assoc, append-nil}
use Rattle.std.proofs.lemmas.List.Edits.{get_or-insert_at, get_or-insert_below, insert_end, length-insert}
use mathlib.Core.Bool.{false≢true}
use Rattle.flash_core.specs.declared.geometry.Geometry.{Geometry}
use Rattle.kv_model.specs.Crc.{key_hash}
use Rattle.kv_model.specs.Flags.{remove_flags}
use Rattle.kv_model.specs.KeyOrder.{is_below}
use Rattle.kv_model.specs.LogStep.{Ascend}
use Rattle.kv_model.specs.Write.{Write}
use Rattle.record_core.specs.Log.{AreRecords, extent}
use Rattle.record_core.proofs.LogLemmas.{AreRecords-forward}
use Rattle.area_log.specs.declared.area.Area.{Area}
use Rattle.area_log.specs.Areas.{end_of}
use Rattle.area_log.specs.Listing.{found_at, listed}
use Rattle.area_collect.specs.Copies.{moved}
use Rattle.ram_table.specs.declared.table.Entry.{Entry}
use Rattle.ram_table.specs.declared.table.Place.{Place}
use Rattle.ram_table.specs.Find.{IsPlaceOf, key_at}
use Rattle.ram_table.specs.Reader.{KeyMap}
use Rattle.ram_table.specs.Table.{changed_by, entry_at}
use Rattle.ram_table.proofs.KeyOrderLemmas.{is_below-trans, not_below_itself}
use Rattle.tdb_mount.specs.Index.{HasEntry, IsTable, IsTableOf, PlaceMap, placed, places_after, places_of}
use Rattle.tdb_mount.specs.Keys.{keys_in}
use Rattle.tdb_mount.proofs.PlaceLemmas.{tells_record}
use Rattle.tdb_mount.proofs.TableLemmas.{not_some, table_by}

abbrev no_entry : Entry
no_entry = record { hash = 0; offset = 0 }

-- each record is that of an entry, is no remove, and has its key at its place
abbrev pub Fits : ℕ → ℕ → KeyMap → ℕ → List Entry → List Write → Type 0
Fits prog bits keys place [] [] = Unit {0}
Fits prog bits keys place [] (r ∷ rs) = ⊥
Fits prog bits keys place (e ∷ es) [] = ⊥
Fits prog bits keys place (e ∷ es) (r ∷ rs) =
    (e.hash ≡ key_hash bits r.key) × ((r.flags ≢ remove_flags) × ((map.get keys place ≡ Some r.key) × Fits prog bits keys (place + extent prog r) es rs))

-- these are the keys of the records
abbrev pub Keyed : (Entry → List ℕ) → List Entry → List Write → Type 0
Keyed key_of [] rs = Unit {0}
Keyed key_of (e ∷ es) [] = ⊥
Keyed key_of (e ∷ es) (r ∷ rs) = (r.key ≡ key_of e) × Keyed key_of es rs

module _ (prog bits : ℕ) (keys : KeyMap) where
  -- all keys of a table are below the first of these
  abbrev BelowFirst : List Entry → List Write → Type 0
  BelowFirst done [] = Unit {0}
  BelowFirst done (r ∷ rs) = (i : ℕ) → i < length done → IsTrue (is_below bits (key_at keys done i) r.key)

  last_place : (done : List Entry) (key : List ℕ) → ((i : ℕ) → i < length done → IsTrue (is_below bits (key_at keys done i) key)) → IsPlaceOf bits keys done key (record { at = length done; found = false })
  last_place done key below = record {
    found = (
      (λ found. absurd (false≢true found)),
      (λ has. absurd (not_below_itself bits key (subst (λ (k : List ℕ). IsTrue (is_below bits k key)) has.is (below has.place has.inside)))),
    );
    here = λ found. absurd (false≢true found);
    below = λ i lt. below i lt;
    above = λ missing i le lt. absurd (omega (arith, le, lt));
  }

  module _ (done : List Entry) (place : ℕ) (e : Entry) (r : Write) (reads : map.get keys place ≡ Some r.key) where
    abbrev new : Entry
    new = record { hash = e.hash; offset = place }

    abbrev more : List Entry
    more = insert done (length done) (record { hash = e.hash; offset = place })

    key_last : key_at keys (insert done (length done) (record { hash = e.hash; offset = place })) (length done) ≡ r.key
    key_last = ap (λ (x : Entry). unwrap_or (map.get keys x.offset) []) (get_or-insert_at done (length done) new no_entry (omega arith)) ∙ ap (λ (o : Option (List ℕ)). unwrap_or o []) reads

    key_before : (i : ℕ) → i < length done → key_at keys (insert done (length done) (record { hash = e.hash; offset = place })) i ≡ key_at keys done i
    key_before i lt = ap (λ (x : Entry). unwrap_or (map.get keys x.offset) []) (get_or-insert_below done (length done) new no_entry i lt (omega arith))

    below_next : (rs : List Write) → Ascend bits (r ∷ rs) → BelowFirst done (r ∷ rs) → BelowFirst (insert done (length done) (record { hash = e.hash; offset = place })) rs
    below_next [] ascend below = tt
    below_next (s ∷ rs) ascend below = λ i lt. ⊎_elim
        (λ less. subst (λ (k : List ℕ). IsTrue (is_below bits k s.key)) (sym (key_before i less)) (is_below-trans bits (key_at keys done i) r.key s.key (below i less) ascend.0))
        (λ full.
        let at : i ≡ length done = omega (arith, full, lt, length-insert done (length done) new (omega arith)) in
        subst (λ (k : List ℕ). IsTrue (is_below bits k s.key)) (sym (ap (key_at keys more) at ∙ key_last)) ascend.0)
        (cases_lt i (length done))

  ascend_rest : (r : Write) (rs : List Write) → Ascend bits (r ∷ rs) → Ascend bits rs
  ascend_rest r [] ascend = tt
  ascend_rest r (s ∷ rs) ascend = ascend.1

  joined : (done : List Entry) (e : Entry) (rest : List Entry) → insert done (length done) e ++ rest ≡ done ++ e ∷ rest
  joined done e rest = ap (λ (l : List Entry). l ++ rest) (insert_end done e) ∙ append_assoc done (e ∷ []) rest

  table_of : (place : ℕ) (es : List Entry) (rs : List Write) (places : PlaceMap) (done : List Entry) → IsTableOf bits keys places done → Fits prog bits keys place es rs → BelowFirst done rs → Ascend bits rs
      → IsTableOf bits keys (places_after places (listed prog place rs)) (done ++ moved prog place es rs)
  table_of place [] [] places done table fits below ascend = subst (IsTableOf bits keys places) (sym (append-nil done)) table
  table_of place [] (r ∷ rs) places done table fits below ascend = absurd fits
  table_of place (e ∷ es) [] places done table fits below ascend = absurd fits
  table_of place (e ∷ es) (r ∷ rs) places done table fits below ascend =
      let new : Entry = record { hash = e.hash; offset = place } in
      let kept : (r.flags == remove_flags) ≡ false = ne_eqb r.flags remove_flags fits.1.0 in
      let next : IsTableOf bits keys (map.insert places r.key place) (insert done (length done) new) =
      table_by bits keys places done table r.key (record { at = length done; found = false }) (last_place done r.key below) (omega arith) place fits.1.1.0 (λ found. absurd (false≢true found)) e.hash fits.0 false false refl in
      let placed_is : placed (found_at place r) places ≡ map.insert places r.key place = ap (λ (b : Bool). if b then map.remove places r.key else map.insert places r.key place) kept in
      subst (IsTableOf bits keys (places_after places (listed prog place (r ∷ rs)))) (joined done new (moved prog (place + extent prog r) es rs))
      (subst (λ (p : PlaceMap). IsTableOf bits keys (places_after p (listed prog (place + extent prog r) rs)) (insert done (length done) new ++ moved prog (place + extent prog r) es rs)) (sym placed_is)
      (table_of (place + extent prog r) es rs (map.insert places r.key place) (insert done (length done) new) next fits.1.1.1 (below_next done place e r fits.1.1.0 rs ascend below) (ascend_rest r rs ascend)))

  no_table : IsTableOf bits keys map.empty []
  no_table = record {
    index = record {
      has = λ i lt. absurd (omega (arith, lt));
      hash = λ i lt. absurd (omega (arith, lt));
      ascend = λ i j less lt. absurd (omega (arith, lt));
    };
    same = λ key offset. ((λ found. absurd (not_some offset (sym (map.get-empty _ key) ∙ found))), (λ has. absurd (omega (arith, has.inside))));
  }

  pub moved_table : (place : ℕ) (es : List Entry) (rs : List Write) → Fits prog bits keys place es rs → Ascend bits rs → IsTable bits (places_of (listed prog place rs)) (moved prog place es rs)
  moved_table place es rs fits ascend = record { keys = keys; is = table_of place es rs map.empty [] no_table fits (first rs) ascend }
    where
      first : (rs : List Write) → BelowFirst [] rs
      first [] = tt
      first (r ∷ rs) = λ i lt. absurd (omega (arith, lt))

  pub length-moved : (place : ℕ) (es : List Entry) (rs : List Write) → Fits prog bits keys place es rs → length (moved prog place es rs) ≡ length es
  length-moved place [] [] fits = refl
  length-moved place [] (r ∷ rs) fits = absurd fits
  length-moved place (e ∷ es) [] fits = absurd fits
  length-moved place (e ∷ es) (r ∷ rs) fits = ap suc (length-moved (place + extent prog r) es rs fits.1.1.1)

  -- each entry's key is that of its record
  pub key_moved : (place : ℕ) (es : List Entry) (rs : List Write) → Fits prog bits keys place es rs → (key_of : Entry → List ℕ) → Keyed key_of es rs → (i : ℕ) → i < length es → key_at keys (moved prog place es rs) i ≡ key_of (entry_at es i)
  key_moved place [] rs fits key_of keyed i lt = absurd (omega (arith, lt))
  key_moved place (e ∷ es) [] fits key_of keyed i lt = absurd fits
  key_moved place (e ∷ es) (r ∷ rs) fits key_of keyed zero lt = ap (λ (o : Option (List ℕ)). unwrap_or o []) fits.1.1.0 ∙ keyed.0
  key_moved place (e ∷ es) (r ∷ rs) fits key_of keyed (suc i) lt = key_moved (place + extent prog r) es rs fits.1.1.1 key_of keyed.1 i (omega (arith, lt))
