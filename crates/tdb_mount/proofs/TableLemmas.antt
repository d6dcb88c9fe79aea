-- How a table changes with one record more.
use Rattle.std.proofs.Common.{◌≡◌, ◌≢◌, ◌⊎◌, ℕ, ◌+◌, ◌-◌, ◌<◌, ◌≤◌, Bool, true, false, cond, List, [], ◌∷◌, ◌++◌, length, inl, inr, ⊎_elim, refl, sym, ◌∙◌, ap, subst, arith}
use Rattle.std.specs.Prelude.{◌||◌, if◌then◌else◌, IsTrue, Option, Some, None, is_some, slice_set}
use Rattle.std.specs.FinMap as map
use Rattle.std.specs.List.{insert, remove}
use Rattle.std.specs.Option.{unwrap_or}
use Rattle.std.specs.Ordering.{eq_by_cmp, nat_cmp}
use Rattle.std.specs.Cmp.Lexicographic.{slice_cmp, nat_list_cmp_total}
use Rattle.std.specs.Str.{bytes_eq}
use Rattle.std.proofs.lemmas.Bool.{cases_eq, cases_lt}
use Rattle.std.proofs.lemmas.List.{get_or-set_other, get_or-set_same, length-set}
use Rattle.std.proofs.lemmas.List.Edits.{get_or-insert_above, get_or-insert_at, get_or-insert_below, get_or-remove_above, get_or-remove_below, length-insert, length-remove}
use Rattle.std.proofs.lemmas.Map.Text.{is_eq-slice_cmp}
use Rattle.std.proofs.lemmas.Slice.Eq.{bytes_eq-Decides}
use mathlib.Core.Bool.{false≢true}
use Rattle.kv_model.specs.Crc.{key_hash}
use Rattle.kv_model.specs.KeyOrder.{is_below}
use Rattle.area_log.specs.declared.area.Area.{Area}
use Rattle.area_log.specs.Areas.{end_of}
use Rattle.area_log.specs.Listing.{Found}
use Rattle.ram_table.specs.declared.table.Entry.{Entry}
use Rattle.ram_table.specs.declared.table.Place.{Place}
use Rattle.ram_table.specs.Find.{IsIndexOf, IsPlaceOf, key_at}
use Rattle.ram_table.specs.Reader.{KeyMap}
use Rattle.ram_table.specs.Table.{changed_by, entry_at}
use Rattle.ram_table.proofs.ChainLemmas.{IsChain, chain_insert, chain_remove, chain_set}
use Rattle.ram_table.proofs.IndexLemmas.{index_insert, index_remove, index_replace, one_entry}
use Rattle.tdb_mount.specs.Index.{HasEntry, IsTableOf, PlaceMap, placed, places_after, places_of}
use Rattle.tdb_mount.specs.Room.{AreIn}

-- ---- entries that lie in an area

abbrev no_entry : Entry
no_entry = record { hash = 0; offset = 0 }

abbrev LiesIn : Area → Entry → Type 0
LiesIn area e = (area.base ≤ e.offset) × (e.offset + 24 ≤ end_of area)

all_in : (area : Area) (entries : List Entry) → AreIn area entries → IsChain no_entry (LiesIn area) (λ e f. Unit {0}) entries
all_in area entries within = record { each = within; pairs = λ i j lt inside. tt }

pub AreIn-remove : (area : Area) (entries : List Entry) (at : ℕ) → AreIn area entries → at < length entries → AreIn area (remove entries at)
AreIn-remove area entries at within inside = (chain_remove no_entry (LiesIn area) (λ e f. Unit {0}) entries (all_in area entries within) at inside).each

pub AreIn-insert : (area : Area) (entries : List Entry) (at hash offset : ℕ) → AreIn area entries → at ≤ length entries → area.base ≤ offset → offset + 24 ≤ end_of area
    → AreIn area (insert entries at (record { hash = hash; offset = offset }))
AreIn-insert area entries at hash offset within inside from to =
    (chain_insert no_entry (LiesIn area) (λ e f. Unit {0}) entries (all_in area entries within) at (record { hash = hash; offset = offset }) inside (from, to)
    (λ i lt inside. tt) (λ i le inside. tt)).each

pub AreIn-set : (area : Area) (entries : List Entry) (at : ℕ) (e : Entry) → AreIn area entries → at < length entries → area.base ≤ e.offset → e.offset + 24 ≤ end_of area → AreIn area (slice_set entries at e)
AreIn-set area entries at e within inside from to =
    (chain_set no_entry (LiesIn area) (λ e f. Unit {0}) entries (all_in area entries within) at e inside (from, to) (λ y r. tt) (λ y r. tt)).each

-- once a record of the area was taken in
pub AreIn-changed : (area : Area) (entries : List Entry) (at hash offset : ℕ) (is_remove found : Bool) → AreIn area entries → at ≤ length entries → (found ≡ true → at < length entries)
    → area.base ≤ offset → offset + 24 ≤ end_of area → AreIn area (changed_by entries at hash offset is_remove found)
AreIn-changed area entries at hash offset true true within inside there from to = AreIn-remove area entries at within (there refl)
AreIn-changed area entries at hash offset true false within inside there from to = within
AreIn-changed area entries at hash offset false true within inside there from to = AreIn-set area entries at (record { hash = (entry_at entries at).hash; offset = offset }) within (there refl) from to
AreIn-changed area entries at hash offset false false within inside there from to = AreIn-insert area entries at hash offset within inside from to

pub length-changed : (entries : List Entry) (at hash offset : ℕ) (is_remove found : Bool) → at ≤ length entries → (found ≡ true → at < length entries) → length (changed_by entries at hash offset is_remove found) ≤ length entries + 1
length-changed entries at hash offset true true inside there = omega (arith, length-remove entries at (there refl))
length-changed entries at hash offset true false inside there = omega arith
length-changed entries at hash offset false true inside there = omega (arith, length-set entries at (record { hash = (entry_at entries at).hash; offset = offset }))
length-changed entries at hash offset false false inside there = omega (arith, length-insert entries at (record { hash = hash; offset = offset }) inside)

-- no entry comes where none is new
pub length-changed_old : (entries : List Entry) (at hash offset : ℕ) (is_remove found : Bool) → (is_remove || found) ≡ true → (found ≡ true → at < length entries) → length (changed_by entries at hash offset is_remove found) ≤ length entries
length-changed_old entries at hash offset true true old there = omega (arith, length-remove entries at (there refl))
length-changed_old entries at hash offset true false old there = omega arith
length-changed_old entries at hash offset false true old there = omega (arith, length-set entries at (record { hash = (entry_at entries at).hash; offset = offset }))
length-changed_old entries at hash offset false false old there = absurd (false≢true old)

-- ---- keys in a map of places

not_true : (b : Bool) → (b ≡ true → ⊥) → b ≡ false
not_true true never = absurd (never refl)
not_true false never = refl

same_key : (key : List ℕ) → eq_by_cmp (slice_cmp nat_cmp) key key ≡ true
same_key key = is_eq-slice_cmp key key ∙ (bytes_eq-Decides key key).1 refl

other_key : (a b : List ℕ) → a ≢ b → eq_by_cmp (slice_cmp nat_cmp) a b ≡ false
other_key a b apart = not_true _ (λ same. apart ((bytes_eq-Decides a b).0 (sym (is_eq-slice_cmp a b) ∙ same)))

same_or_other : (a b : List ℕ) (test : Bool) → bytes_eq a b ≡ test → (a ≡ b) ⊎ (a ≢ b)
same_or_other a b true is = inl ((bytes_eq-Decides a b).0 is)
same_or_other a b false is = inr (λ same. false≢true (sym is ∙ (bytes_eq-Decides a b).1 same))

-- two keys are one or not
pub cases_key : (a b : List ℕ) → (a ≡ b) ⊎ (a ≢ b)
cases_key a b = same_or_other a b (bytes_eq a b) refl

module _ (places : PlaceMap) (key : List ℕ) where
  pub get-placed : (at : ℕ) → map.get (map.insert places key at) key ≡ Some at
  get-placed at = map.get-insert nat_list_cmp_total places key at key ∙ ap (λ (b : Bool). cond b (Some at) (map.get places key)) (same_key key)

  pub get-placed_other : (at : ℕ) (k : List ℕ) → k ≢ key → map.get (map.insert places key at) k ≡ map.get places k
  get-placed_other at k other = map.get-insert nat_list_cmp_total places key at k ∙ ap (λ (b : Bool). cond b (Some at) (map.get places k)) (other_key k key other)

  pub get-taken : map.get (map.remove places key) key ≡ None
  get-taken = map.get-remove nat_list_cmp_total places key key ∙ ap (λ (b : Bool). cond b None (map.get places key)) (same_key key)

  pub get-taken_other : (k : List ℕ) → k ≢ key → map.get (map.remove places key) k ≡ map.get places k
  get-taken_other k other = map.get-remove nat_list_cmp_total places key k ∙ ap (λ (b : Bool). cond b None (map.get places k)) (other_key k key other)

places_after-append : (places : PlaceMap) (xs ys : List Found) → places_after places (xs ++ ys) ≡ places_after (places_after places xs) ys
places_after-append places [] ys = refl
places_after-append places (x ∷ xs) ys = places_after-append (placed x places) xs ys

pub places_of-append : (list : List Found) (found : Found) → places_of (list ++ found ∷ []) ≡ placed found (places_of list)
places_of-append list found = places_after-append map.empty list (found ∷ [])

pub some_is : (x y : ℕ) → Some x ≡ Some y → x ≡ y
some_is x y same = cc

abbrev pub none : Option ℕ
none = None

pub not_some : (x : ℕ) → none ≡ Some x → ⊥
not_some x same = cc

-- ---- entries of changed lists

module _ (keys : KeyMap) where
  abbrev key_of : Entry → List ℕ
  key_of e = unwrap_or (map.get keys e.offset) []

  carry : (xs ys : List Entry) (key : List ℕ) (offset i : ℕ) → i < length ys → (has : HasEntry keys xs key offset) → entry_at ys i ≡ entry_at xs has.place → HasEntry keys ys key offset
  carry xs ys key offset i inside has is = record {
    place = i;
    inside = inside;
    key_is = ap key_of is ∙ has.key_is;
    offset_is = ap (λ (e : Entry). e.offset) is ∙ has.offset_is;
  }

  module _ (bits : ℕ) (entries : List Entry) (index : IsIndexOf bits keys entries) (at : ℕ) where
    -- an entry at another place has another key
    apart : (i : ℕ) → at < length entries → i < length entries → i ≢ at → key_at keys entries i ≢ key_at keys entries at
    apart i inside lt other same = other (one_entry bits keys entries i at index lt inside same)

    removed_to : (key : List ℕ) (offset : ℕ) → at < length entries → key ≢ key_at keys entries at → HasEntry keys entries key offset → HasEntry keys (remove entries at) key offset
    removed_to key offset inside other has =
        let not_here : has.place ≢ at = λ same. other (sym has.key_is ∙ ap (key_at keys entries) same) in
        let long = length-remove entries at inside in
        ⊎_elim
        (λ lt. carry entries (remove entries at) key offset has.place (omega (arith, long, lt, inside)) has (get_or-remove_below entries at no_entry has.place lt inside))
        (λ le. let back : (has.place - 1) + 1 ≡ has.place = omega (arith, not_here, le) in
        carry entries (remove entries at) key offset (has.place - 1) (omega (arith, long, has.inside, back)) has
        (get_or-remove_above entries at no_entry (has.place - 1) (omega (arith, not_here, le)) inside ∙ ap (entry_at entries) back))
        (cases_lt has.place at)

    removed_from : (key : List ℕ) (offset : ℕ) → at < length entries → HasEntry keys (remove entries at) key offset → HasEntry keys entries key offset × (key ≢ key_at keys entries at)
    removed_from key offset inside has =
        let long = length-remove entries at inside in
        ⊎_elim
        (λ lt.
        let is = get_or-remove_below entries at no_entry has.place lt inside in
        let here : has.place < length entries = omega (arith, lt, inside) in (
          carry (remove entries at) entries key offset has.place here has (sym is),
          λ same. apart has.place inside here (λ e. omega (arith, e, lt)) (sym (ap key_of is) ∙ has.key_is ∙ same),
        ))
        (λ le.
        let is = get_or-remove_above entries at no_entry has.place le inside in
        let here : has.place + 1 < length entries = omega (arith, long, has.inside) in (
          carry (remove entries at) entries key offset (has.place + 1) here has (sym is),
          λ same. apart (has.place + 1) inside here (λ e. omega (arith, e, le)) (sym (ap key_of is) ∙ has.key_is ∙ same),
        ))
        (cases_lt has.place at)

    module _ (e : Entry) where
      inserted_to : (key : List ℕ) (offset : ℕ) → at ≤ length entries → HasEntry keys entries key offset → HasEntry keys (insert entries at e) key offset
      inserted_to key offset inside has =
          let long = length-insert entries at e inside in
          ⊎_elim
          (λ lt. carry entries (insert entries at e) key offset has.place (omega (arith, long, has.inside)) has (get_or-insert_below entries at e no_entry has.place lt inside))
          (λ le. carry entries (insert entries at e) key offset (has.place + 1) (omega (arith, long, has.inside)) has (get_or-insert_above entries at e no_entry has.place le inside))
          (cases_lt has.place at)

      inserted_new : at ≤ length entries → HasEntry keys (insert entries at e) (key_of e) e.offset
      inserted_new inside =
          let is = get_or-insert_at entries at e no_entry inside in
          record { place = at; inside = omega (arith, length-insert entries at e inside, inside); key_is = ap key_of is; offset_is = ap (λ (x : Entry). x.offset) is }

      inserted_from : (key : List ℕ) (offset : ℕ) → at ≤ length entries → HasEntry keys (insert entries at e) key offset → HasEntry keys entries key offset ⊎ ((key_of e ≡ key) × (e.offset ≡ offset))
      inserted_from key offset inside has =
          let long = length-insert entries at e inside in
          ⊎_elim
          (λ lt. inl (carry (insert entries at e) entries key offset has.place (omega (arith, lt, inside)) has (sym (get_or-insert_below entries at e no_entry has.place lt inside))))
          (λ le. ⊎_elim
          (λ same.
          let is : entry_at (insert entries at e) has.place ≡ e = ap (entry_at (insert entries at e)) same ∙ get_or-insert_at entries at e no_entry inside in
          inr (sym (ap key_of is) ∙ has.key_is, sym (ap (λ (x : Entry). x.offset) is) ∙ has.offset_is))
          (λ other.
          let back : (has.place - 1) + 1 ≡ has.place = omega (arith, other, le) in
          inl (carry (insert entries at e) entries key offset (has.place - 1) (omega (arith, long, has.inside, back)) has
          (sym (get_or-insert_above entries at e no_entry (has.place - 1) (omega (arith, other, le)) inside) ∙ ap (entry_at (insert entries at e)) back)))
          (cases_eq has.place at))
          (cases_lt has.place at)

      set_to : (key : List ℕ) (offset : ℕ) → key ≢ key_at keys entries at → HasEntry keys entries key offset → HasEntry keys (slice_set entries at e) key offset
      set_to key offset other has =
          let not_here : has.place ≢ at = λ same. other (sym has.key_is ∙ ap (key_at keys entries) same) in
          carry entries (slice_set entries at e) key offset has.place (omega (arith, length-set entries at e, has.inside)) has (get_or-set_other entries at has.place e no_entry not_here)

      set_new : at < length entries → HasEntry keys (slice_set entries at e) (key_of e) e.offset
      set_new inside =
          let is = get_or-set_same entries at e no_entry inside in
          record { place = at; inside = omega (arith, length-set entries at e, inside); key_is = ap key_of is; offset_is = ap (λ (x : Entry). x.offset) is }

      set_from : (key : List ℕ) (offset : ℕ) → at < length entries → HasEntry keys (slice_set entries at e) key offset
          → (HasEntry keys entries key offset × (key ≢ key_at keys entries at)) ⊎ ((key_of e ≡ key) × (e.offset ≡ offset))
      set_from key offset inside has =
          let here : has.place < length entries = omega (arith, length-set entries at e, has.inside) in
          ⊎_elim
          (λ same.
          let is : entry_at (slice_set entries at e) has.place ≡ e = ap (entry_at (slice_set entries at e)) same ∙ get_or-set_same entries at e no_entry inside in
          inr (sym (ap key_of is) ∙ has.key_is, sym (ap (λ (x : Entry). x.offset) is) ∙ has.offset_is))
          (λ other.
          let is = get_or-set_other entries at has.place e no_entry other in
          inl (
            carry (slice_set entries at e) entries key offset has.place here has (sym is),
            λ same. apart has.place inside here other (sym (ap key_of is) ∙ has.key_is ∙ same),
          ))
          (cases_eq has.place at)

-- ---- one record more

module _ (bits : ℕ) (keys : KeyMap) (places : PlaceMap) (entries : List Entry) (table : IsTableOf bits keys places entries)
    (key : List ℕ) (place : Place) (is_place : IsPlaceOf bits keys entries key place) (inside : place.at ≤ length entries) where
  -- where a key is not found, no entry has it
  absent : place.found ≡ false → (offset : ℕ) → HasEntry keys entries key offset → ⊥
  absent is offset has = false≢true (sym is ∙ is_place.found.1 (record { place = has.place; inside = has.inside; is = has.key_is }))

  -- a key that has an entry is not the absent one
  differs : place.found ≡ false → (k : List ℕ) (offset : ℕ) → HasEntry keys entries k offset → k ≢ key
  differs is k offset has same = absent is offset (subst (λ (l : List ℕ). HasEntry keys entries l offset) same has)

  removed_found : place.found ≡ true → place.at < length entries → IsTableOf bits keys (map.remove places key) (remove entries place.at)
  removed_found is lt = record {
    index = index_remove bits keys entries place.at table.index lt;
    same = λ k offset. (
      (λ found. ⊎_elim
          (λ same. absurd (not_some offset (sym (ap (map.get (map.remove places key)) same ∙ get-taken places key) ∙ found)))
          (λ other. removed_to keys bits entries table.index place.at k offset lt (λ here. other (here ∙ is_place.here is))
          ((table.same k offset).0 (sym (get-taken_other places key k other) ∙ found)))
          (cases_key k key)),
      (λ has.
          let was = removed_from keys bits entries table.index place.at k offset lt has in
          get-taken_other places key k (λ same. was.1 (same ∙ sym (is_place.here is))) ∙ (table.same k offset).1 was.0),
    );
  }

  removed_absent : place.found ≡ false → IsTableOf bits keys (map.remove places key) entries
  removed_absent is = record {
    index = table.index;
    same = λ k offset. (
      (λ found. ⊎_elim
          (λ same. absurd (not_some offset (sym (ap (map.get (map.remove places key)) same ∙ get-taken places key) ∙ found)))
          (λ other. (table.same k offset).0 (sym (get-taken_other places key k other) ∙ found))
          (cases_key k key)),
      (λ has. get-taken_other places key k (differs is k offset has) ∙ (table.same k offset).1 has),
    );
  }

  module _ (at : ℕ) (reads : map.get keys at ≡ Some key) where
    key_read : unwrap_or (map.get keys at) [] ≡ key
    key_read = ap (λ (o : Option (List ℕ)). unwrap_or o []) reads

    placed_found : place.found ≡ true → place.at < length entries
        → IsTableOf bits keys (map.insert places key at) (slice_set entries place.at (record { hash = (entry_at entries place.at).hash; offset = at }))
    placed_found is lt =
        let here = is_place.here is in
        let e : Entry = record { hash = (entry_at entries place.at).hash; offset = at } in
        record {
          index = index_replace bits keys entries place.at at table.index lt (reads ∙ ap (λ (k : List ℕ). Some k) (sym here));
          same = λ k offset. (
            (λ found. ⊎_elim
                (λ same.
                let offset_is : at ≡ offset = some_is at offset (sym (ap (map.get (map.insert places key at)) same ∙ get-placed places key at) ∙ found) in
                subst (λ (o : ℕ). HasEntry keys (slice_set entries place.at e) k o) offset_is
                (subst (λ (l : List ℕ). HasEntry keys (slice_set entries place.at e) l at) (key_read ∙ sym same) (set_new keys bits entries table.index place.at e lt)))
                (λ other. set_to keys bits entries table.index place.at e k offset (λ same. other (same ∙ here))
                ((table.same k offset).0 (sym (get-placed_other places key at k other) ∙ found)))
                (cases_key k key)),
            (λ has. ⊎_elim
                (λ was. get-placed_other places key at k (λ same. was.1 (same ∙ sym here)) ∙ (table.same k offset).1 was.0)
                (λ this. ap (map.get (map.insert places key at)) (sym this.0 ∙ key_read) ∙ get-placed places key at ∙ ap (λ (o : ℕ). Some o) this.1)
                (set_from keys bits entries table.index place.at e k offset lt has)),
          );
        }

    placed_absent : (hash : ℕ) → hash ≡ key_hash bits key → place.found ≡ false
        → IsTableOf bits keys (map.insert places key at) (insert entries place.at (record { hash = hash; offset = at }))
    placed_absent hash hash_is is =
        let e : Entry = record { hash = hash; offset = at } in
        record {
          index = index_insert bits keys entries key place hash at table.index is_place is inside hash_is reads;
          same = λ k offset. (
            (λ found. ⊎_elim
                (λ same.
                let offset_is : at ≡ offset = some_is at offset (sym (ap (map.get (map.insert places key at)) same ∙ get-placed places key at) ∙ found) in
                subst (λ (o : ℕ). HasEntry keys (insert entries place.at e) k o) offset_is
                (subst (λ (l : List ℕ). HasEntry keys (insert entries place.at e) l at) (key_read ∙ sym same) (inserted_new keys bits entries table.index place.at e inside)))
                (λ other. inserted_to keys bits entries table.index place.at e k offset inside
                ((table.same k offset).0 (sym (get-placed_other places key at k other) ∙ found)))
                (cases_key k key)),
            (λ has. ⊎_elim
                (λ was. get-placed_other places key at k (differs is k offset was) ∙ (table.same k offset).1 was)
                (λ this. ap (map.get (map.insert places key at)) (sym this.0 ∙ key_read) ∙ get-placed places key at ∙ ap (λ (o : ℕ). Some o) this.1)
                (inserted_from keys bits entries table.index place.at e k offset inside has)),
          );
        }

    -- a record more, whatever it does
    pub table_by : (there : place.found ≡ true → place.at < length entries) (hash : ℕ) → hash ≡ key_hash bits key → (is_remove found : Bool) → place.found ≡ found
        → IsTableOf bits keys (if is_remove then map.remove places key else map.insert places key at) (changed_by entries place.at hash at is_remove found)
    table_by there hash hash_is true true is = removed_found is (there is)
    table_by there hash hash_is true false is = removed_absent is
    table_by there hash hash_is false true is = placed_found is (there is)
    table_by there hash hash_is false false is = placed_absent hash hash_is is

-- The table of a list, where another reader has the keys too.
pub table_with : (bits : ℕ) (keys other : KeyMap) (places : PlaceMap) (entries : List Entry) → IsTableOf bits keys places entries
    → ((key : List ℕ) (offset : ℕ) → map.get places key ≡ Some offset → map.get other offset ≡ Some key) → IsTableOf bits other places entries
table_with bits keys other places entries table tells =
    let told : (i : ℕ) → i < length entries → map.get other (entry_at entries i).offset ≡ Some (key_at keys entries i) =
    λ i lt. tells (key_at keys entries i) (entry_at entries i).offset
    ((table.same (key_at keys entries i) (entry_at entries i).offset).1 (record { place = i; inside = lt; key_is = refl; offset_is = refl })) in
    let same : (i : ℕ) → i < length entries → key_at other entries i ≡ key_at keys entries i =
    λ i lt. ap (λ (o : Option (List ℕ)). unwrap_or o []) (told i lt) in
    let carried : (key : List ℕ) (offset : ℕ) → HasEntry keys entries key offset → HasEntry other entries key offset =
    λ key offset has. record { place = has.place; inside = has.inside; key_is = same has.place has.inside ∙ has.key_is; offset_is = has.offset_is } in
    let back : (key : List ℕ) (offset : ℕ) → HasEntry other entries key offset → HasEntry keys entries key offset =
    λ key offset has. record { place = has.place; inside = has.inside; key_is = sym (same has.place has.inside) ∙ has.key_is; offset_is = has.offset_is } in
    record {
      index = record {
        has = λ i lt. ap is_some (told i lt);
        hash = λ i lt. table.index.hash i lt ∙ ap (key_hash bits) (sym (same i lt));
        ascend = λ i j lt inside. subst (λ (k : List ℕ). IsTrue (is_below bits k (key_at other entries j))) (sym (same i (omega arith)))
            (subst (λ (k : List ℕ). IsTrue (is_below bits (key_at keys entries i) k)) (sym (same j inside)) (table.index.ascend i j lt inside));
      };
      same = λ key offset. (
        (λ found. carried key offset ((table.same key offset).0 found)),
        (λ has. (table.same key offset).1 (back key offset has)),
      );
    }
