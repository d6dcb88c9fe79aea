-- The entries of a store in memory as a finite map.
use Rattle.std.proofs.Common.{◌≡◌, ℕ, List, [], ◌∷◌, map, set, get_or, Some, None, Result, Ok, Err, Ordering, refl, sym, ◌∙◌, ap, subst}
use Rattle.std.specs.Ordering.{nat_cmp}
use Rattle.std.specs.Cmp.Lexicographic.{slice_cmp, nat_list_cmp_total}
use Rattle.std.specs.List.{insert, remove}
use Rattle.std.specs.FinMap as finite
use Rattle.std.specs.FinMap.{empty, entries, get, keys}
use Rattle.kv_model.specs.FlaggedMap.{Stored}
use Rattle.kv_model.specs.Sizes.{used, used_by}
use Rattle.kv_model.proofs.MapLemmas.{entries-empty}
use Rattle.kv_model.proofs.NextKeyLemmas.{bytes_same}
use Rattle.kv_memory.specs.declared.entries.Item.{Item}
use Rattle.kv_memory.specs.Places.{place_of}
use Rattle.kv_memory.specs.EntryOf.{key_of, pair_of, stored_of, map_of, Rise}
use Rattle.kv_memory.proofs.SortedLemmas as sorted

abbrev R : List ℕ → List ℕ → Ordering
R = slice_cmp nat_cmp

abbrev place : List ℕ → List Item → Result ℕ ℕ
place key items = place_of R key_of key items

-- ---- what is found

abbrev pub Found : List ℕ → List Item → ℕ → Type 0
Found key items at = sorted.Found R nat_list_cmp_total bytes_same key_of stored_of key items at

abbrev pub Absent : List ℕ → List Item → ℕ → Type 0
Absent key items at = sorted.Absent R nat_list_cmp_total bytes_same key_of stored_of key items at

pub found_at : (key : List ℕ) (items : List Item) (at : ℕ) → Rise items → place key items ≡ Ok at → Found key items at
found_at key items at rise is =
    subst (sorted.Tells R nat_list_cmp_total bytes_same key_of stored_of key items) is (sorted.tells R nat_list_cmp_total bytes_same key_of stored_of key items (sorted.holds _ rise))

pub absent_at : (key : List ℕ) (items : List Item) (at : ℕ) → Rise items → place key items ≡ Err at → Absent key items at
absent_at key items at rise is =
    subst (sorted.Tells R nat_list_cmp_total bytes_same key_of stored_of key items) is (sorted.tells R nat_list_cmp_total bytes_same key_of stored_of key items (sorted.holds _ rise))

pub got_found : (key : List ℕ) (items : List Item) (at : ℕ) (item : Item) → Rise items → place key items ≡ Ok at → item ≡ get_or items at item
    → (item.key ≡ key) × (get (map_of items) key ≡ Some (stored_of item))
got_found key items at item rise is read =
    let found = found_at key items at rise is in (
      ap key_of read ∙ found.has_key item,
      sorted.got R nat_list_cmp_total bytes_same key_of stored_of key items rise ∙ found.finds item ∙ ap (λ (x : Item). Some (stored_of x)) (sym read),
    )

pub got_absent : (key : List ℕ) (items : List Item) (at : ℕ) → Rise items → place key items ≡ Err at → get (map_of items) key ≡ None
got_absent key items at rise is = sorted.got R nat_list_cmp_total bytes_same key_of stored_of key items rise ∙ (absent_at key items at rise is).lacks_key

-- ---- changes

pub replaced : (items : List Item) (at : ℕ) (item : Item) → Rise items → place item.key items ≡ Ok at
    → (map_of (set items at item) ≡ finite.insert (map_of items) item.key (stored_of item)) × Rise (set items at item)
replaced items at item rise is =
    sorted.put_in R nat_list_cmp_total bytes_same key_of stored_of item.key items (set items at item) (stored_of item) rise
    ((found_at item.key items at rise is).replaces item refl)

pub inserted : (items : List Item) (at : ℕ) (item : Item) → Rise items → place item.key items ≡ Err at
    → (map_of (insert items at item) ≡ finite.insert (map_of items) item.key (stored_of item)) × Rise (insert items at item)
inserted items at item rise is =
    sorted.put_in R nat_list_cmp_total bytes_same key_of stored_of item.key items (insert items at item) (stored_of item) rise
    ((absent_at item.key items at rise is).inserts item refl)

pub removed : (key : List ℕ) (items : List Item) (at : ℕ) → Rise items → place key items ≡ Ok at
    → (map_of (remove items at) ≡ finite.remove (map_of items) key) × Rise (remove items at)
removed key items at rise is =
    sorted.taken_out R nat_list_cmp_total bytes_same key_of stored_of key items (remove items at) rise (found_at key items at rise is).removes

pub not_there : (key : List ℕ) (items : List Item) (at : ℕ) → Rise items → place key items ≡ Err at → map_of items ≡ finite.remove (map_of items) key
not_there key items at rise is =
    finite.same_map nat_list_cmp_total bytes_same _ _ (λ q. sorted.lost R nat_list_cmp_total bytes_same key_of stored_of (map_of items) key q (got_absent key items at rise is))

-- ---- walks

pub listed : (items : List Item) → Rise items → entries (map_of items) ≡ map pair_of items
listed items rise = sorted.entries_of R nat_list_cmp_total bytes_same key_of stored_of items rise

pub used_listed : (prog : ℕ) (items : List Item) → Rise items → used_by prog (map pair_of items) ≡ used prog (map_of items)
used_listed prog items rise = ap (used_by prog) (sym (listed items rise))

first_of : (items : List Item) → map (λ (e : List ℕ × Stored). e.0) (map pair_of items) ≡ map key_of items
first_of [] = refl
first_of (item ∷ items) = ap (λ (ks : List (List ℕ)). item.key ∷ ks) (first_of items)

pub keys_listed : (items : List Item) → Rise items → keys (map_of items) ≡ map key_of items
keys_listed items rise = ap (map (λ (e : List ℕ × Stored). e.0)) (listed items rise) ∙ first_of items

pub no_items : (items : List Item) → items ≡ [] → map_of items ≡ empty
no_items items none = (sorted.same_map_of R nat_list_cmp_total bytes_same key_of stored_of items empty (ap (λ (l : List Item). sorted.pairs R nat_list_cmp_total bytes_same key_of stored_of l) none ∙ sym (entries-empty R Stored))).0
