-- The iterators of a store in memory as a finite map.
use Rattle.std.proofs.Common.{◌≡◌, ℕ, List, [], length, map, get_or, set, Some, None, Result, Ok, Err, refl, sym, ◌∙◌, ap, subst, nat_cmp}
use Rattle.std.specs.List.{insert, remove}
use Rattle.std.specs.FinMap as finite
use Rattle.std.specs.FinMap.{IsAntisymmetric, empty, get, len, len-entries, nat_cmp-IsAntisymmetric}
use Rattle.std.proofs.lemmas.Map.Lookups.{exact_pairs}
use Rattle.std.proofs.lemmas.List.{length-map}
use Rattle.kv_model.specs.StoreState.{Position, iterator_cmp}
use Rattle.kv_model.proofs.MapLemmas.{entries-empty, iterator_total}
use Rattle.kv_memory.specs.declared.iterators.Slot.{Slot}
use Rattle.kv_memory.specs.Cursors.{behind}
use Rattle.kv_memory.specs.Places.{place_of}
use Rattle.kv_memory.specs.SlotOf.{name_of, standing, slot_pair, map_of, Rise}
use Rattle.kv_memory.proofs.SortedLemmas as sorted

pub names_same : IsAntisymmetric iterator_cmp
names_same = exact_pairs nat_cmp nat_cmp nat_cmp-IsAntisymmetric nat_cmp-IsAntisymmetric

abbrev place : ℕ × ℕ → List Slot → Result ℕ ℕ
place name slots = place_of iterator_cmp name_of name slots

abbrev pub Found : ℕ × ℕ → List Slot → ℕ → Type 0
Found name slots at = sorted.Found iterator_cmp iterator_total names_same name_of standing name slots at

abbrev pub Absent : ℕ × ℕ → List Slot → ℕ → Type 0
Absent name slots at = sorted.Absent iterator_cmp iterator_total names_same name_of standing name slots at

pub found_at : (name : ℕ × ℕ) (slots : List Slot) (at : ℕ) → Rise slots → place name slots ≡ Ok at → Found name slots at
found_at name slots at rise is =
    subst (sorted.Tells iterator_cmp iterator_total names_same name_of standing name slots) is (sorted.tells iterator_cmp iterator_total names_same name_of standing name slots (sorted.holds _ rise))

pub absent_at : (name : ℕ × ℕ) (slots : List Slot) (at : ℕ) → Rise slots → place name slots ≡ Err at → Absent name slots at
absent_at name slots at rise is =
    subst (sorted.Tells iterator_cmp iterator_total names_same name_of standing name slots) is (sorted.tells iterator_cmp iterator_total names_same name_of standing name slots (sorted.holds _ rise))

pub got_found : (name : ℕ × ℕ) (slots : List Slot) (at : ℕ) (slot : Slot) → Rise slots → place name slots ≡ Ok at → slot ≡ get_or slots at slot
    → get (map_of slots) name ≡ Some (standing slot)
got_found name slots at slot rise is read =
    sorted.got iterator_cmp iterator_total names_same name_of standing name slots rise ∙ (found_at name slots at rise is).finds slot
    ∙ ap (λ (x : Slot). Some (standing x)) (sym read)

pub got_absent : (name : ℕ × ℕ) (slots : List Slot) (at : ℕ) → Rise slots → place name slots ≡ Err at → get (map_of slots) name ≡ None
got_absent name slots at rise is =
    sorted.got iterator_cmp iterator_total names_same name_of standing name slots rise ∙ (absent_at name slots at rise is).lacks_key

pub counted : (slots : List Slot) → Rise slots → length slots ≡ len (map_of slots)
counted slots rise =
    sym (length-map slots slot_pair) ∙ ap length (sym (sorted.entries_of iterator_cmp iterator_total names_same name_of standing slots rise)) ∙ sym (len-entries (map_of slots))

pub no_slots : (slots : List Slot) → slots ≡ [] → map_of slots ≡ empty
no_slots slots none =
    (sorted.same_map_of iterator_cmp iterator_total names_same name_of standing slots empty (ap (map slot_pair) none ∙ sym (entries-empty iterator_cmp Position))).0

-- ---- changes

abbrev given : Slot → List ℕ → Slot
given slot key = record { who = slot.who; n = slot.n; cursor = record { prefix = slot.cursor.prefix; last = Some key } }

pub replaced : (slots : List Slot) (at : ℕ) (slot : Slot) → Rise slots → place (name_of slot) slots ≡ Ok at
    → (map_of (set slots at slot) ≡ finite.insert (map_of slots) (name_of slot) (standing slot)) × Rise (set slots at slot)
replaced slots at slot rise is =
    sorted.put_in iterator_cmp iterator_total names_same name_of standing (name_of slot) slots (set slots at slot) (standing slot) rise
    ((found_at (name_of slot) slots at rise is).replaces slot refl)

-- an iterator that gave a key
pub moved : (name : ℕ × ℕ) (slots : List Slot) (at : ℕ) (slot : Slot) (key : List ℕ) → Rise slots → place name slots ≡ Ok at → slot ≡ get_or slots at slot
    → (map_of (set slots at (given slot key)) ≡ finite.insert (map_of slots) name (behind (standing slot) key)) × Rise (set slots at (given slot key))
moved name slots at slot key rise is read =
    sorted.put_in iterator_cmp iterator_total names_same name_of standing name slots (set slots at (given slot key)) (standing (given slot key)) rise
    ((found_at name slots at rise is).replaces (given slot key) (ap name_of read ∙ (found_at name slots at rise is).has_key slot))

pub inserted : (slots : List Slot) (at : ℕ) (slot : Slot) → Rise slots → place (name_of slot) slots ≡ Err at
    → (map_of (insert slots at slot) ≡ finite.insert (map_of slots) (name_of slot) (standing slot)) × Rise (insert slots at slot)
inserted slots at slot rise is =
    sorted.put_in iterator_cmp iterator_total names_same name_of standing (name_of slot) slots (insert slots at slot) (standing slot) rise
    ((absent_at (name_of slot) slots at rise is).inserts slot refl)

pub removed : (name : ℕ × ℕ) (slots : List Slot) (at : ℕ) → Rise slots → place name slots ≡ Ok at
    → (map_of (remove slots at) ≡ finite.remove (map_of slots) name) × Rise (remove slots at)
removed name slots at rise is =
    sorted.taken_out iterator_cmp iterator_total names_same name_of standing name slots (remove slots at) rise (found_at name slots at rise is).removes

pub not_there : (name : ℕ × ℕ) (slots : List Slot) (at : ℕ) → Rise slots → place name slots ≡ Err at → map_of slots ≡ finite.remove (map_of slots) name
not_there name slots at rise is =
    finite.same_map iterator_total names_same _ _ (λ q. sorted.lost iterator_cmp iterator_total names_same name_of standing (map_of slots) name q (got_absent name slots at rise is))
