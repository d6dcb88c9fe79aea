-- Keys in memory by their numbers, and one look more.
use Rattle.std.proofs.Common.{◌≡◌, ℕ, zero, suc, ◌+◌, ◌<◌, ◌%◌, List, [], ◌∷◌, length, get_or, cond, refl, sym, ◌∙◌, ap, subst, arith, add-one}
use Rattle.std.specs.Prelude.{IsTrue, Bool, true, false, Some, ◌==◌, is_some}
use Rattle.std.specs.Cmp.{nat_cmp_total, unsigned_tied}
use Rattle.std.specs.FinMap.{contains_key, get, get-empty, get-insert}
use Rattle.std.specs.Ordering.{nat_cmp}
use Rattle.std.proofs.lemmas.Bool.{eqb-true, eq-eqb, ne_eqb}
use mathlib.Core.Bool.{false≢true}
use Rattle.std.proofs.lemmas.Option.{same_Some}
use Rattle.ram_table.specs.declared.table.Entry.{Entry}
use Rattle.ram_table.specs.declared.table.Place.{Place}
use Rattle.ram_table.specs.Find.{CanFind, IsIndexOf, IsPlaceOf}
use Rattle.ram_table.specs.Reader.{KeyMap}
use Rattle.kv_bench.specs.Lookups.{told_from, told, told_state, HasLooked}

told_at : (n q : ℕ) (key : List ℕ) (keys : List (List ℕ)) → get (told_from n (key ∷ keys)) q ≡ cond (q == n) (Some key) (get (told_from (suc n) keys) q)
told_at n q key keys =
    get-insert {X = List ℕ} nat_cmp_total (told_from (suc n) keys) n key q
    ∙ ap (λ b. cond b (Some key) (get (told_from (suc n) keys) q)) (unsigned_tied q n)

told_read_from : (n i : ℕ) (keys : List (List ℕ)) → i < length keys → get (told_from n keys) (n + i) ≡ Some (get_or keys i [])
told_read_from n i [] inside = absurd (omega arith)
told_read_from n zero (key ∷ keys) inside =
    told_at n (n + 0) key keys ∙ ap (λ b. cond b (Some key) (get (told_from (suc n) keys) (n + 0))) (eq-eqb (n + 0) n (omega arith))
told_read_from n (suc i) (key ∷ keys) inside =
    let place : n + suc i ≡ suc n + i = omega arith in
    told_at n (n + suc i) key keys
    ∙ ap (λ b. cond b (Some key) (get (told_from (suc n) keys) (n + suc i))) (ne_eqb (n + suc i) n (λ same. omega arith))
    ∙ ap (get (told_from (suc n) keys)) place
    ∙ told_read_from (suc n) i keys (omega arith)

pub told_read : (keys : List (List ℕ)) (i : ℕ) → i < length keys → get (told keys) i ≡ Some (get_or keys i [])
told_read keys i inside = let place : i ≡ 0 + i = omega arith in ap (get (told keys)) place ∙ told_read_from 0 i keys inside

told_below_by : (b : Bool) (n q : ℕ) (key : List ℕ) (keys : List (List ℕ)) → (is_some (get (told_from (suc n) keys) q) ≡ true → q < suc n + length keys)
    → (q == n) ≡ b → is_some (cond b (Some key) (get (told_from (suc n) keys) q)) ≡ true → q < n + suc (length keys)
told_below_by true n q key keys later is has = let same : q ≡ n = eqb-true q n is in omega arith
told_below_by false n q key keys later is has = let more : q < suc n + length keys = later has in omega arith

told_below : (n q : ℕ) (keys : List (List ℕ)) → is_some (get (told_from n keys) q) ≡ true → q < n + length keys
told_below n q [] has = absurd (false≢true (ap is_some (sym (get-empty {X = List ℕ} nat_cmp q)) ∙ has))
told_below n q (key ∷ keys) has = told_below_by (q == n) n q key keys (told_below (suc n) q keys) refl (ap is_some (sym (told_at n q key keys)) ∙ has)

pub told_inside : (keys : List (List ℕ)) (q : ℕ) → IsTrue (contains_key (told keys) q) → q < length keys
told_inside keys q has = let below : q < 0 + length keys = told_below 0 q keys has in omega arith

pub told_can_find : (keys : List (List ℕ)) (entries : List Entry) → IsIndexOf 32 (told keys) entries → CanFind (told_state keys) entries
told_can_find keys entries index = record {
  within = λ i inside. let below = told_inside keys _ (index.has i inside) in omega arith;
  index = λ map is. subst (λ (m : KeyMap). IsIndexOf 32 m entries) (same_Some (told keys) map is) index;
}

pub one_look_more : (keys : List (List ℕ)) (entries : List Entry) (count n before : ℕ) (place : Place) → count ≡ length keys → place.found ≡ true
    → IsPlaceOf 32 (told keys) entries (get_or keys (n % count) []) place
    → HasLooked keys entries n before → HasLooked keys entries (n + 1) (before + place.at)
unfolding HasLooked
one_look_more keys entries count n before place counted found is looked =
    let here : IsPlaceOf 32 (told keys) entries (get_or keys (n % count) []) (record { at = place.at; found = true }) =
    subst (λ (b : Bool). IsPlaceOf 32 (told keys) entries (get_or keys (n % count) []) (record { at = place.at; found = b })) found is in
    let there : IsPlaceOf 32 (told keys) entries (get_or keys (n % length keys) []) (record { at = place.at; found = true }) =
    subst (λ (m : ℕ). IsPlaceOf 32 (told keys) entries (get_or keys (n % m) []) (record { at = place.at; found = true })) counted here in
    rw (add-one n) (place.at, before, there, looked, refl)
