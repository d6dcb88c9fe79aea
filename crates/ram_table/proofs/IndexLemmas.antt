-- Changes of an index keep its order.
use Rattle.std.proofs.Common.{◌≡◌, ℕ, ◌<◌, ◌≤◌, List, [], length, ⊎_elim, refl, sym, ◌∙◌, ap, subst, arith}
use Rattle.std.specs.Prelude.{IsTrue, Bool, true, false, Option, Some, None, is_some, slice_set}
use Rattle.std.specs.Option.{unwrap_or}
use Rattle.std.specs.FinMap.{contains_key, get}
use Rattle.std.specs.List.{insert, remove}
use Rattle.std.specs.Cmp.{both_ways}
use Rattle.std.proofs.lemmas.Bool.{cases_lt}
use mathlib.Core.Bool.{false≢true}
use Rattle.kv_model.specs.Crc.{key_hash}
use Rattle.kv_model.specs.KeyOrder.{is_below}
use Rattle.ram_table.specs.declared.table.Entry.{Entry}
use Rattle.ram_table.specs.declared.table.Place.{Place}
use Rattle.ram_table.specs.Reader.{KeyMap}
use Rattle.ram_table.specs.Table.{entry_at}
use Rattle.ram_table.specs.Find.{IsIndexOf, IsPlaceOf, key_at}
use Rattle.ram_table.proofs.ChainLemmas.{IsChain, chain_insert, chain_remove, chain_set}
use Rattle.ram_table.proofs.KeyOrderLemmas.{is_below-trans, not_below_itself}

-- what holds of each value that is there
still : {now later : Option (List ℕ)} → ((key : List ℕ) → now ≡ Some key → later ≡ Some key) → IsTrue (is_some now) → later ≡ now
still {now = None} kept has = absurd (false≢true has)
still {now = Some key} kept has = kept key refl

module _ (bits : ℕ) (keys : KeyMap) where
  abbrev key_of : Entry → List ℕ
  key_of e = unwrap_or (get keys e.offset) []

  abbrev none : Entry
  none = record { hash = 0; offset = 0 }

  abbrev IsEntry : Entry → Type 0
  IsEntry e = IsTrue (contains_key keys e.offset) × (e.hash ≡ key_hash bits (key_of e))

  abbrev AreInOrder : Entry → Entry → Type 0
  AreInOrder e f = IsTrue (is_below bits (key_of e) (key_of f))

  chain_of : (entries : List Entry) → IsIndexOf bits keys entries → IsChain none IsEntry AreInOrder entries
  chain_of entries index = record { each = λ i lt. (index.has i lt, index.hash i lt); pairs = index.ascend }

  index_of : (entries : List Entry) → IsChain none IsEntry AreInOrder entries → IsIndexOf bits keys entries
  index_of entries chain = record { has = λ i lt. (chain.each i lt).0; hash = λ i lt. (chain.each i lt).1; ascend = chain.pairs }

  is_entry : (key : List ℕ) (hash offset : ℕ) → hash ≡ key_hash bits key → get keys offset ≡ Some key → IsEntry (record { hash = hash; offset = offset })
  is_entry key hash offset is read = (ap is_some read, is ∙ ap (λ o. key_hash bits (unwrap_or o [])) (sym read))

  pub index_insert : (entries : List Entry) (key : List ℕ) (place : Place) (hash offset : ℕ) → IsIndexOf bits keys entries
      → IsPlaceOf bits keys entries key place → place.found ≡ false → place.at ≤ length entries → hash ≡ key_hash bits key → get keys offset ≡ Some key
      → IsIndexOf bits keys (insert entries place.at (record { hash = hash; offset = offset }))
  index_insert entries key place hash offset index is absent inside hashed read =
      let key_is : key ≡ unwrap_or (get keys offset) [] = ap (λ o. unwrap_or o []) (sym read) in
      index_of _ (chain_insert none IsEntry AreInOrder entries (chain_of entries index) place.at (record { hash = hash; offset = offset }) inside
      (is_entry key hash offset hashed read)
      (λ i lt within. subst (λ (k : List ℕ). IsTrue (is_below bits (key_at keys entries i) k)) key_is (is.below i lt))
      (λ i le within. subst (λ (k : List ℕ). IsTrue (is_below bits k (key_at keys entries i))) key_is (is.above absent i le within)))

  pub index_remove : (entries : List Entry) (at : ℕ) → IsIndexOf bits keys entries → at < length entries → IsIndexOf bits keys (remove entries at)
  index_remove entries at index inside = index_of _ (chain_remove none IsEntry AreInOrder entries (chain_of entries index) at inside)

  pub index_replace : (entries : List Entry) (at offset : ℕ) → IsIndexOf bits keys entries → at < length entries → get keys offset ≡ Some (key_at keys entries at)
      → IsIndexOf bits keys (slice_set entries at (record { hash = (entry_at entries at).hash; offset = offset }))
  index_replace entries at offset index inside read =
      let key_is : key_at keys entries at ≡ unwrap_or (get keys offset) [] = ap (λ o. unwrap_or o []) (sym read) in
      index_of _ (chain_set none IsEntry AreInOrder entries (chain_of entries index) at (record { hash = (entry_at entries at).hash; offset = offset }) inside
      (is_entry (key_at keys entries at) (entry_at entries at).hash offset (index.hash at inside) read)
      (λ y. subst (λ (k : List ℕ). IsTrue (is_below bits (key_of y) k)) key_is)
      (λ y. subst (λ (k : List ℕ). IsTrue (is_below bits k (key_of y))) key_is))

  pub one_entry : (entries : List Entry) (i j : ℕ) → IsIndexOf bits keys entries → i < length entries → j < length entries
      → key_at keys entries i ≡ key_at keys entries j → i ≡ j
  one_entry entries i j index first second same =
      ⊎_elim (λ lt. absurd (not_below_itself bits (key_at keys entries j)
      (subst (λ (k : List ℕ). IsTrue (is_below bits k (key_at keys entries j))) same (index.ascend i j lt second))))
      (λ le. ⊎_elim (λ lt. absurd (not_below_itself bits (key_at keys entries j)
      (subst (λ (k : List ℕ). IsTrue (is_below bits (key_at keys entries j) k)) same (index.ascend j i lt first))))
      (λ ge. omega arith) (cases_lt j i))
      (cases_lt i j)

  -- the entry at a key's place isn't below the key
  not_below_place : (entries : List Entry) (key : List ℕ) (p : Place) (found : Bool) → p.found ≡ found → IsPlaceOf bits keys entries key p
      → p.at < length entries → IsTrue (is_below bits (key_at keys entries p.at) key) → ⊥
  not_below_place entries key p true is place inside below =
      not_below_itself bits key (subst (λ (k : List ℕ). IsTrue (is_below bits k key)) (place.here is) below)
  not_below_place entries key p false is place inside below =
      not_below_itself bits key (is_below-trans bits key (key_at keys entries p.at) key (place.above is p.at (omega arith) inside) below)

  pub one_place : (entries : List Entry) (key : List ℕ) (p q : Place) → p.at ≤ length entries → q.at ≤ length entries
      → IsPlaceOf bits keys entries key p → IsPlaceOf bits keys entries key q → p ≡ q
  one_place entries key p q p_in q_in first second =
      let at_is : p.at ≡ q.at = ⊎_elim
      (λ lt. absurd (not_below_place entries key p p.found refl first (omega arith) (second.below p.at lt)))
      (λ le. ⊎_elim (λ lt. absurd (not_below_place entries key q q.found refl second (omega arith) (first.below q.at lt)))
      (λ ge. omega arith) (cases_lt q.at p.at))
      (cases_lt p.at q.at) in
      let found_is : p.found ≡ q.found = both_ways p.found q.found (λ is. second.found.1 (first.found.0 is)) (λ is. first.found.1 (second.found.0 is)) in
      λ i. record { at = at_is i; found = found_is i }

-- the keys of one map, at their offsets, in another
pub index_in_more : (bits : ℕ) (keys more : KeyMap) (entries : List Entry) → IsIndexOf bits keys entries
    → ((offset : ℕ) (key : List ℕ) → get keys offset ≡ Some key → get more offset ≡ Some key) → IsIndexOf bits more entries
index_in_more bits keys more entries index kept =
    let same : (i : ℕ) → i < length entries → get more (entry_at entries i).offset ≡ get keys (entry_at entries i).offset =
    λ i inside. still (λ (key : List ℕ). kept (entry_at entries i).offset key) (index.has i inside) in
    let key_is : (i : ℕ) → i < length entries → key_at keys entries i ≡ key_at more entries i =
    λ i inside. ap (λ o. unwrap_or o []) (sym (same i inside)) in
    record {
      has = λ i inside. ap is_some (same i inside) ∙ index.has i inside;
      hash = λ i inside. index.hash i inside ∙ ap (key_hash bits) (key_is i inside);
      ascend = λ i j lt inside.
          subst (λ (k : List ℕ). IsTrue (is_below bits k (key_at more entries j))) (key_is i (omega arith))
          (subst (λ (k : List ℕ). IsTrue (is_below bits (key_at keys entries i) k)) (key_is j inside) (index.ascend i j lt inside));
    }
