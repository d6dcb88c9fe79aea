-- Where a key stands among the entries of an index.
use Rattle.std.proofs.Common.{◌≡◌, ℕ, ◌+◌, ◌<◌, ◌≤◌, List, [], length, ⊎_elim, refl, sym, ◌∙◌, ap, subst, arith}
use Rattle.std.specs.Prelude.{IsTrue, true, false, Some}
use Rattle.std.specs.Option.{unwrap_or}
use Rattle.std.specs.FinMap.{get, nat_cmp-IsAntisymmetric, slice_cmp-IsAntisymmetric}
use Rattle.std.specs.Ordering.{nat_cmp}
use Rattle.std.specs.Cmp.Lexicographic.{slice_cmp}
use Rattle.std.specs.declared.cmp.Ordering.TheVariants.{Less, Equal, Greater}
use Rattle.std.proofs.lemmas.Bool.{cases_lt}
use mathlib.Core.Bool.{false≢true}
use Rattle.kv_model.specs.Crc.{key_hash}
use Rattle.kv_model.specs.KeyOrder.{is_below}
use Rattle.ram_table.specs.declared.table.Entry.{Entry}
use Rattle.ram_table.specs.declared.table.Place.{Place}
use Rattle.ram_table.specs.Reader.{KeyMap}
use Rattle.ram_table.specs.Table.{entry_at}
use Rattle.ram_table.specs.Find.{AscendByHash, HasKey, IsFirstAbove, IsIndexOf, IsPlaceOf, key_at}
use Rattle.ram_table.proofs.KeyOrderLemmas.{below_by_bytes, below_by_hash, hash_of_below, is_below-trans, less_from_greater, not_above, not_above_itself, not_below_itself}

pub ascend_by_hash : (bits : ℕ) (keys : KeyMap) (entries : List Entry) → IsIndexOf bits keys entries → AscendByHash entries
ascend_by_hash bits keys entries index i j lt inside =
    let le = hash_of_below bits (key_at keys entries i) (key_at keys entries j) (index.ascend i j lt inside) in
    omega (arith, le, index.hash i (omega arith), index.hash j inside)

pub key_that_is_read : (keys : KeyMap) (bytes : List ℕ) (entries : List Entry) (at offset : ℕ) → offset ≡ (entry_at entries at).offset → get keys offset ≡ Some bytes → key_at keys entries at ≡ bytes
key_that_is_read keys bytes entries at offset is read =
    ap (λ (n : ℕ). unwrap_or (get keys n) []) (sym is) ∙ ap (λ o. unwrap_or o []) read

module _ (bits : ℕ) (keys : KeyMap) (entries : List Entry) (key : List ℕ) (index : IsIndexOf bits keys entries) where
  -- Before a place all keys are below this key, or from it on all are above it.
  abbrev pub AreBelow : ℕ → Type 0
  AreBelow at = (i : ℕ) → i < at → IsTrue (is_below bits (key_at keys entries i) key)

  abbrev pub AreAbove : ℕ → Type 0
  AreAbove at = (i : ℕ) → at ≤ i → i < length entries → IsTrue (is_below bits key (key_at keys entries i))

  pub below_from_hash : (i : ℕ) → i < length entries → (entry_at entries i).hash < key_hash bits key → IsTrue (is_below bits (key_at keys entries i) key)
  below_from_hash i inside lt = below_by_hash bits (key_at keys entries i) key (omega (arith, index.hash i inside))

  pub above_from_hash : (i : ℕ) → i < length entries → key_hash bits key < (entry_at entries i).hash → IsTrue (is_below bits key (key_at keys entries i))
  above_from_hash i inside lt = below_by_hash bits key (key_at keys entries i) (omega (arith, index.hash i inside))

  -- Among equal hashes the bytes decide.
  pub below_from_bytes : (i : ℕ) → i < length entries → (entry_at entries i).hash ≡ key_hash bits key → slice_cmp nat_cmp (key_at keys entries i) key ≡ Less → IsTrue (is_below bits (key_at keys entries i) key)
  below_from_bytes i inside same lt = below_by_bytes bits (key_at keys entries i) key (sym (index.hash i inside) ∙ same) lt

  pub above_from_bytes : (i : ℕ) → i < length entries → (entry_at entries i).hash ≡ key_hash bits key → slice_cmp nat_cmp (key_at keys entries i) key ≡ Greater → IsTrue (is_below bits key (key_at keys entries i))
  above_from_bytes i inside same gt =
      below_by_bytes bits key (key_at keys entries i) (sym same ∙ index.hash i inside) (less_from_greater (key_at keys entries i) key gt)

  pub one_more_below : (at : ℕ) → AreBelow at → IsTrue (is_below bits (key_at keys entries at) key) → (i : ℕ) → i < at + 1 → IsTrue (is_below bits (key_at keys entries i) key)
  one_more_below at below here i lt =
      ⊎_elim (below i)
      (λ le. let same : at ≡ i = omega arith in subst (λ (n : ℕ). IsTrue (is_below bits (key_at keys entries n) key)) same here)
      (cases_lt i at)

  pub all_above : (at : ℕ) → IsTrue (is_below bits key (key_at keys entries at)) → AreAbove at
  all_above at here i le inside =
      ⊎_elim (λ lt. is_below-trans bits key (key_at keys entries at) (key_at keys entries i) here (index.ascend at i lt inside))
      (λ ge. let same : at ≡ i = omega arith in subst (λ (n : ℕ). IsTrue (is_below bits key (key_at keys entries n))) same here)
      (cases_lt at i)

  pub absent : (at : ℕ) → AreBelow at → AreAbove at → IsPlaceOf bits keys entries key (record { at = at; found = false })
  absent at below above =
      let not_here : HasKey keys entries key → ⊥ = λ has. ⊎_elim
      (λ lt. not_below_itself bits key (subst (λ (k : List ℕ). IsTrue (is_below bits k key)) has.is (below has.place lt)))
      (λ le. not_below_itself bits key (subst (λ (k : List ℕ). IsTrue (is_below bits key k)) has.is (above has.place le has.inside)))
      (cases_lt has.place at) in
      record {
        found = ((λ is. absurd (false≢true is)), (λ has. absurd (not_here has)));
        here = λ is. absurd (false≢true is);
        below = below;
        above = λ is. above;
      }

  pub present : (at : ℕ) → at < length entries → AreBelow at → key_at keys entries at ≡ key → IsPlaceOf bits keys entries key (record { at = at; found = true })
  present at inside below is = record {
    found = ((λ _. record { place = at; inside = inside; is = is }), (λ _. refl));
    here = λ _. is;
    below = below;
    above = λ not. absurd (false≢true (sym not));
  }

  pub first_where_absent : (place : Place) → place.found ≡ false → IsPlaceOf bits keys entries key place → IsFirstAbove bits keys entries key place.at
  first_where_absent place not is = record {
    before = λ i lt. not_above bits (key_at keys entries i) key (is.below i lt);
    above = is.above not;
  }

  pub first_where_present : (place : Place) → place.found ≡ true → IsPlaceOf bits keys entries key place → IsFirstAbove bits keys entries key (place.at + 1)
  first_where_present place has is = record {
    before = λ i lt. ⊎_elim (λ less. not_above bits (key_at keys entries i) key (is.below i less))
        (λ le. let same : place.at ≡ i = omega arith in
        let key_is : key ≡ key_at keys entries i = sym (is.here has) ∙ ap (λ (n : ℕ). key_at keys entries n) same in
        subst (λ (k : List ℕ). is_below bits key k ≡ false) key_is (not_above_itself bits key))
        (cases_lt i place.at);
    above = λ i le inside. subst (λ (k : List ℕ). IsTrue (is_below bits k (key_at keys entries i))) (is.here has) (index.ascend place.at i (omega arith) inside);
  }

pub equal_bytes : (a b : List ℕ) → slice_cmp nat_cmp a b ≡ Equal → a ≡ b
equal_bytes a b same = slice_cmp-IsAntisymmetric nat_cmp-IsAntisymmetric a b same
