-- Records by which the keys of a map have their values stand for that map.
use Rattle.std.proofs.Common.{◌≡◌, ◌≢◌, ◌⊎◌, ℕ, List, [], ◌∷◌, ◌++◌, Bool, true, false, Some, None, refl, sym, ◌∙◌, ap, inl, inr, ⊎_elim}
use Rattle.std.specs.Prelude.{Option}
use Rattle.std.specs.FinMap as map
use Rattle.std.specs.FinMap.{nat_cmp-IsAntisymmetric, same_map, slice_cmp-IsAntisymmetric}
use Rattle.std.specs.Ordering.{nat_cmp}
use Rattle.std.specs.Cmp.Lexicographic.{slice_cmp, nat_list_cmp_total}
use Rattle.std.specs.Str.{bytes_eq}
use Rattle.std.proofs.lemmas.Slice.Eq.{bytes_eq-Decides}
use mathlib.Core.Bool.{false≢true}
use Rattle.kv_model.specs.FlaggedMap.{FlaggedMap, Stored}
use Rattle.kv_model.specs.Flags.{remove_flags}
use Rattle.kv_model.specs.Write.{Write, applied, map_after, map_of}
use Rattle.record_core.proofs.LogLemmas.{get-applied_other, get-applied_removed, get-applied_stored}
use Rattle.area_collect.specs.Kept.{AreOfMap, HasKey, IsOfMap, StandForMap}

some_none : (x : Stored) → Some x ≡ None → ⊥
some_none x same = cc

key_cases_of : (a b : List ℕ) (same : Bool) → bytes_eq a b ≡ same → (a ≡ b) ⊎ (a ≡ b → ⊥)
key_cases_of a b true is = inl ((bytes_eq-Decides a b).0 is)
key_cases_of a b false is = inr (λ equal. false≢true (sym is ∙ (bytes_eq-Decides a b).1 equal))

pub key_cases : (a b : List ℕ) → (a ≡ b) ⊎ (a ≡ b → ⊥)
key_cases a b = key_cases_of a b (bytes_eq a b) refl

module _ (m : FlaggedMap) where
  -- the record's key has its value behind it
  own_found : (now : FlaggedMap) (r : Write) (key : List ℕ) → IsOfMap m r → r.key ≡ key → map.get (applied r now) key ≡ map.get m key
  own_found now r key of same = ap (map.get (applied r now)) (sym same) ∙ get-applied_stored now r of.kept ∙ sym of.found ∙ ap (map.get m) same

  -- what has its value keeps it
  found_after : (now : FlaggedMap) (rs : List Write) (key : List ℕ) → AreOfMap m rs → map.get now key ≡ map.get m key → map.get (map_after now rs) key ≡ map.get m key
  found_after now [] key of is = is
  found_after now (r ∷ rs) key of is = found_after (applied r now) rs key of.1
      (⊎_elim (λ same. own_found now r key of.0 same) (λ other. get-applied_other now r key (λ same. other (sym same)) ∙ is) (key_cases r.key key))

  -- and what has a record gets it
  found_by : (now : FlaggedMap) (rs : List Write) (key : List ℕ) → AreOfMap m rs → HasKey key rs → map.get (map_after now rs) key ≡ map.get m key
  found_by now [] key of has = absurd has
  found_by now (r ∷ rs) key of (inl same) = found_after (applied r now) rs key of.1 (own_found now r key of.0 same)
  found_by now (r ∷ rs) key of (inr has) = found_by (applied r now) rs key of.1 has

  by_value : (rs : List Write) → StandForMap m rs → (key : List ℕ) (found : Option Stored) → map.get m key ≡ found → map.get (map_of rs) key ≡ map.get m key
  by_value rs stand key None is = found_after map.empty rs key stand.each (map.get-empty (slice_cmp nat_cmp) key ∙ sym is)
  by_value rs stand key (Some x) is = found_by map.empty rs key stand.each (stand.all key (λ none. some_none x (sym is ∙ none)))

  pub stand_for_map : (rs : List Write) → StandForMap m rs → map_of rs ≡ m
  stand_for_map rs stand = same_map nat_list_cmp_total (slice_cmp-IsAntisymmetric nat_cmp-IsAntisymmetric) (map_of rs) m (λ key. by_value rs stand key (map.get m key) refl)

-- ---- without one key

abbrev removal : List ℕ → Write
removal gone = record { flags = remove_flags; key = gone; value = [] }

module _ (m : FlaggedMap) (gone : List ℕ) where
  get_gone : map.get (map.remove m gone) gone ≡ None
  get_gone = get-applied_removed m (removal gone) refl

  get_other : (key : List ℕ) → key ≢ gone → map.get (map.remove m gone) key ≡ map.get m key
  get_other key other = get-applied_other m (removal gone) key other

  without : (rs : List Write) → AreOfMap m rs → (HasKey gone rs → ⊥) → AreOfMap (map.remove m gone) rs
  without [] of absent = tt
  without (r ∷ rs) of absent = (
    record { kept = of.0.kept; found = get_other r.key (λ same. absent (inl same)) ∙ of.0.found },
    without rs of.1 (λ has. absent (inr has)),
  )

  both_of : (rs ss : List Write) → AreOfMap (map.remove m gone) rs → AreOfMap (map.remove m gone) ss → AreOfMap (map.remove m gone) (rs ++ ss)
  both_of [] ss of more = more
  both_of (r ∷ rs) ss of more = (of.0, both_of rs ss of.1 more)

front_of : (m : FlaggedMap) (rs : List Write) (r : Write) (ss : List Write) → AreOfMap m (rs ++ r ∷ ss) → AreOfMap m rs × AreOfMap m ss
front_of m [] r ss of = (tt, of.1)
front_of m (x ∷ rs) r ss of = let rest = front_of m rs r ss of.1 in ((of.0, rest.0), rest.1)

other_key : (rs : List Write) (r : Write) (ss : List Write) (key : List ℕ) → (r.key ≡ key → ⊥) → HasKey key (rs ++ r ∷ ss) → HasKey key (rs ++ ss)
other_key [] r ss key other (inl same) = absurd (other same)
other_key [] r ss key other (inr has) = has
other_key (x ∷ rs) r ss key other (inl same) = inl same
other_key (x ∷ rs) r ss key other (inr has) = inr (other_key rs r ss key other has)

-- all but the record of a key stand for the map without that key
pub stand_without : (m : FlaggedMap) (before : List Write) (r : Write) (after : List Write) → StandForMap m (before ++ r ∷ after) → (HasKey r.key before → ⊥) → (HasKey r.key after → ⊥) → StandForMap (map.remove m r.key) (before ++ after)
stand_without m before r after stand not_before not_after =
    let parts = front_of m before r after stand.each in
    record {
      each = both_of m r.key before after (without m r.key before parts.0 not_before) (without m r.key after parts.1 not_after);
      all = λ key some.
          let other : r.key ≡ key → ⊥ = λ same. some (ap (map.get (map.remove m r.key)) (sym same) ∙ get_gone m r.key) in
          other_key before r after key other (stand.all key (λ none. some (get_other m r.key key (λ same. other (sym same)) ∙ none)));
    }
