-- The live records of a log: those that stand at the places of its table's entries.
use Rattle.std.proofs.Common.{◌≡◌, ◌≢◌, ◌⊎◌, ℕ, zero, suc, ◌+◌, ◌-◌, ◌<◌, ◌≤◌, ◌==◌, if◌then◌else◌, Bool, true, false, List, [], ◌∷◌, ◌++◌, length, inl, inr, ⊎_elim, refl, sym, ◌∙◌, ap, subst, arith, eq-eqb}
use Rattle.std.specs.Prelude.{All, IsTrue, Option, Some, None, nat_eq}
use Rattle.std.specs.FinMap as map
use Rattle.std.specs.Ordering.{nat_cmp}
use Rattle.std.specs.Cmp.Lexicographic.{slice_cmp}
use Rattle.std.specs.List.{remove}
use Rattle.std.specs.Option.{option_map_or, unwrap_or}
use Rattle.std.proofs.lemmas.Bool.{cases_eq, cases_lt, ne_eqb}
use Rattle.std.proofs.lemmas.List.Elements.{All-cons, All-nil}
use Rattle.std.proofs.lemmas.List.Edits.{get_or-remove_above, get_or-remove_below, length-remove}
use Rattle.base_core.specs.Sizes.{record_size}
use Rattle.kv_model.specs.FlaggedMap.{FlaggedMap, Stored}
use Rattle.kv_model.specs.Flags.{remove_flags}
use Rattle.kv_model.specs.KeyOrder.{is_below}
use Rattle.kv_model.specs.KeySizes.{key_size}
use Rattle.kv_model.specs.LogStep.{AreLive, Ascend, spent}
use Rattle.kv_model.specs.Sizes.{used}
use Rattle.kv_model.specs.Write.{Write, applied, map_after, map_of}
use Rattle.kv_model.proofs.UsedLemmas.{used-empty, used-insert, used-insert_at_most, used-remove_at_most}
use Rattle.record_core.specs.Log.{AreRecords, IsRecordAt, extent}
use Rattle.record_core.proofs.LogLemmas.{get-applied_other, get-applied_removed, get-applied_stored}
use Rattle.ram_table.specs.declared.table.Entry.{Entry}
use Rattle.ram_table.specs.Find.{IsIndexOf, key_at}
use Rattle.ram_table.specs.Reader.{KeyMap}
use Rattle.ram_table.specs.Table.{entry_at}
use Rattle.ram_table.proofs.IndexLemmas.{index_remove}
use Rattle.ram_table.proofs.KeyOrderLemmas.{is_below-trans, not_below_itself}
use Rattle.area_collect.specs.Collection.{StandAt}
use Rattle.area_collect.specs.Copies.{end_behind}
use Rattle.area_collect.specs.Kept.{AreOfMap, HasKey, IsOfMap, StandForMap}
use Rattle.area_collect.proofs.MapLemmas.{key_cases, stand_for_map}
use Rattle.tdb_read.specs.Records.{record_at}
use Rattle.tdb_read.proofs.RecordLemmas.{record_is}

-- ---- what records take

pub end_spent : (prog place : ℕ) (rs : List Write) → end_behind prog place rs ≡ place + spent prog rs
end_spent prog place [] = omega arith
end_spent prog place (r ∷ rs) = end_spent prog (place + extent prog r) rs ∙ omega arith

pub records_spent : (prog : ℕ) (image : List ℕ) (place end : ℕ) (rs : List Write) → AreRecords prog image place end rs → end ≡ place + spent prog rs
records_spent prog image place end [] each = omega (arith, each)
records_spent prog image place end (r ∷ rs) each = records_spent prog image (place + extent prog r) end rs each.1 ∙ omega arith

-- a record adds at most its size to what the map uses
used_applied : (prog : ℕ) (m : FlaggedMap) (r : Write) (b : Bool) → (r.flags == remove_flags) ≡ b
    → used prog (if b then map.remove m r.key else map.insert m r.key (record { flags = r.flags; bytes = r.value })) ≤ used prog m + extent prog r
used_applied prog m r true is = omega (arith, used-remove_at_most prog m r.key)
used_applied prog m r false is = used-insert_at_most prog m r.key (record { flags = r.flags; bytes = r.value })

used_after : (prog : ℕ) (m : FlaggedMap) (rs : List Write) → used prog (map_after m rs) ≤ used prog m + spent prog rs
used_after prog m [] = omega arith
used_after prog m (r ∷ rs) = omega (arith, used_after prog (applied r m) rs, used_applied prog m r (r.flags == remove_flags) refl)

abbrev no_values : FlaggedMap
no_values = map.empty

-- a map uses at most what its log's records take
pub used_most : (prog : ℕ) (rs : List Write) → used prog (map_of rs) ≤ spent prog rs
used_most prog rs = omega (arith, used_after prog no_values rs, used-empty prog)

-- ---- records in the order of keys, none of them a remove

pub all_above : (bits : ℕ) (r : Write) (rs : List Write) (key : List ℕ) → Ascend bits (r ∷ rs) → HasKey key rs → is_below bits r.key key ≡ true
all_above bits r [] key ascend has = absurd has
all_above bits r (s ∷ rs) key ascend (inl same) = ap (is_below bits r.key) (sym same) ∙ ascend.0
all_above bits r (s ∷ rs) key ascend (inr has) = is_below-trans bits r.key s.key key ascend.0 (all_above bits s rs key ascend.1 has)

rest_ascends : (bits : ℕ) (r : Write) (rs : List Write) → Ascend bits (r ∷ rs) → Ascend bits rs
rest_ascends bits r [] ascend = tt
rest_ascends bits r (s ∷ rs) ascend = ascend.1

pub none_again : (bits : ℕ) (r : Write) (rs : List Write) (key : List ℕ) → Ascend bits (r ∷ rs) → HasKey key rs → key ≡ r.key → ⊥
none_again bits r rs key ascend has same = not_below_itself bits r.key (ap (is_below bits r.key) (sym same) ∙ all_above bits r rs key ascend has)

-- none of them is a remove
abbrev NoRemoves : List Write → Type 0
NoRemoves [] = Unit {0}
NoRemoves (r ∷ rs) = (r.flags ≢ remove_flags) × NoRemoves rs

none_removes : (rs : List Write) → NoRemoves rs → All (λ (r : Write). r.flags ≢ remove_flags) rs
none_removes [] kept = All-nil (λ (r : Write). r.flags ≢ remove_flags)
none_removes (r ∷ rs) kept = All-cons (λ (x : Write). x.flags ≢ remove_flags) r rs kept.0 (none_removes rs kept.1)

module _ (prog bits : ℕ) where
  -- each of them adds its size
  spent_after : (m : FlaggedMap) (rs : List Write) → Ascend bits rs → NoRemoves rs → ((key : List ℕ) → HasKey key rs → map.get m key ≡ None)
      → used prog (map_after m rs) ≡ used prog m + spent prog rs
  spent_after m [] ascend kept absent = omega arith
  spent_after m (r ∷ rs) ascend kept absent =
      let x : Stored = record { flags = r.flags; bytes = r.value } in
      let none : key_size prog m r.key ≡ 0 = ap (λ (o : Option Stored). option_map_or (λ (stored : Stored). record_size prog (length r.key) (length stored.bytes)) o 0) (absent r.key (inl refl)) in
      let is : applied r m ≡ map.insert m r.key x = ap (λ (b : Bool). if b then map.remove m r.key else map.insert m r.key x) (ne_eqb r.flags remove_flags kept.0) in
      let more : used prog (applied r m) ≡ used prog m + extent prog r = ap (used prog) is ∙ omega (arith, used-insert prog m r.key x, none) in
      spent_after (applied r m) rs (rest_ascends bits r rs ascend) kept.1
      (λ key has. get-applied_other m r key (none_again bits r rs key ascend has) ∙ absent key (inr has))
      ∙ omega (arith, more)

  pub spent_used : (rs : List Write) → Ascend bits rs → NoRemoves rs → spent prog rs ≡ used prog (map_of rs)
  spent_used rs ascend kept = omega (arith, spent_after no_values rs ascend kept (λ key has. map.get-empty (slice_cmp nat_cmp) key), used-empty prog)

-- the live records of a map take what it uses
pub live_spent : (prog bits : ℕ) (m : FlaggedMap) (rs : List Write) → AreLive bits m rs → spent prog rs ≡ used prog m
live_spent prog bits m rs live = spent_used prog bits rs live.ascend (each_kept rs live.no_removes) ∙ ap (used prog) live.map_is
  where
    each_kept : (xs : List Write) → All (λ (r : Write). r.flags ≢ remove_flags) xs → NoRemoves xs
    each_kept [] all = tt
    each_kept (x ∷ xs) all = (all 0 x (omega arith), each_kept xs (λ i d lt. all (suc i) d (omega (arith, lt))))

-- ---- no value of a map has the flags of a remove

removed_or_stored : (m : FlaggedMap) (r : Write) (key : List ℕ) (x : Stored) → (r.flags ≡ remove_flags) ⊎ (r.flags ≢ remove_flags) → (r.key ≡ key) ⊎ (r.key ≡ key → ⊥) → map.get (applied r m) key ≡ Some x
    → (x.flags ≢ remove_flags) ⊎ (map.get m key ≡ Some x)
removed_or_stored m r key x (inl removes) (inl same) is =
    let none : map.get (applied r m) key ≡ None = ap (map.get (applied r m)) (sym same) ∙ get-applied_removed m r removes in absurd (cc (none, is))
removed_or_stored m r key x (inr keeps) (inl same) is =
    let there : map.get (applied r m) key ≡ Some (record { flags = r.flags; bytes = r.value }) = ap (map.get (applied r m)) (sym same) ∙ get-applied_stored m r keeps in
    inl (λ removes. keeps (flags_of (record { flags = r.flags; bytes = r.value }) x (sym there ∙ is) ∙ removes))
  where
    flags_of : (a b : Stored) → Some a ≡ Some b → a.flags ≡ b.flags
    flags_of a b same = cc
removed_or_stored m r key x kind (inr other) is = inr (sym (get-applied_other m r key (λ same. other (sym same))) ∙ is)

kept_after : (m : FlaggedMap) (rs : List Write) (key : List ℕ) (x : Stored) → map.get (map_after m rs) key ≡ Some x → (x.flags ≢ remove_flags) ⊎ (map.get m key ≡ Some x)
kept_after m [] key x is = inr is
kept_after m (r ∷ rs) key x is = ⊎_elim (λ keeps. inl keeps)
    (λ before. removed_or_stored m r key x (cases_eq r.flags remove_flags) (key_cases r.key key) before) (kept_after (applied r m) rs key x is)

none_some : (x : Stored) → None ≡ Some x → ⊥
none_some x same = cc

pub no_removes : (rs : List Write) (key : List ℕ) (x : Stored) → map.get (map_of rs) key ≡ Some x → x.flags ≢ remove_flags
no_removes rs key x is = ⊎_elim (λ keeps. keeps)
    (λ before. absurd (none_some x (sym (map.get-empty (slice_cmp nat_cmp) key) ∙ before))) (kept_after no_values rs key x is)

-- ---- entries whose records stand for a map

-- the records that stand at the entries' places
abbrev pub live_of : ℕ → List ℕ → List Entry → List Write
live_of prog image [] = []
live_of prog image (e ∷ es) = record_at prog image e.offset ∷ live_of prog image es

-- At an entry's place stands the record by which its key has its value in a map, and ends at or before this end.
pub record IsLive (prog : ℕ) (image : List ℕ) (end : ℕ) (keys : KeyMap) (m : FlaggedMap) (e : Entry) : Type 0 where
  pub this : Write
  pub stands : IsRecordAt prog image e.offset this
  pub inside : e.offset + extent prog this ≤ end
  pub of_map : IsOfMap m this
  pub key_is : this.key ≡ unwrap_or (map.get keys e.offset) []

pub record FindsKey (keys : KeyMap) (es : List Entry) (key : List ℕ) : Type 0 where
  pub at : ℕ
  pub inside : at < length es
  pub is : key_at keys es at ≡ key

-- The entries, in the order of their keys, are those of the keys of this map.
pub record AreLiveEntries (prog bits : ℕ) (image : List ℕ) (end : ℕ) (keys : KeyMap) (m : FlaggedMap) (es : List Entry) : Type 0 where
  pub index : IsIndexOf bits keys es
  pub each : (i : ℕ) → i < length es → IsLive prog image end keys m (entry_at es i)
  pub all : (key : List ℕ) → (map.get m key ≡ None → ⊥) → FindsKey keys es key

module _ (prog : ℕ) (positive : 1 ≤ prog) (bits : ℕ) (image : List ℕ) (end : ℕ) (keys : KeyMap) (m : FlaggedMap) where
  abbrev pub Each : List Entry → Type 0
  Each es = (i : ℕ) → i < length es → IsLive prog image end keys m (entry_at es i)

  abbrev InOrder : List Entry → Type 0
  InOrder es = (i j : ℕ) → i < j → j < length es → IsTrue (is_below bits (key_at keys es i) (key_at keys es j))

  pub first_is : (e : Entry) → IsLive prog image end keys m e → (r : Write) → record_at prog image e.offset ≡ r → IsRecordAt prog image e.offset r × (e.offset + extent prog r ≤ end) × IsOfMap m r × (r.key ≡ unwrap_or (map.get keys e.offset) [])
  first_is e live r is = subst (λ (x : Write). IsRecordAt prog image e.offset x × (e.offset + extent prog x ≤ end) × IsOfMap m x × (x.key ≡ unwrap_or (map.get keys e.offset) []))
      (sym (record_is prog positive image e.offset live.this live.stands) ∙ is) (live.stands, live.inside, live.of_map, live.key_is)

  pub live_first : (e : Entry) (es : List Entry) → Each (e ∷ es) → IsLive prog image end keys m e
  live_first e es each = each 0 (omega arith)

  pub live_rest : (e : Entry) (es : List Entry) → Each (e ∷ es) → Each es
  live_rest e es each i lt = each (suc i) (omega (arith, lt))

  rest_order : (e : Entry) (es : List Entry) → InOrder (e ∷ es) → InOrder es
  rest_order e es order i j lt inside = order (suc i) (suc j) (omega (arith, lt)) (omega (arith, inside))

  stand : (limit : ℕ) → end ≤ limit → (es : List Entry) → Each es → StandAt prog image limit es (live_of prog image es)
  stand limit within [] each = tt
  stand limit within (e ∷ es) each =
      let first = first_is e (live_first e es each) (record_at prog image e.offset) refl in
      (first.0, omega (arith, first.1, within), stand limit within es (live_rest e es each))

  of_map : (es : List Entry) → Each es → AreOfMap m (live_of prog image es)
  of_map [] each = tt
  of_map (e ∷ es) each = ((first_is e (live_first e es each) (record_at prog image e.offset) refl).2, of_map es (live_rest e es each))

  kept : (es : List Entry) → Each es → NoRemoves (live_of prog image es)
  kept [] each = tt
  kept (e ∷ es) each = ((first_is e (live_first e es each) (record_at prog image e.offset) refl).2.kept, kept es (live_rest e es each))

  has_key : (es : List Entry) → Each es → (i : ℕ) → i < length es → (key : List ℕ) → key_at keys es i ≡ key → HasKey key (live_of prog image es)
  has_key [] each i lt key is = absurd (omega (arith, lt))
  has_key (e ∷ es) each zero lt key is = inl ((first_is e (live_first e es each) (record_at prog image e.offset) refl).3 ∙ is)
  has_key (e ∷ es) each (suc i) lt key is = inr (has_key es (live_rest e es each) i (omega (arith, lt)) key is)

  ascend : (es : List Entry) → Each es → InOrder es → Ascend bits (live_of prog image es)
  ascend [] each order = tt
  ascend (e ∷ []) each order = tt
  ascend (e ∷ f ∷ es) each order =
      let rest : Each (f ∷ es) = live_rest e (f ∷ es) each in
      let first = first_is e (live_first e (f ∷ es) each) (record_at prog image e.offset) refl in
      let second = first_is f (live_first f es rest) (record_at prog image f.offset) refl in
      let below : is_below bits (unwrap_or (map.get keys e.offset) []) (unwrap_or (map.get keys f.offset) []) ≡ true = order 0 1 (omega arith) (omega arith) in (
        (λ i. is_below bits (first.3 i) (second.3 i)) ∙ below,
        ascend (f ∷ es) rest (rest_order e (f ∷ es) order),
      )

  module _ (es : List Entry) (live : AreLiveEntries prog bits image end keys m es) where
    pub live_stand : (limit : ℕ) → end ≤ limit → StandAt prog image limit es (live_of prog image es)
    live_stand limit within = stand limit within es live.each

    pub live_stand_for : StandForMap m (live_of prog image es)
    live_stand_for = record {
      each = of_map es live.each;
      all = λ key some. let found = live.all key some in has_key es live.each found.at found.inside key found.is;
    }

    pub live_are : AreLive bits m (live_of prog image es)
    live_are = record {
      ascend = ascend es live.each live.index.ascend;
      no_removes = none_removes (live_of prog image es) (kept es live.each);
      map_is = stand_for_map m (live_of prog image es) live_stand_for;
    }

    pub live_used : spent prog (live_of prog image es) ≡ used prog m
    live_used = spent_used prog bits (live_of prog image es) live_are.ascend (kept es live.each) ∙ ap (used prog) live_are.map_is
