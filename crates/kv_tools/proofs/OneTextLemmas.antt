-- A map has one list of live records, and an image one text of each kind.
use Rattle.std.proofs.Common.{◌≡◌, ◌≢◌, ◌⊎◌, ◌↔◌, ℕ, suc, ◌+◌, ◌-◌, ◌≤◌, Bool, true, false, List, [], ◌∷◌, ◌++◌, length, inl, inr, ⊎_elim, refl, sym, ◌∙◌, ap, subst, arith}
use Rattle.std.specs.Prelude.{All, IsTrue, Option, Some, None}
use Rattle.std.specs.FinMap as map
use Rattle.std.specs.List.{flat_map}
use Rattle.std.specs.Ordering.{nat_cmp}
use Rattle.std.specs.Cmp.Lexicographic.{slice_cmp}
use Rattle.base_core.specs.Sizes.{master_size}
use Rattle.flash_core.specs.declared.geometry.Geometry.{Geometry}
use Rattle.flash_core.specs.Images.{IsErased}
use Rattle.flash_core.specs.Sizes.{area_size}
use Rattle.kv_model.specs.FlaggedMap.{FlaggedMap, Stored}
use Rattle.kv_model.specs.Flags.{remove_flags}
use Rattle.kv_model.specs.LogStep.{AreLive, Ascend}
use Rattle.kv_model.specs.Write.{Write, applied, map_after, map_of}
use Rattle.record_core.specs.Cuts.{base_of}
use Rattle.record_core.specs.Log.{AreAllRecords}
use Rattle.record_core.specs.Mounts.{Contents, Mounts, active_area}
use Rattle.record_core.proofs.LogLemmas.{get-applied_other, get-applied_stored, one_list}
use Rattle.record_core.proofs.MountLemmas.{one_contents, one_version}
use Rattle.ram_table.proofs.KeyOrderLemmas.{is_below-trans, not_below_itself}
use Rattle.area_collect.specs.Kept.{HasKey}
use Rattle.area_collect.proofs.MapLemmas.{key_cases}
use Rattle.tdb_write.proofs.LiveLemmas.{all_above, none_again}
use Rattle.kv_tools.specs.declared.check.AreaFacts.{AreaFacts}
use Rattle.kv_tools.specs.Checking.{AreFacts, IsCheckOf, IsLineOf, facts_line, is_active}
use Rattle.kv_tools.specs.Listing.{HasLines}

-- ---- one list of live records

abbrev Member : Write → List Write → Type 0
Member r [] = ⊥
Member r (s ∷ rs) = (r ≡ s) ⊎ Member r rs

abbrev stored_of : Write → Stored
stored_of r = record { flags = r.flags; bytes = r.value }

key_of : (r : Write) (rs : List Write) → Member r rs → HasKey r.key rs
key_of r [] is = absurd is
key_of r (s ∷ rs) (inl same) = inl (ap (λ (x : Write). x.key) (sym same))
key_of r (s ∷ rs) (inr more) = inr (key_of r rs more)

abbrev NoRemoves : List Write → Type 0
NoRemoves [] = Unit {0}
NoRemoves (r ∷ rs) = (r.flags ≢ remove_flags) × NoRemoves rs

no_removes_in : (rs : List Write) → All (λ (r : Write). r.flags ≢ remove_flags) rs → NoRemoves rs
no_removes_in [] all = tt
no_removes_in (r ∷ rs) all = (all 0 r (omega arith), no_removes_in rs (λ i d lt. all (suc i) d (omega (arith, lt))))

rest_ascends : (bits : ℕ) (r : Write) (rs : List Write) → Ascend bits (r ∷ rs) → Ascend bits rs
rest_ascends bits r [] ascend = tt
rest_ascends bits r (s ∷ rs) ascend = ascend.1

some_is : (x y : Stored) → Some x ≡ Some y → x ≡ y
some_is x y same = cc

none_some : (x : Stored) → None ≡ Some x → ⊥
none_some x same = cc

-- records of other keys change nothing
untouched : (m : FlaggedMap) (rs : List Write) (key : List ℕ) → (HasKey key rs → ⊥) → map.get (map_after m rs) key ≡ map.get m key
untouched m [] key none = refl
untouched m (r ∷ rs) key none = untouched (applied r m) rs key (λ has. none (inr has)) ∙ get-applied_other m r key (λ same. none (inl (sym same)))

module _ (bits : ℕ) where
  -- what a record says of its key stands
  given : (m : FlaggedMap) (rs : List Write) (r : Write) → Ascend bits rs → NoRemoves rs → Member r rs → map.get (map_after m rs) r.key ≡ Some (stored_of r)
  given m [] r ascend kept is = absurd is
  given m (s ∷ rs) r ascend kept (inl same) =
      subst (λ (x : Write). map.get (map_after m (s ∷ rs)) x.key ≡ Some (stored_of x)) (sym same)
      (untouched (applied s m) rs s.key (λ has. none_again bits s rs s.key ascend has refl) ∙ get-applied_stored m s kept.0)
  given m (s ∷ rs) r ascend kept (inr more) = given (applied s m) rs r (rest_ascends bits s rs ascend) kept.1 more

-- what a map gives was there, or a record says so
source : (m : FlaggedMap) (rs : List Write) (key : List ℕ) (x : Stored) → NoRemoves rs → map.get (map_after m rs) key ≡ Some x
    → (map.get m key ≡ Some x) ⊎ Member (record { flags = x.flags; key = key; value = x.bytes }) rs
source m [] key x kept is = inl is
source m (r ∷ rs) key x kept is = by_rest (source (applied r m) rs key x kept.1 is) where
  by_key : map.get (applied r m) key ≡ Some x → (r.key ≡ key) ⊎ (r.key ≡ key → ⊥) → (map.get m key ≡ Some x) ⊎ Member (record { flags = x.flags; key = key; value = x.bytes }) (r ∷ rs)
  by_key here (inl same) =
      let this : stored_of r ≡ x = some_is (stored_of r) x (sym (get-applied_stored m r kept.0) ∙ ap (map.get (applied r m)) same ∙ here) in
      inr (inl (λ i. record { flags = (sym this i).flags; key = sym same i; value = (sym this i).bytes }))
  by_key here (inr other) = inl (sym (get-applied_other m r key (λ same. other (sym same))) ∙ here)

  by_rest : (map.get (applied r m) key ≡ Some x) ⊎ Member (record { flags = x.flags; key = key; value = x.bytes }) rs → (map.get m key ≡ Some x) ⊎ Member (record { flags = x.flags; key = key; value = x.bytes }) (r ∷ rs)
  by_rest (inl here) = by_key here (key_cases r.key key)
  by_rest (inr more) = inr (inr more)

module _ (bits : ℕ) (m : FlaggedMap) where
  -- a record of one list is one of the other
  crosses : (rs ss : List Write) → AreLive bits m rs → AreLive bits m ss → (r : Write) → Member r rs → Member r ss
  crosses rs ss one two r is =
      let here : map.get (map_of ss) r.key ≡ Some (stored_of r) = ap (λ (x : FlaggedMap). map.get x r.key) (two.map_is ∙ sym one.map_is) ∙ given bits map.empty rs r one.ascend (no_removes_in rs one.no_removes) is in
      ⊎_elim (λ before. absurd (none_some (stored_of r) (sym (map.get-empty {X = Stored} (slice_cmp nat_cmp) r.key) ∙ before))) (λ more. more)
      (source map.empty ss r.key (stored_of r) (no_removes_in ss two.no_removes) here)

module _ (bits : ℕ) where
  -- lists in order that have the same records are one
  same_lists : (rs ss : List Write) → Ascend bits rs → Ascend bits ss → ((r : Write) → Member r rs → Member r ss) → ((r : Write) → Member r ss → Member r rs) → rs ≡ ss
  same_lists [] [] one two to from = refl
  same_lists [] (s ∷ ss) one two to from = absurd (from s (inl refl))
  same_lists (r ∷ rs) [] one two to from = absurd (to r (inl refl))
  same_lists (r ∷ rs) (s ∷ ss) one two to from =
      let same : r ≡ s = firsts (to r (inl refl)) (from s (inl refl)) in
      let rest : rs ≡ ss = same_lists rs ss (rest_ascends bits r rs one) (rest_ascends bits s ss two)
      (λ x is. behind x s ss (λ again. not_first r rs one x is (again ∙ sym same)) (to x (inr is)))
      (λ x is. behind x r rs (λ again. not_first s ss two x is (again ∙ same)) (from x (inr is))) in
      λ i. same i ∷ rest i
    where
      firsts : Member r (s ∷ ss) → Member s (r ∷ rs) → r ≡ s
      firsts (inl same) other = same
      firsts (inr more) (inl same) = sym same
      firsts (inr more) (inr less) =
          absurd (not_below_itself bits r.key (is_below-trans bits r.key s.key r.key (all_above bits r rs s.key one (key_of s rs less)) (all_above bits s ss r.key two (key_of r ss more))))

      not_first : (a : Write) (others : List Write) → Ascend bits (a ∷ others) → (x : Write) → Member x others → x ≡ a → ⊥
      not_first a others ascend x is same = none_again bits a others x.key ascend (key_of x others is) (ap (λ (y : Write). y.key) same)

      behind : (x a : Write) (others : List Write) → (x ≡ a → ⊥) → Member x (a ∷ others) → Member x others
      behind x a others not (inl same) = absurd (not same)
      behind x a others not (inr more) = more

one_live : (bits : ℕ) (m : FlaggedMap) (rs ss : List Write) → AreLive bits m rs → AreLive bits m ss → rs ≡ ss
one_live bits m rs ss one two = same_lists bits rs ss one.ascend two.ascend (crosses bits m rs ss one two) (crosses bits m ss rs two one)

one_map : (g : Geometry) (image : List ℕ) → 1 ≤ g.prog → (m n : FlaggedMap) → Mounts g image m → Mounts g image n → m ≡ n
one_map g image positive m n one two = one.2 ∙ ap (λ (c : Contents). map_of c.records) (one_contents g image positive one.0 two.0 one.1 two.1) ∙ sym two.2

pub one_text : (line : Write → List ℕ) (g : Geometry) (hash_bits : ℕ) (image a b : List ℕ) → 1 ≤ g.prog → HasLines line g hash_bits image a → HasLines line g hash_bits image b → a ≡ b
one_text line g hash_bits image a b positive one two =
    let same : one.of ≡ two.of = one_map g image positive one.of two.of one.mounts two.mounts in
    one.text_is ∙ ap (flat_map line) (one_live hash_bits two.of one.live two.live (subst (λ (m : FlaggedMap). AreLive hash_bits m one.live) same one.are) two.are) ∙ sym two.text_is

-- ---- one check

one_truth : (P : Type 0) (a b : Bool) → (IsTrue a ↔ P) → (IsTrue b ↔ P) → a ≡ b
one_truth P true true one two = refl
one_truth P true false one two = sym (two.1 (one.0 refl))
one_truth P false true one two = one.1 (two.0 refl)
one_truth P false false one two = refl

same_end : (base a b : ℕ) → base + a ≡ base + b → a ≡ b
same_end base a b same = omega (arith, same)

module _ (g : Geometry) (positive : 1 ≤ g.prog) (image : List ℕ) where
  one_facts : (active : Option ℕ) (version number : ℕ) (e f : AreaFacts) → e.number ≡ number → f.number ≡ number → AreFacts g image active version e → AreFacts g image active version f → e ≡ f
  one_facts active version number e f en fn one two =
      let numbers : e.number ≡ f.number = en ∙ sym fn in
      let list = one_list g.prog positive image (base_of g f.number + master_size g.prog) (base_of g f.number + area_size g) (base_of g f.number + e.end) (base_of g f.number + f.end) one.records two.records
      (subst (λ (k : ℕ). AreAllRecords g.prog image (base_of g k + master_size g.prog) (base_of g k + area_size g) (base_of g k + e.end) one.records) numbers one.all) two.all in
      let ends : e.end ≡ f.end = same_end (base_of g f.number) e.end f.end list.1 in
      let clean : e.is_clean ≡ f.is_clean = one_truth (IsErased image (base_of g f.number + f.end) (area_size g - f.end)) e.is_clean f.is_clean
      (subst (λ (n : ℕ). IsTrue e.is_clean ↔ IsErased image (base_of g f.number + n) (area_size g - n)) ends (subst (λ (k : ℕ). IsTrue e.is_clean ↔ IsErased image (base_of g k + e.end) (area_size g - e.end)) numbers one.clean)) two.clean in
      let roles : e.is_active ≡ f.is_active = one.role ∙ ap (λ (k : ℕ). is_active active k) numbers ∙ sym two.role in
      let versions : e.version ≡ f.version = one.version_is ∙ sym two.version_is in
      let counts : e.records ≡ f.records = one.count ∙ ap length list.0 ∙ sym two.count in
      let lives : e.live ≡ f.live = one.live ∙ ap (λ (rs : List Write). map.len (map_of rs)) list.0 ∙ sym two.live in
      λ i. record { number = numbers i; version = versions i; is_active = roles i; records = counts i; live = lives i; end = ends i; is_clean = clean i }

  one_line : (active : Option ℕ) (number : ℕ) (version : Option ℕ) (a b : List ℕ) → IsLineOf g image active number version a → IsLineOf g image active number version b → a ≡ b
  one_line active number None a b one two = one ∙ sym two
  one_line active number (Some version) a b one two = one.3 ∙ ap facts_line (one_facts active version number one.0 two.0 one.1 two.1 one.2 two.2) ∙ sym two.3

  pub one_check : (a b : List ℕ) → IsCheckOf g image a → IsCheckOf g image b → a ≡ b
  one_check a b one two =
      let firsts : one.first ≡ two.first = one_version g.prog positive image 0 one.first two.first one.first_master two.first_master in
      let seconds : one.second ≡ two.second = one_version g.prog positive image (area_size g) one.second two.second one.second_master two.second_master in
      let active : active_area one.first one.second ≡ active_area two.first two.second = λ i. active_area (firsts i) (seconds i) in
      let one_line_is : IsLineOf g image (active_area two.first two.second) 0 two.first one.one =
      subst (λ (v : Option ℕ). IsLineOf g image (active_area two.first two.second) 0 v one.one) firsts (subst (λ (k : Option ℕ). IsLineOf g image k 0 one.first one.one) active one.first_line) in
      let two_line_is : IsLineOf g image (active_area two.first two.second) 1 two.second one.two =
      subst (λ (v : Option ℕ). IsLineOf g image (active_area two.first two.second) 1 v one.two) seconds (subst (λ (k : Option ℕ). IsLineOf g image k 1 one.second one.two) active one.second_line) in
      let front : one.one ≡ two.one = one_line (active_area two.first two.second) 0 two.first one.one two.one one_line_is two.first_line in
      let back : one.two ≡ two.two = one_line (active_area two.first two.second) 1 two.second one.two two.two two_line_is two.second_line in
      one.text_is ∙ (λ i. front i ++ back i) ∙ sym two.text_is
