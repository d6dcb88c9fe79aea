-- A tree of the sizes of records beside the map that they stand for.
use Rattle.std.proofs.Common.{◌≡◌, ℕ, ◌+◌, ◌-◌, Bool, true, false, cond, List, [], length, refl, sym, ◌∙◌, ap, subst, arith, if◌then◌else◌}
use Rattle.std.specs.Prelude.{Option, Some, None, is_some, ◌==◌}
use Rattle.std.specs.BTreeMap.{UpdatesBy, btree_map_len}
use Rattle.std.specs.FinMap as map
use Rattle.std.specs.FinMap.{nat_cmp-IsAntisymmetric, slice_cmp-IsAntisymmetric}
use Rattle.std.specs.Map.{lookup}
use Rattle.std.specs.declared.cmp.Ordering.{Ordering}
use Rattle.std.specs.declared.cmp.Ordering.TheVariants.{Less, Equal, Greater}
use Rattle.std.specs.Ordering.{eq_by_cmp, is_eq, nat_cmp}
use Rattle.std.specs.Cmp.{eq_by_cmp_equiv}
use Rattle.std.specs.Cmp.Lexicographic.{slice_cmp, nat_list_cmp_total}
use Rattle.std.specs.Option.{option_map_or, unwrap_or}
use mathlib.Core.Bool.{false≢true}
use Rattle.base_core.specs.Sizes.{record_size}
use Rattle.kv_model.specs.FlaggedMap.{FlaggedMap, Stored}
use Rattle.kv_model.specs.Flags.{remove_flags}
use Rattle.kv_model.specs.KeySizes.{key_size}
use Rattle.kv_model.specs.Write.{Write, applied}
use Rattle.kv_model.proofs.UsedLemmas.{used-empty, used-insert, used-remove}
use Rattle.kv_tools.specs.declared.live.Live.{Live}
use Rattle.kv_tools.specs.Surveying.{StandsFor, size_in}

abbrev R : List ℕ → List ℕ → Ordering
R = slice_cmp nat_cmp

-- no keys
pub no_keys : (prog : ℕ) (live : Live) → live.sizes.entries ≡ [] → live.used ≡ 0 → StandsFor prog live map.empty
no_keys prog live none unused = record {
  same = λ key. ap (λ (es : List (List ℕ × ℕ)). is_some (lookup (λ k. is_eq (R key k)) es)) none ∙ ap is_some (sym (map.get-empty {X = Stored} R key));
  each = λ key. ap (λ (es : List (List ℕ × ℕ)). unwrap_or (lookup (λ k. is_eq (R key k)) es) 0) none
      ∙ ap (λ (o : Option Stored). option_map_or (λ (stored : Stored). record_size prog (length key) (length stored.bytes)) o 0) (sym (map.get-empty {X = Stored} R key));
  count = ap length none ∙ sym (map.len-empty R Stored);
  used_is = unused ∙ sym (used-empty prog);
}

ties : (r : Ordering) → is_eq r ≡ true → r ≡ Equal
ties Less is = absurd (false≢true is)
ties Equal is = refl
ties Greater is = absurd (false≢true is)

same_key : (a b : List ℕ) → eq_by_cmp R a b ≡ true → a ≡ b
same_key a b is = slice_cmp-IsAntisymmetric nat_cmp-IsAntisymmetric a b (ties (R a b) is)

abbrev size_by : ℕ → List ℕ → Option Stored → ℕ
size_by prog key found = option_map_or (λ (stored : Stored). record_size prog (length key) (length stored.bytes)) found 0

some_by : (b : Bool) (x : ℕ) (y : Stored) (o : Option ℕ) (p : Option Stored) → is_some o ≡ is_some p → is_some (cond b (Some x) o) ≡ is_some (cond b (Some y) p)
some_by true x y o p same = refl
some_by false x y o p same = same

none_by : (b : Bool) (o : Option ℕ) (p : Option Stored) → is_some o ≡ is_some p → is_some (cond b None o) ≡ is_some (cond b None p)
none_by true o p same = refl
none_by false o p same = same

set_by : (prog : ℕ) (q : List ℕ) (b : Bool) (x : ℕ) (y : Stored) (o : Option ℕ) (p : Option Stored) → (b ≡ true → x ≡ record_size prog (length q) (length y.bytes))
    → unwrap_or o 0 ≡ size_by prog q p → unwrap_or (cond b (Some x) o) 0 ≡ size_by prog q (cond b (Some y) p)
set_by prog q true x y o p is same = is refl
set_by prog q false x y o p is same = same

removed_by : (prog : ℕ) (q : List ℕ) (b : Bool) (o : Option ℕ) (p : Option Stored) → unwrap_or o 0 ≡ size_by prog q p → unwrap_or (cond b None o) 0 ≡ size_by prog q (cond b None p)
removed_by prog q true o p same = refl
removed_by prog q false o p same = same

one_more : (b : Bool) (before now m : ℕ) → now ≡ before + (if b then 0 else 1) → before ≡ m → now ≡ cond b m (m + 1)
one_more true before now m is same = omega arith
one_more false before now m is same = omega arith

one_less : (b : Bool) (before now m : ℕ) → now + (if b then 1 else 0) ≡ before → before ≡ m → now ≡ cond b (m - 1) m
one_less true before now m is same = omega arith
one_less false before now m is same = omega arith

module _ (prog : ℕ) (old new : Live) (m : FlaggedMap) (stands : StandsFor prog old m) (key : List ℕ) where
  turned : (q : List ℕ) → eq_by_cmp R q key ≡ eq_by_cmp R key q
  turned q = (eq_by_cmp_equiv nat_list_cmp_total).symm q key

  -- a key is set
  pub key_set : (size : ℕ) (value : Stored) (before : Option ℕ) → size ≡ record_size prog (length key) (length value.bytes) → before ≡ size_in old.sizes key
      → UpdatesBy R (R key) old.sizes new.sizes (Some size) → btree_map_len new.sizes ≡ btree_map_len old.sizes + (if is_some before then 0 else 1)
      → new.used ≡ (old.used + size) - unwrap_or before 0 → StandsFor prog new (map.insert m key value)
  key_set size value before sized was updates count sum =
      let found : (q : List ℕ) → map.get (map.insert m key value) q ≡ cond (eq_by_cmp R key q) (Some value) (map.get m q) =
      λ q. map.get-insert nat_list_cmp_total m key value q ∙ ap (λ (b : Bool). cond b (Some value) (map.get m q)) (turned q) in
      record {
        same = λ q. ap is_some (updates.0 q) ∙ some_by (eq_by_cmp R key q) size value (size_in old.sizes q) (map.get m q) (stands.same q) ∙ sym (ap is_some (found q));
        each = λ q. ap (λ (o : Option ℕ). unwrap_or o 0) (updates.0 q)
            ∙ set_by prog q (eq_by_cmp R key q) size value (size_in old.sizes q) (map.get m q)
            (λ is. sized ∙ ap (λ (k : List ℕ). record_size prog (length k) (length value.bytes)) (same_key key q is)) (stands.each q)
            ∙ sym (ap (size_by prog q) (found q));
        count = one_more (is_some before) (btree_map_len old.sizes) (btree_map_len new.sizes) (map.len m) count stands.count
            ∙ ap (λ (b : Bool). cond b (map.len m) (map.len m + 1)) (ap is_some was ∙ stands.same key) ∙ sym (map.len-insert nat_list_cmp_total m key value);
        used_is =
            let replaced : unwrap_or before 0 ≡ key_size prog m key = ap (λ (o : Option ℕ). unwrap_or o 0) was ∙ stands.each key in
            omega (arith, sum, sized, replaced, stands.used_is, used-insert prog m key value);
      }

  -- a key is taken away
  pub key_removed : (before : Option ℕ) → before ≡ size_in old.sizes key → UpdatesBy R (R key) old.sizes new.sizes None
      → btree_map_len new.sizes + (if is_some before then 1 else 0) ≡ btree_map_len old.sizes → new.used ≡ old.used - unwrap_or before 0 → StandsFor prog new (map.remove m key)
  key_removed before was updates count sum =
      let found : (q : List ℕ) → map.get (map.remove m key) q ≡ cond (eq_by_cmp R key q) None (map.get m q) =
      λ q. map.get-remove nat_list_cmp_total m key q ∙ ap (λ (b : Bool). cond b None (map.get m q)) (turned q) in
      record {
        same = λ q. ap is_some (updates.0 q) ∙ none_by (eq_by_cmp R key q) (size_in old.sizes q) (map.get m q) (stands.same q) ∙ sym (ap is_some (found q));
        each = λ q. ap (λ (o : Option ℕ). unwrap_or o 0) (updates.0 q)
            ∙ removed_by prog q (eq_by_cmp R key q) (size_in old.sizes q) (map.get m q) (stands.each q) ∙ sym (ap (size_by prog q) (found q));
        count = one_less (is_some before) (btree_map_len old.sizes) (btree_map_len new.sizes) (map.len m) count stands.count
            ∙ ap (λ (b : Bool). cond b (map.len m - 1) (map.len m)) (ap is_some was ∙ stands.same key) ∙ sym (map.len-remove nat_list_cmp_total m key);
        used_is =
            let gone : unwrap_or before 0 ≡ key_size prog m key = ap (λ (o : Option ℕ). unwrap_or o 0) was ∙ stands.each key in
            omega (arith, sum, gone, stands.used_is, used-remove prog m key);
      }

-- ---- a record is taken in

applied_by : (m : FlaggedMap) (r : Write) (b : Bool) → (r.flags == remove_flags) ≡ b
    → applied r m ≡ (if b then map.remove m r.key else map.insert m r.key (record { flags = r.flags; bytes = r.value }))
applied_by m r b is = ap (λ (c : Bool). if c then map.remove m r.key else map.insert m r.key (record { flags = r.flags; bytes = r.value })) is

module _ (prog : ℕ) (new : Live) (m : FlaggedMap) (r : Write) (key : List ℕ) (same : r.key ≡ key) (is_remove : Bool) (kind : is_remove ≡ (r.flags == remove_flags)) where
  pub taken_away : is_remove ≡ true → StandsFor prog new (map.remove m key) → StandsFor prog new (applied r m)
  taken_away is stands = subst (StandsFor prog new) (ap (map.remove m) (sym same) ∙ sym (applied_by m r true (sym kind ∙ is))) stands

  pub given : is_remove ≡ false → StandsFor prog new (map.insert m key (record { flags = r.flags; bytes = r.value })) → StandsFor prog new (applied r m)
  given is stands = subst (StandsFor prog new) (ap (λ (k : List ℕ). map.insert m k (record { flags = r.flags; bytes = r.value })) (sym same) ∙ sym (applied_by m r false (sym kind ∙ is))) stands
