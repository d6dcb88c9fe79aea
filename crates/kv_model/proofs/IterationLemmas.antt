-- Each key that is present throughout is given exactly once, and no key twice.
use Rattle.std.proofs.Common.{◌≡◌, ◌⊎◌, ℕ, suc, ◌≤◌, Bool, true, false, cond, List, [], ◌∷◌, ◌++◌, length, take, Option, Some, None, IfSome, filter, All, bytes_eq, inl, inr, refl, sym, ◌∙◌, subst, arith, true≢false}
use Rattle.std.specs.List.{AllByRecursion}
use Rattle.std.specs.FinMap.{contains_key}
use Rattle.std.proofs.lemmas.List.Sums.{length-filter}
use Rattle.std.proofs.lemmas.Slice.Eq.{bytes_eq-Decides}
use Rattle.kv_model.specs.FlaggedMap.{FlaggedMap}
use Rattle.kv_model.specs.KeyOrder.{is_below}
use Rattle.kv_model.specs.StoreState.{Position}
use Rattle.kv_model.specs.NextKey.{next_key, HasPrefix, IsNext}
use Rattle.kv_model.specs.Iterations.{Turn, Opens, Gives, Ends, Closes, Passes, keys_given, times_given}
use Rattle.kv_model.proofs.NextKeyLemmas.{below_trans, not_below_itself, next_key_is_next}

-- From this position and this map on, each key given is the next one of the moment, and the end comes where there is no
-- next one. The second list has the maps behind the calls, which may change at will.
abbrev pub Iterates : ℕ → Position → FlaggedMap → List Turn → List FlaggedMap → Type 0
Iterates hash_bits position map [] [] = Unit {0}
Iterates hash_bits position map (Gives key ∷ turns) (new ∷ maps) =
    (next_key hash_bits map position ≡ Some key) × Iterates hash_bits (record position { last = Some key }) new turns maps
Iterates hash_bits position map (Ends ∷ turns) (new ∷ maps) = (next_key hash_bits map position ≡ None) × Iterates hash_bits position new turns maps
Iterates hash_bits position map (Passes ∷ turns) (new ∷ maps) = Iterates hash_bits position new turns maps
Iterates hash_bits position map turns maps = ⊥

module _ (hash_bits : ℕ) where
  abbrev IsAbove : Option (List ℕ) → List ℕ → Type 0
  IsAbove last key = IfSome last (λ (l : List ℕ). is_below hash_bits l key ≡ true)

  -- what is known of a next key
  next_some : (m : FlaggedMap) (p : Position) (key : List ℕ) → next_key hash_bits m p ≡ Some key → IsNext hash_bits m p (Some key)
  next_some m p key is = subst (IsNext hash_bits m p) is (next_key_is_next hash_bits m p)

  next_none : (m : FlaggedMap) (p : Position) → next_key hash_bits m p ≡ None → IsNext hash_bits m p None
  next_none m p is = subst (IsNext hash_bits m p) is (next_key_is_next hash_bits m p)

  -- ---- keys ascend

  above_more : (last : Option (List ℕ)) (key k : List ℕ) → IsAbove last key → is_below hash_bits key k ≡ true → IsAbove last k
  above_more None key k first second = tt
  above_more (Some l) key k first second = below_trans hash_bits l key k first second

  all_above_more : (last : Option (List ℕ)) (key : List ℕ) (ks : List (List ℕ)) → IsAbove last key → AllByRecursion (λ (k : List ℕ). is_below hash_bits key k ≡ true) ks → AllByRecursion (IsAbove last) ks
  all_above_more last key [] first all = tt
  all_above_more last key (k ∷ ks) first all = (above_more last key k first all.0, all_above_more last key ks first all.1)

  given_above : (p : Position) (m : FlaggedMap) (turns : List Turn) (maps : List FlaggedMap) → Iterates hash_bits p m turns maps → AllByRecursion (IsAbove p.last) (keys_given turns)
  given_above p m [] [] runs = tt
  given_above p m (Gives key ∷ turns) (new ∷ maps) runs =
      let above = (next_some m p key runs.0).0.above in
      (above, all_above_more p.last key (keys_given turns) above (given_above (record p { last = Some key }) new turns maps runs.1))
  given_above p m (Ends ∷ turns) (new ∷ maps) runs = given_above p new turns maps runs.1
  given_above p m (Passes ∷ turns) (new ∷ maps) runs = given_above p new turns maps runs
  given_above p m (Opens prefix ∷ turns) maps runs = absurd runs
  given_above p m (Closes ∷ turns) maps runs = absurd runs
  given_above p m [] (new ∷ maps) runs = absurd runs
  given_above p m (Gives key ∷ turns) [] runs = absurd runs
  given_above p m (Ends ∷ turns) [] runs = absurd runs
  given_above p m (Passes ∷ turns) [] runs = absurd runs

  -- ---- so none comes twice

  abbrev count : List ℕ → List (List ℕ) → ℕ
  count key ks = length (filter (bytes_eq key) ks)

  not_above : (key k : List ℕ) (ks : List (List ℕ)) (t : Bool) → bytes_eq key k ≡ t → is_below hash_bits key k ≡ true → count key ks ≡ 0 → length (cond t (k ∷ filter (bytes_eq key) ks) (filter (bytes_eq key) ks)) ≡ 0
  not_above key k ks true is below rest = absurd (not_below_itself hash_bits key (subst (λ (x : List ℕ). is_below hash_bits key x ≡ true) (sym ((bytes_eq-Decides key k).0 is)) below))
  not_above key k ks false is below rest = rest

  none_above : (key : List ℕ) (ks : List (List ℕ)) → AllByRecursion (λ (k : List ℕ). is_below hash_bits key k ≡ true) ks → count key ks ≡ 0
  none_above key [] all = refl
  none_above key (k ∷ ks) all = not_above key k ks (bytes_eq key k) refl all.0 (none_above key ks all.1)

  one_at_most : (key k : List ℕ) (ks : List (List ℕ)) (t : Bool) → bytes_eq key k ≡ t → AllByRecursion (λ (x : List ℕ). is_below hash_bits k x ≡ true) ks → count key ks ≤ 1
      → length (cond t (k ∷ filter (bytes_eq key) ks) (filter (bytes_eq key) ks)) ≤ 1
  one_at_most key k ks true is all rest =
      let none = none_above key ks (subst (λ (x : List ℕ). AllByRecursion (λ (y : List ℕ). is_below hash_bits x y ≡ true) ks) (sym ((bytes_eq-Decides key k).0 is)) all) in
      omega arith
  one_at_most key k ks false is all rest = rest

  once_at_most : (key : List ℕ) (p : Position) (m : FlaggedMap) (turns : List Turn) (maps : List FlaggedMap) → Iterates hash_bits p m turns maps → count key (keys_given turns) ≤ 1
  once_at_most key p m [] [] runs = omega arith
  once_at_most key p m (Gives k ∷ turns) (new ∷ maps) runs =
      one_at_most key k (keys_given turns) (bytes_eq key k) refl (given_above (record p { last = Some k }) new turns maps runs.1) (once_at_most key (record p { last = Some k }) new turns maps runs.1)
  once_at_most key p m (Ends ∷ turns) (new ∷ maps) runs = once_at_most key p new turns maps runs.1
  once_at_most key p m (Passes ∷ turns) (new ∷ maps) runs = once_at_most key p new turns maps runs
  once_at_most key p m (Opens prefix ∷ turns) maps runs = absurd runs
  once_at_most key p m (Closes ∷ turns) maps runs = absurd runs
  once_at_most key p m [] (new ∷ maps) runs = absurd runs
  once_at_most key p m (Gives k ∷ turns) [] runs = absurd runs
  once_at_most key p m (Ends ∷ turns) [] runs = absurd runs
  once_at_most key p m (Passes ∷ turns) [] runs = absurd runs

  -- ---- and each comes that is there throughout

  all_first : {X : Type 0} (P : X → Type 0) (x : X) (xs : List X) → All P (x ∷ xs) → P x
  all_first P x xs all = all 0 x (omega arith)

  all_rest : {X : Type 0} (P : X → Type 0) (x : X) (xs : List X) → All P (x ∷ xs) → All P xs
  all_rest P x xs all k d below = all (suc k) d (omega (arith, below))

  abbrev IsIn : List ℕ → FlaggedMap → Type 0
  IsIn key m = contains_key m key ≡ true

  counted : (key k : List ℕ) (ks : List (List ℕ)) (t : Bool) → bytes_eq key k ≡ t → (key ≡ k) ⊎ (1 ≤ count key ks) → 1 ≤ length (cond t (k ∷ filter (bytes_eq key) ks) (filter (bytes_eq key) ks))
  counted key k ks true is found = omega arith
  counted key k ks false is (inl same) = absurd (true≢false (sym ((bytes_eq-Decides key k).1 same) ∙ is))
  counted key k ks false is (inr more) = more

  given_once : (key : List ℕ) (p : Position) (m : FlaggedMap) (turns : List Turn) (maps : List FlaggedMap)
      → Iterates hash_bits p m (turns ++ Ends ∷ []) maps → HasPrefix p.prefix key → IsAbove p.last key → IsIn key m → All (IsIn key) (take (length turns) maps) → 1 ≤ count key (keys_given turns)
  given_once key p m [] (new ∷ []) runs prefixed above now later =
      absurd (next_none m p runs.0 key (record { present = now; prefixed = prefixed; above = above }))
  given_once key p m (Gives k ∷ turns) (new ∷ maps) runs prefixed above now later =
      let found = (next_some m p k runs.0).1 key (record { present = now; prefixed = prefixed; above = above }) in
      counted key k (keys_given turns) (bytes_eq key k) refl (elim found [
        | inl is ↦ inl is
        | inr beyond ↦ inr (given_once key (record p { last = Some k }) new turns maps runs.1 prefixed beyond (all_first (IsIn key) new (take (length turns) maps) later) (all_rest (IsIn key) new (take (length turns) maps) later))
      ])
  given_once key p m (Ends ∷ turns) (new ∷ maps) runs prefixed above now later =
      absurd (next_none m p runs.0 key (record { present = now; prefixed = prefixed; above = above }))
  given_once key p m (Passes ∷ turns) (new ∷ maps) runs prefixed above now later =
      given_once key p new turns maps runs prefixed above (all_first (IsIn key) new (take (length turns) maps) later) (all_rest (IsIn key) new (take (length turns) maps) later)
  given_once key p m (Opens prefix ∷ turns) maps runs prefixed above now later = absurd runs
  given_once key p m (Closes ∷ turns) maps runs prefixed above now later = absurd runs
  given_once key p m [] [] runs prefixed above now later = absurd runs
  given_once key p m [] (new ∷ other ∷ maps) runs prefixed above now later = absurd runs.1
  given_once key p m (Gives k ∷ turns) [] runs prefixed above now later = absurd runs
  given_once key p m (Ends ∷ turns) [] runs prefixed above now later = absurd runs
  given_once key p m (Passes ∷ turns) [] runs prefixed above now later = absurd runs

  pub no_key_twice : (position : Position) (m : FlaggedMap) (turns : List Turn) (maps : List FlaggedMap) (key : List ℕ) → Iterates hash_bits position m turns maps → times_given key turns ≤ 1
  no_key_twice position m turns maps key runs = subst (λ (n : ℕ). n ≤ 1) (length-filter (bytes_eq key) (keys_given turns)) (once_at_most key position m turns maps runs)

  before_end : (p : Position) (m : FlaggedMap) (turns : List Turn) (maps : List FlaggedMap) → Iterates hash_bits p m (turns ++ Ends ∷ []) maps → (front : List FlaggedMap) × Iterates hash_bits p m turns front
  before_end p m [] maps runs = ([], tt)
  before_end p m (Gives k ∷ turns) (new ∷ maps) runs =
      let rest = before_end (record p { last = Some k }) new turns maps runs.1 in
      (new ∷ rest.0, (runs.0, rest.1))
  before_end p m (Ends ∷ turns) (new ∷ maps) runs =
      let rest = before_end p new turns maps runs.1 in
      (new ∷ rest.0, (runs.0, rest.1))
  before_end p m (Passes ∷ turns) (new ∷ maps) runs =
      let rest = before_end p new turns maps runs in
      (new ∷ rest.0, rest.1)
  before_end p m (Opens prefix ∷ turns) maps runs = absurd runs
  before_end p m (Closes ∷ turns) maps runs = absurd runs
  before_end p m (Gives k ∷ turns) [] runs = absurd runs
  before_end p m (Ends ∷ turns) [] runs = absurd runs
  before_end p m (Passes ∷ turns) [] runs = absurd runs

  pub each_key_once : (prefix : List ℕ) (m : FlaggedMap) (turns : List Turn) (maps : List FlaggedMap) (key : List ℕ)
      → Iterates hash_bits (record { prefix = prefix; last = None }) m (turns ++ Ends ∷ []) maps
      → HasPrefix prefix key → All (λ (now : FlaggedMap). contains_key now key ≡ true) (m ∷ take (length turns) maps) → times_given key turns ≡ 1
  each_key_once prefix m turns maps key runs prefixed throughout =
      let start : Position = record { prefix = prefix; last = None } in
      let least = given_once key start m turns maps runs prefixed tt (all_first (IsIn key) m (take (length turns) maps) throughout) (all_rest (IsIn key) m (take (length turns) maps) throughout) in
      let most = once_at_most key start m turns (before_end start m turns maps runs).0 (before_end start m turns maps runs).1 in
      sym (length-filter (bytes_eq key) (keys_given turns)) ∙ omega arith
