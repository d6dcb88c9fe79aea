-- How many entries of a journal there are of a kind, with one entry more.
use Rattle.std.proofs.Common.{◌≡◌, ◌+◌, Bool, true, false, List, [], ◌∷◌, ◌++◌, ap, arith}
use Rattle.std.specs.Prelude.{count_by, cond}
use Rattle.std.proofs.lemmas.List.Sums.{sum_by-append}
use Rattle.kv_model.specs.declared.call.Entry.{Entry}

module _ (p : Entry → Bool) (entries : List Entry) (e : Entry) where
  one_behind : count_by p (entries ++ e ∷ []) ≡ count_by p entries + count_by p (e ∷ [])
  one_behind = sum_by-append (λ (x : Entry). cond (p x) 1 0) entries (e ∷ [])

  pub not_counted : p e ≡ false → count_by p (entries ++ e ∷ []) ≡ count_by p entries
  not_counted is =
      let none : count_by p (e ∷ []) ≡ 0 = ap (λ (b : Bool). 0 + cond b 1 0) is in
      omega (arith, one_behind, none)

  pub is_counted : p e ≡ true → count_by p (entries ++ e ∷ []) ≡ count_by p entries + 1
  is_counted is =
      let one : count_by p (e ∷ []) ≡ 1 = ap (λ (b : Bool). 0 + cond b 1 0) is in
      omega (arith, one_behind, one)
