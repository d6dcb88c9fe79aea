-- A journal by its clients, with one entry more, and with one client more.
use Rattle.std.proofs.Common.{◌≡◌, ℕ, zero, suc, ◌+◌, ◌<◌, true, false, cond, List, [], ◌∷◌, ◌++◌, map, length, take, get_or, ap, ◌∙◌, arith, add-zero, add-one, length-take}
use Rattle.std.specs.List.{filter, flat_map, enumerate_from, range_with_len}
use Rattle.std.proofs.lemmas.List.{append-nil, map-append, take_more}
use Rattle.std.proofs.lemmas.List.Elements.{filter-append}
use Rattle.std.proofs.lemmas.List.Concat.{flat_map-append}
use Rattle.kv_model.specs.declared.call.Entry.{Entry}
use Rattle.journal_core.specs.Clients.{is_by, positions_of}

enumerate_from-push : (first : ℕ) (entries : List Entry) (entry : Entry) → enumerate_from first (entries ++ entry ∷ []) ≡ enumerate_from first entries ++ (first + length entries, entry) ∷ []
enumerate_from-push first [] entry = rw add-zero
enumerate_from-push first (e ∷ entries) entry =
    let shift : first + 1 + length entries ≡ first + suc (length entries) = omega arith in
    ap (λ es. (first, e) ∷ es) (enumerate_from-push (first + 1) entries entry ∙ ap (λ n. enumerate_from (first + 1) entries ++ (n, entry) ∷ []) shift)

positions_of-push : (who : ℕ) (entries : List Entry) (entry : Entry) → positions_of who (entries ++ entry ∷ []) ≡ positions_of who entries ++ map (λ (p : ℕ × Entry). p.0) (filter (λ (p : ℕ × Entry). is_by who p.1) ((1 + length entries, entry) ∷ []))
positions_of-push who entries entry =
    ap (λ es. map (λ (p : ℕ × Entry). p.0) (filter (λ (p : ℕ × Entry). is_by who p.1) es)) (enumerate_from-push 1 entries entry)
    ∙ ap (map (λ (p : ℕ × Entry). p.0)) (filter-append (λ (p : ℕ × Entry). is_by who p.1) (enumerate_from 1 entries) _)
    ∙ map-append (λ (p : ℕ × Entry). p.0) _ _

-- what the next entry adds where it is the client's, and where it is not
module _ (who : ℕ) (entries : List Entry) (i : ℕ) (entry : Entry) (within : i < length entries) where
  next : positions_of who (take (i + 1) entries) ≡ positions_of who (take i entries) ++ map (λ (p : ℕ × Entry). p.0) (filter (λ (p : ℕ × Entry). is_by who p.1) ((i + 1, get_or entries i entry) ∷ []))
  next =
      let size : 1 + length (take i entries) ≡ i + 1 = omega (arith, length-take i entries) in
      ap (positions_of who) (take_more entries i entry within) ∙ positions_of-push who (take i entries) (get_or entries i entry)
      ∙ ap (λ n. positions_of who (take i entries) ++ map (λ (p : ℕ × Entry). p.0) (filter (λ (p : ℕ × Entry). is_by who p.1) ((n, get_or entries i entry) ∷ []))) size

  pub positions_of-own : is_by who (get_or entries i entry) ≡ true → positions_of who (take (i + 1) entries) ≡ positions_of who (take i entries) ++ (i + 1) ∷ []
  positions_of-own own = next ∙ ap (λ b. positions_of who (take i entries) ++ map (λ (p : ℕ × Entry). p.0) (cond b ((i + 1, get_or entries i entry) ∷ []) [])) own

  pub positions_of-other : is_by who (get_or entries i entry) ≡ false → positions_of who (take (i + 1) entries) ≡ positions_of who (take i entries)
  positions_of-other other = next ∙ ap (λ b. positions_of who (take i entries) ++ map (λ (p : ℕ × Entry). p.0) (cond b ((i + 1, get_or entries i entry) ∷ []) [])) other ∙ append-nil _

range_with_len-more : (first n : ℕ) → range_with_len first (suc n) ≡ range_with_len first n ++ (first + n) ∷ []
range_with_len-more first zero = rw add-zero
range_with_len-more first (suc n) =
    let shift : first + 1 + n ≡ first + suc n = omega arith in
    ap (λ ns. first ∷ ns) (range_with_len-more (first + 1) n ∙ ap (λ m. range_with_len (first + 1) n ++ m ∷ []) shift)

pub flat_map-next : (f : ℕ → List ℕ) (n : ℕ) → flat_map f (range_with_len 0 (n + 1)) ≡ flat_map f (range_with_len 0 n) ++ f n
flat_map-next f n =
    let is : range_with_len 0 (n + 1) ≡ range_with_len 0 n ++ n ∷ [] = rw add-one (range_with_len-more 0 n ∙ ap (λ m. range_with_len 0 n ++ m ∷ []) (omega arith)) in
    ap (flat_map f) is ∙ flat_map-append f (range_with_len 0 n) (n ∷ []) ∙ ap (λ xs. flat_map f (range_with_len 0 n) ++ xs) (append-nil (f n))
