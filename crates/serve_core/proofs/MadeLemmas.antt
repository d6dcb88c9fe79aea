-- The calls of a client at the positions of a pass.
use Rattle.std.proofs.Common.{◌≡◌, ℕ, ◌+◌, ◌<◌, ◌≤◌, ◌==◌, ltb, Bool, true, false, ◌&&◌, cond, List, [], ◌∷◌, ◌++◌, map, filter, length, refl, sym, ◌∙◌, ap, subst, inl, inr, arith, add-zero, lt-ltb, ltb-false}
use Rattle.std.proofs.lemmas.Bool.{cases_lt}
use Rattle.std.proofs.lemmas.List.{append-nil}
use mathlib.Core.List.{IsPrefix}
use Rattle.kv_model.specs.declared.call.Call.{Call}
use Rattle.kv_model.specs.declared.call.Entry.{Entry}
use Rattle.kv_model.specs.Orders.{Line, calls_by, line_of, lines_of}
use Rattle.turn_lock.specs.Totals.{is_one, times}
use Rattle.turn_lock.proofs.Totals.{is_one-other, is_one-same, times-append}
use Rattle.serve_core.specs.Owning.{is_made, made_by}

abbrev made_or : Bool → Entry → List Call → List Call
made_or own entry rest = cond own (entry.call ∷ rest) rest

and_true : (b : Bool) → (b && true) ≡ b
and_true true = refl
and_true false = refl

and_false : (b : Bool) → (b && false) ≡ false
and_false true = refl
and_false false = refl

or_append : (own : Bool) (entry : Entry) (l r : List Call) → made_or own entry (l ++ r) ≡ made_or own entry l ++ r
or_append true entry l r = refl
or_append false entry l r = refl

module _ (who : ℕ) where
  pub made-append : (own : List ℕ) (at : ℕ) (xs ys : List Entry) → made_by who own at (xs ++ ys) ≡ made_by who own at xs ++ made_by who own (at + length xs) ys
  made-append own at [] ys = ap (λ (n : ℕ). made_by who own n ys) (sym (add-zero at))
  made-append own at (x ∷ xs) ys =
      let shift : (at + 1) + length xs ≡ at + length (x ∷ xs) = omega arith in
      ap (made_or (is_made who own at x) x)
      (made-append own (at + 1) xs ys ∙ ap (λ (n : ℕ). made_by who own (at + 1) xs ++ made_by who own n ys) shift)
      ∙ or_append (is_made who own at x) x (made_by who own (at + 1) xs) (made_by who own (at + length (x ∷ xs)) ys)

  -- what stands as often in one list of positions as in another
  pub made-same : (own other : List ℕ) (at : ℕ) (xs : List Entry) → ((p : ℕ) → at ≤ p → p < at + length xs → times p other ≡ times p own)
      → made_by who other at xs ≡ made_by who own at xs
  made-same own other at [] same = refl
  made-same own other at (x ∷ xs) same =
      let here : times at other ≡ times at own = same at (omega arith) (omega arith) in
      ap (λ (n : ℕ). made_or (ltb 0 n && (x.who == who)) x (made_by who other (at + 1) xs)) here
      ∙ ap (made_or (is_made who own at x) x) (made-same own other (at + 1) xs (λ p from to. same p (omega arith) (omega arith)))

  pub made-none : (own : List ℕ) (at : ℕ) (xs : List Entry) → ((p : ℕ) → at ≤ p → times p own ≡ 0) → made_by who own at xs ≡ []
  made-none own at [] none = refl
  made-none own at (x ∷ xs) none =
      ap (λ (n : ℕ). made_or (ltb 0 n && (x.who == who)) x (made_by who own (at + 1) xs)) (none at (omega arith))
      ∙ made-none own (at + 1) xs (λ p from. none p (omega arith))

  pub made-nothing : (at : ℕ) (xs : List Entry) → made_by who [] at xs ≡ []
  made-nothing at xs = made-none [] at xs (λ p from. refl)

  taken : (t : Bool) (l : Line) (ls : List Line) → map (λ (line : Line). line.1) (cond t (l ∷ ls) ls) ≡ cond t (l.1 ∷ map (λ (line : Line). line.1) ls) (map (λ (line : Line). line.1) ls)
  taken true l ls = refl
  taken false l ls = refl

  -- all positions make all calls of the client
  pub made-all : (own : List ℕ) (at : ℕ) (xs : List Entry) → ((p : ℕ) → at ≤ p → p < at + length xs → 0 < times p own) → made_by who own at xs ≡ calls_by who (lines_of xs)
  made-all own at [] all = refl
  made-all own at (x ∷ xs) all =
      let here : ltb 0 (times at own) ≡ true = lt-ltb 0 (times at own) (all at (omega arith) (omega arith)) in
      ap (λ (b : Bool). made_or (b && (x.who == who)) x (made_by who own (at + 1) xs)) here
      ∙ ap (made_or (x.who == who) x) (made-all own (at + 1) xs (λ p from to. all p (omega arith) (omega arith)))
      ∙ sym (taken (x.who == who) (line_of x) (filter (λ (line : Line). line.0 == who) (lines_of xs)))

  -- ---- two lists of positions

  none_first : (own : Bool) (entry : Entry) (rest : List Call) → made_or own entry rest ≡ [] → (own ≡ false) × (rest ≡ [])
  none_first true entry rest none = absurd (no_call entry.call rest (sym none))
    where
      no_call : (call : Call) (calls : List Call) → [] ≡ call ∷ calls → ⊥
      no_call call calls is = cc is
  none_first false entry rest none = (refl, none)

  tests_same : (w : Bool) (t u n : ℕ) → n ≡ t + u → (ltb 0 t && w) ≡ false → (ltb 0 n && w) ≡ (ltb 0 u && w)
  tests_same true t u n sum none =
      let zero_is : t ≤ 0 = ltb-false 0 t (sym (and_true (ltb 0 t)) ∙ none) in
      let same : n ≡ u = omega (arith, sum, zero_is) in
      ap (λ (k : ℕ). ltb 0 k && true) same
  tests_same false t u n sum none = and_false (ltb 0 n) ∙ sym (and_false (ltb 0 u))

  -- where the first have no call of the client
  pub made-other : (own other : List ℕ) (at : ℕ) (xs : List Entry) → made_by who own at xs ≡ [] → made_by who (own ++ other) at xs ≡ made_by who other at xs
  made-other own other at [] none = refl
  made-other own other at (x ∷ xs) none =
      let both = none_first (is_made who own at x) x (made_by who own (at + 1) xs) none in
      ap (λ (b : Bool). made_or b x (made_by who (own ++ other) (at + 1) xs))
      (tests_same (x.who == who) (times at own) (times at other) (times at (own ++ other)) (times-append at own other) both.0)
      ∙ ap (made_or (is_made who other at x) x) (made-other own other (at + 1) xs both.1)

  -- where the second have none
  pub made-one : (own other : List ℕ) (at : ℕ) (xs : List Entry) → made_by who other at xs ≡ [] → made_by who (own ++ other) at xs ≡ made_by who own at xs
  made-one own other at xs none =
      made-same (other ++ own) (own ++ other) at xs (λ p from to. omega (arith, times-append p own other, times-append p other own))
      ∙ made-other other own at xs none

  -- ---- a history that goes on

  -- what was not seen is not owned
  none_beyond : (own : List ℕ) (n p : ℕ) → (0 < times p own → p ≤ n) → n < p → times p own ≡ 0
  none_beyond own n p within beyond = elim (cases_lt 0 (times p own)) [ inl some ↦ absurd (omega (arith, within some, beyond)) | inr none ↦ omega (arith, none) ]

  pub made-grown : (own : List ℕ) (seen all : List Entry) → ((p : ℕ) → 0 < times p own → p ≤ length seen) → IsPrefix seen all → made_by who own 1 all ≡ made_by who own 1 seen
  made-grown own seen all within begins =
      let rest : List Entry = begins.0 in
      let none : made_by who own (1 + length seen) rest ≡ [] =
      made-none own (1 + length seen) rest (λ p from. none_beyond own (length seen) p (within p) (omega (arith, from))) in
      ap (made_by who own 1) (sym begins.1)
      ∙ made-append own 1 seen rest
      ∙ ap (λ (l : List Call). made_by who own 1 seen ++ l) none
      ∙ append-nil (made_by who own 1 seen)

  -- a history with one entry more, whose position is own
  pub made-more : (own : List ℕ) (seen earlier : List Entry) (e : Entry) (n : ℕ) → ((p : ℕ) → 0 < times p own → p ≤ length seen) → IsPrefix seen earlier → n ≡ 1 + length earlier
      → made_by who (own ++ n ∷ []) 1 (earlier ++ e ∷ []) ≡ made_by who own 1 seen ++ cond (e.who == who) (e.call ∷ []) []
  made-more own seen earlier e n within begins is =
      let more : List ℕ = own ++ n ∷ [] in
      let front : made_by who more 1 earlier ≡ made_by who own 1 earlier =
      made-same own more 1 earlier (λ p from to.
      let other : is_one p n ≡ 0 = is_one-other p n (λ same. omega (arith, same, is, to)) in
      omega (arith, times-append p own (n ∷ []), other)) in
      let some : 0 < times n more = omega (arith, times-append n own (n ∷ []), is_one-same n) in
      let test : ltb 0 (times n more) ≡ true = lt-ltb 0 (times n more) some in
      let last : made_by who more (1 + length earlier) (e ∷ []) ≡ cond (e.who == who) (e.call ∷ []) [] =
      ap (λ (k : ℕ). made_by who more k (e ∷ [])) (sym is) ∙ ap (λ (b : Bool). made_or (b && (e.who == who)) e []) test in
      made-append more 1 earlier (e ∷ [])
      ∙ ap (λ (l : List Call). l ++ made_by who more (1 + length earlier) (e ∷ [])) (front ∙ made-grown own seen earlier within begins)
      ∙ ap (λ (l : List Call). made_by who own 1 seen ++ l) last
