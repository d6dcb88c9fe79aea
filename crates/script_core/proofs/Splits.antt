-- Parts between separators.
use Rattle.std.proofs.Common.{◌≡◌, ℕ, ◌+◌, ◌-◌, ◌<◌, ◌≤◌, eqb, Bool, true, false, cond, List, [], ◌∷◌, ◌++◌, length, take, drop, Some, None, refl, sym, ap, ◌∙◌, append_assoc, arith, ltb}
use Rattle.std.specs.Prelude.{not}
use Rattle.std.proofs.lemmas.Bool.{ltb-true, ltb-false, eqb-true, eq-eqb}
use Rattle.std.specs.List.{list_all, slice_split, position, position_or_len, join_with_byte, AllByRecursion, flat_map}
use Rattle.std.proofs.lemmas.List.{length-drop, take_all}
use Rattle.script_core.specs.Reading.{end_at}
use Rattle.script_core.proofs.Options.{chosen, not_chosen, both}
use Rattle.std.specs.Cmp.Derive.{both_true}
use Rattle.std.proofs.lemmas.List.Folds.{list_all-append}
use Rattle.std.proofs.lemmas.List.Splits.{slice_split_first, slice_split-cons_no, slice_split-cons_yes, length-slice_split}

pub slice_split-is_some : (p : ℕ → Bool) (bytes : List ℕ) (end : ℕ) → position p bytes ≡ Some end
    → slice_split p bytes ≡ take end bytes ∷ slice_split p (take (length bytes - (end + 1)) (drop (end + 1) bytes))
slice_split-is_some p bytes end found =
    let c = chosen (ltb (position_or_len p bytes) (length bytes)) (position_or_len p bytes) end found in
    let lt : position_or_len p bytes < length bytes = ltb-true _ _ c.0 in
    let whole : take (length bytes - (end + 1)) (drop (end + 1) bytes) ≡ drop (end + 1) bytes = take_all _ _ (omega (arith, length-drop (end + 1) bytes)) in
    rw (whole, ← c.1) (slice_split_first p bytes 0 lt)

no_cut_at : (p : ℕ → Bool) (x : ℕ) (xs : List ℕ) (b : Bool) → p x ≡ b → length (x ∷ xs) ≤ cond (not b) (1 + position_or_len p xs) 0
    → (length xs ≤ position_or_len p xs → slice_split p xs ≡ xs ∷ []) → slice_split p (x ∷ xs) ≡ (x ∷ xs) ∷ []
no_cut_at p x xs true e h rest = absurd (omega arith)
no_cut_at p x xs false e h rest = rw (slice_split-cons_no p x xs e, rest (omega arith)) refl

no_cut : (p : ℕ → Bool) (bytes : List ℕ) → length bytes ≤ position_or_len p bytes → slice_split p bytes ≡ bytes ∷ []
no_cut p [] h = refl
no_cut p (x ∷ xs) h = no_cut_at p x xs (p x) refl h (no_cut p xs)

pub slice_split-is_none : (p : ℕ → Bool) (bytes : List ℕ) → position p bytes ≡ None → slice_split p bytes ≡ bytes ∷ []
slice_split-is_none p bytes none = no_cut p bytes (ltb-false _ _ (not_chosen _ _ none))

pub not_empty : (p : ℕ → Bool) (bytes : List ℕ) → slice_split p bytes ≡ [] → ⊥
not_empty p bytes e = omega (arith, ap length e, length-slice_split p bytes)

pub end_at-is_none : (words : List (List ℕ)) → (words ≡ [] → ⊥) → end_at words ≡ None
end_at-is_none [] h = absurd (h refl)
end_at-is_none (word ∷ words) h = refl

-- ---- a list of words, put together and taken apart

-- a word without the separator
abbrev pub IsWhole : ℕ → List ℕ → Type 0
IsWhole c word = list_all (λ b. not (eqb b c)) word ≡ true

abbrev pub AreWhole : ℕ → List (List ℕ) → Type 0
AreWhole c words = AllByRecursion (IsWhole c) words

other_than : (p : ℕ → Bool) (c b : ℕ) (same : Bool) → eqb b c ≡ same → p c ≡ false → p b ≡ true → not same ≡ true
other_than p c b false e fails passes = refl
other_than p c b true e fails passes = absurd (let at : b ≡ c = eqb-true b c e in let x : true ≡ false = sym passes ∙ ap p at ∙ fails in cc)

-- a word whose bytes all pass a test that the separator fails
pub IsWhole-tested : (p : ℕ → Bool) (c : ℕ) → p c ≡ false → (word : List ℕ) → list_all p word ≡ true → IsWhole c word
IsWhole-tested p c fails [] h = refl
IsWhole-tested p c fails (b ∷ word) h =
    let parts = both (p b) (list_all p word) h in
    both_true (other_than p c b (eqb b c) refl fails parts.0) (IsWhole-tested p c fails word parts.1)

pub split_front : (c : ℕ) (word rest : List ℕ) → IsWhole c word → slice_split (λ b. eqb b c) (word ++ c ∷ rest) ≡ word ∷ slice_split (λ b. eqb b c) rest
split_front c [] rest h = slice_split-cons_yes _ c rest (eq-eqb c c refl)
split_front c (b ∷ word) rest h =
    let parts = both (not (eqb b c)) (list_all (λ x. not (eqb x c)) word) h in
    let other : eqb b c ≡ false = grind arith in
    rw (slice_split-cons_no (λ x. eqb x c) b (word ++ c ∷ rest) other, split_front c word rest parts.1) refl

pub split_last : (c : ℕ) (word : List ℕ) → IsWhole c word → slice_split (λ b. eqb b c) word ≡ word ∷ []
split_last c [] h = refl
split_last c (b ∷ word) h =
    let parts = both (not (eqb b c)) (list_all (λ x. not (eqb x c)) word) h in
    let other : eqb b c ≡ false = grind arith in
    rw (slice_split-cons_no (λ x. eqb x c) b word other, split_last c word parts.1) refl

pub slice_split-join_with_byte : (c : ℕ) (word : List ℕ) (words : List (List ℕ)) → IsWhole c word → AreWhole c words → slice_split (λ b. eqb b c) (join_with_byte c (word ∷ words)) ≡ word ∷ words
slice_split-join_with_byte c word [] h hs = split_last c word h
slice_split-join_with_byte c word (next ∷ words) h hs =
    split_front c word (join_with_byte c (next ∷ words)) h ∙ ap (λ (ws : List (List ℕ)). word ∷ ws) (slice_split-join_with_byte c next words hs.0 hs.1)

pub slice_split-joined : (c : ℕ) (lines : List (List ℕ)) (last : List ℕ) → AreWhole c lines → IsWhole c last
    → slice_split (λ b. eqb b c) (flat_map (λ line. line ++ c ∷ []) lines ++ last) ≡ lines ++ last ∷ []
slice_split-joined c [] last hs h = split_last c last h
slice_split-joined c (line ∷ lines) last hs h =
    let e : ((line ++ c ∷ []) ++ flat_map (λ l. l ++ c ∷ []) lines) ++ last ≡ line ++ c ∷ (flat_map (λ l. l ++ c ∷ []) lines ++ last) = simp append_assoc in
    rw e (split_front c line (flat_map (λ l. l ++ c ∷ []) lines ++ last) hs.0 ∙ ap (λ (ls : List (List ℕ)). line ∷ ls) (slice_split-joined c lines last hs.1 h))

-- words without a byte, put together with another byte
pub IsWhole-join_with_byte : (c d : ℕ) (word : List ℕ) (words : List (List ℕ)) → eqb d c ≡ false → IsWhole c word → AreWhole c words → IsWhole c (join_with_byte d (word ∷ words))
IsWhole-join_with_byte c d word [] other h hs = h
IsWhole-join_with_byte c d word (next ∷ words) other h hs =
    list_all-append (λ b. not (eqb b c)) word (d ∷ join_with_byte d (next ∷ words))
    ∙ both_true h (both_true (ap not other) (IsWhole-join_with_byte c d next words other hs.0 hs.1))

-- a word without a space and without a line feed
abbrev pub IsClean : List ℕ → Type 0
IsClean word = IsWhole 32 word × IsWhole 10 word

abbrev pub AreClean : List (List ℕ) → Type 0
AreClean words = AllByRecursion IsClean words

pub IsClean-tested : (p : ℕ → Bool) → p 32 ≡ false → p 10 ≡ false → (word : List ℕ) → list_all p word ≡ true → IsClean word
IsClean-tested p space feed word h = (IsWhole-tested p 32 space word h, IsWhole-tested p 10 feed word h)

pub AreWhole-clean : (words : List (List ℕ)) → AreClean words → AreWhole 32 words × AreWhole 10 words
AreWhole-clean [] h = (tt, tt)
AreWhole-clean (word ∷ words) h = let rest = AreWhole-clean words h.1 in ((h.0.0, rest.0), (h.0.1, rest.1))
