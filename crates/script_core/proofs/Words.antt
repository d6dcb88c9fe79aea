-- What is read of a word is what the word stands for, and what stands for it is read.
use Rattle.std.proofs.Common.{◌≡◌, ℕ, ◌+◌, zero, suc, ◌^◌, ◌<◌, ◌≤◌, ◌⊎◌, inl, inr, ltb, leb, Bool, true, false, cond, List, [], ◌∷◌, length, get_or, take, drop, Option, Some, None, Result, Ok, Err, refl, sym, ap, subst, ◌∙◌, arith, eqb, ◌-◌, ◌++◌}
use Rattle.std.specs.Prelude.{◌&&◌, not, codes, IsTrue}
use Rattle.std.specs.Char.{is_ascii_digit}
use Rattle.std.specs.Fmt.{decimal}
use Rattle.std.specs.List.{list_all}
use Rattle.std.specs.Result.{result_ok}
use Rattle.std.specs.Str.{bytes_eq}
use Rattle.std.specs.Str.Parse.{digits_value}
use Rattle.std.proofs.lemmas.Bool.{eqb-true, ltb-true, ltb-false, lt-ltb, le-ltb, leb-true, le-leb}
use Rattle.std.proofs.lemmas.Bool.Decides.{nat_tests}
use Rattle.std.proofs.lemmas.Fmt.{decimal-digits_value, decimal_nonempty, decimal_digit, first_decimal, digits_decimal, digits_value-decimal}
use Rattle.std.proofs.Math.ListN.{drop_of_length-le}
use Rattle.std.proofs.Math.Seq.{drop-cons, get_or-append_seam}
use Rattle.std.proofs.lemmas.List.{take-append-drop, take_at, length-append}
use Rattle.std.proofs.lemmas.List.Folds.{list_all-append}
use Rattle.std.specs.Cmp.Derive.{both_true}
use Rattle.std.proofs.lemmas.List.Sums.{list_all-from_AllPass}
use Rattle.std.proofs.lemmas.Slice.Eq.{bytes_eq-Decides}
use Rattle.hex.specs.Hex.{decode_of, is_hex_digit}
use Rattle.hex.proofs.HexLemmas.{decode_of-ok}
use Rattle.kv_model.specs.declared.flags.Flags.{Flags}
use Rattle.script_core.specs.Grammar.{is_printing, is_key_word, is_prefix, prefix_word, IsHexWord, IsFlagBits, flags_word}
use Rattle.script_core.specs.Reading.{has_leading_zero, number_of, number_up_to, count_of, key_of, prefix_of, bytes_of, flags_of}
use Rattle.script_core.proofs.DecimalDigits.{list_all-digits, numerals}
use Rattle.script_core.proofs.Options.{some_is, chosen, bind_some, both}
use Rattle.script_core.proofs.Splits.{IsWhole, IsWhole-tested, IsClean, IsClean-tested}

-- ---- numbers

one_zero : (word : List ℕ) → not (has_leading_zero word) ≡ true → 0 < length word → get_or word 0 0 ≡ 48 → length word ≡ 1
one_zero word h long first = grind (arith, nat_tests)

pub number_of-is_some : (word : List ℕ) (n : ℕ) → number_of word ≡ Some n → (word ≡ decimal n) × (n < 2 ^ 32)
unfolding number_of
number_of-is_some word n h =
    let c = chosen (ltb 0 (length word) && not (has_leading_zero word) && list_all is_ascii_digit word && ltb (digits_value 10 word) (2 ^ 32)) (digits_value 10 word) n h in
    let small = both (ltb 0 (length word) && not (has_leading_zero word) && list_all is_ascii_digit word) (ltb (digits_value 10 word) (2 ^ 32)) c.0 in
    let digits = both (ltb 0 (length word) && not (has_leading_zero word)) (list_all is_ascii_digit word) small.0 in
    let form = both (ltb 0 (length word)) (not (has_leading_zero word)) digits.0 in
    let below : digits_value 10 word < 2 ^ 32 = ltb-true _ _ small.1 in
    let long : 0 < length word = ltb-true _ _ form.0 in
    let same : decimal (digits_value 10 word) ≡ word =
    decimal-digits_value numerals word (sym (list_all-digits word) ∙ digits.1) long (one_zero word form.1 long) (omega arith) in
    (sym same ∙ ap decimal c.1, rw (← c.1) below)

no_leading_zero : (n : ℕ) → n < 2 ^ 64 → not (has_leading_zero (decimal n)) ≡ true
no_leading_zero zero h = rw (decimal_digit 0 (omega arith)) refl
no_leading_zero (suc n) h = let first = first_decimal (suc n) (omega arith) h in grind (arith, nat_tests)

pub number_of-decimal : (n : ℕ) → n < 2 ^ 32 → number_of (decimal n) ≡ Some n
unfolding number_of
number_of-decimal n h =
    let wide : n < 2 ^ 64 = omega arith in
    let long : ltb 0 (length (decimal n)) ≡ true = lt-ltb _ _ (decimal_nonempty n wide) in
    let digits : list_all is_ascii_digit (decimal n) ≡ true = list_all-digits (decimal n) ∙ digits_decimal numerals n wide in
    let small : ltb n (2 ^ 32) ≡ true = lt-ltb _ _ h in
    rw (long, no_leading_zero n wide, digits, digits_value-decimal numerals n wide, small) refl

pub number_up_to-is_some : (most : ℕ) (word : List ℕ) (n : ℕ) → number_up_to most word ≡ Some n → (word ≡ decimal n) × (n ≤ most) × (n < 2 ^ 32)
unfolding number_up_to
number_up_to-is_some most word n h =
    let b = bind_some (number_of word) (λ x. cond (leb x most) (Some x) None) n h in
    let c = chosen (leb b.0 most) b.0 n b.2 in
    let whole = number_of-is_some word b.0 b.1 in
    (whole.0 ∙ ap decimal c.1, rw (← c.1) (leb-true _ _ c.0), rw (← c.1) whole.1)

pub number_up_to-decimal : (most n : ℕ) → n ≤ most → n < 2 ^ 32 → number_up_to most (decimal n) ≡ Some n
unfolding number_up_to
number_up_to-decimal most n le lt = rw (number_of-decimal n lt, le-leb _ _ le) refl

pub IsWhole-decimal : (c n : ℕ) → is_ascii_digit c ≡ false → n < 2 ^ 64 → IsWhole c (decimal n)
IsWhole-decimal c n fails h = IsWhole-tested is_ascii_digit c fails (decimal n) (list_all-digits (decimal n) ∙ digits_decimal numerals n h)

pub IsClean-decimal : (n : ℕ) → n < 2 ^ 64 → IsClean (decimal n)
IsClean-decimal n h = (IsWhole-decimal 32 n refl h, IsWhole-decimal 10 n refl h)

nonzero : (zero : Bool) (n m : ℕ) → eqb n 0 ≡ zero → cond zero None (Some n) ≡ Some m → (1 ≤ n) × (n ≡ m)
nonzero true n m e h = absurd cc
nonzero false n m e h = (grind arith, some_is n m h)

pub count_of-is_some : (word : List ℕ) (n : ℕ) → count_of word ≡ Some n → (word ≡ decimal n) × (1 ≤ n) × (n < 2 ^ 32)
unfolding count_of
count_of-is_some word n h =
    let b = bind_some (number_of word) (λ x. cond (eqb x 0) None (Some x)) n h in
    let some = nonzero _ b.0 n refl b.2 in
    let whole = number_of-is_some word b.0 b.1 in
    (whole.0 ∙ ap decimal some.1, rw (← some.1) some.0, rw (← some.1) whole.1)

pub count_of-decimal : (n : ℕ) → 1 ≤ n → n < 2 ^ 32 → count_of (decimal n) ≡ Some n
unfolding count_of
count_of-decimal n low h = let some : eqb n 0 ≡ false = grind arith in rw (number_of-decimal n h, some) refl

-- ---- keys and prefixes

pub key_of-is_some : (word key : List ℕ) → key_of word ≡ Some key → (word ≡ key) × IsTrue (is_key_word key)
unfolding key_of
key_of-is_some word key h = let c = chosen (is_key_word word) word key h in (c.1, rw (← c.1) c.0)

pub key_of-key : (key : List ℕ) → IsTrue (is_key_word key) → key_of key ≡ Some key
unfolding key_of
key_of-key key h = rw h refl

pub IsClean-key : (key : List ℕ) → IsTrue (is_key_word key) → IsClean key
unfolding is_key_word
IsClean-key key h = IsClean-tested is_printing refl refl key (both (leb 1 (length key) && leb (length key) 255) (list_all is_printing key) h).1

without_last : (word : List ℕ) → 0 < length word → get_or word (length word - 1) 0 ≡ 42 → word ≡ prefix_word (take (length word - 1) word)
without_last word long star =
    let past : length word ≤ suc (length word - 1) = omega arith in
    let low : length word - 1 < length word = omega arith in
    let last : drop (length word - 1) word ≡ 42 ∷ [] = drop-cons word (length word - 1) 0 low ∙ (rw (star, drop_of_length-le word past) refl) in
    sym (take-append-drop (length word - 1) word) ∙ ap (λ (rest : List ℕ). take (length word - 1) word ++ rest) last

pub prefix_of-is_some : (word prefix : List ℕ) → prefix_of word ≡ Some prefix → (word ≡ prefix_word prefix) × IsTrue (is_prefix prefix)
unfolding prefix_of
prefix_of-is_some word prefix h =
    let c = chosen (ltb 0 (length word) && eqb (get_or word (length word - 1) 0) 42 && is_prefix (take (length word - 1) word)) (take (length word - 1) word) prefix h in
    let valid = both (ltb 0 (length word) && eqb (get_or word (length word - 1) 0) 42) (is_prefix (take (length word - 1) word)) c.0 in
    let star = both (ltb 0 (length word)) (eqb (get_or word (length word - 1) 0) 42) valid.0 in
    (without_last word (ltb-true _ _ star.0) (eqb-true _ _ star.1) ∙ ap prefix_word c.1, rw (← c.1) valid.1)

pub prefix_of-prefix : (prefix : List ℕ) → IsTrue (is_prefix prefix) → prefix_of (prefix_word prefix) ≡ Some prefix
unfolding prefix_of
prefix_of-prefix prefix h =
    let long : length (prefix ++ 42 ∷ []) ≡ length prefix + 1 = length-append prefix (42 ∷ []) in
    let end : length (prefix ++ 42 ∷ []) - 1 ≡ length prefix = omega arith in
    let some : ltb 0 (length (prefix ++ 42 ∷ [])) ≡ true = lt-ltb _ _ (omega arith) in
    rw (some, end, get_or-append_seam prefix 42 [] 0, take_at prefix (42 ∷ []) (length prefix) refl, h) refl

pub IsClean-prefix : (prefix : List ℕ) → IsTrue (is_prefix prefix) → IsClean (prefix_word prefix)
unfolding is_prefix
IsClean-prefix prefix h =
    let front = IsClean-tested is_printing refl refl prefix (both (leb (length prefix) 255) (list_all is_printing prefix) h).1 in
    (list_all-append (λ b. not (eqb b 32)) prefix (42 ∷ []) ∙ both_true front.0 refl, list_all-append (λ b. not (eqb b 10)) prefix (42 ∷ []) ∙ both_true front.1 refl)

-- ---- bytes

dash_or : (dash short : Bool) (word value : List ℕ) (read : Option (List ℕ)) → cond dash (Some []) (cond short None read) ≡ Some value → ((dash ≡ true) × (value ≡ [])) ⊎ ((short ≡ false) × (read ≡ Some value))
dash_or true short word value read h = inl (refl, sym (some_is [] value h))
dash_or false true word value read h = absurd cc
dash_or false false word value read h = inr (refl, h)

ok_of : {A E : Type 0} (r : Result A E) (x : A) → result_ok r ≡ Some x → r ≡ Ok x
ok_of (Ok y) x h = ap (λ z. Ok z) (some_is y x h)
ok_of (Err e) x h = absurd cc

pub bytes_of-is_some : (word value : List ℕ) → bytes_of word ≡ Some value → IsHexWord word value
unfolding bytes_of IsHexWord
bytes_of-is_some word value h =
    elim (dash_or (bytes_eq word (codes "-")) (ltb (length word) 2) word value (result_ok (decode_of word)) h) [
      | inl dash ↦ inl ((bytes_eq-Decides word (codes "-")).0 dash.0, dash.1)
      | inr digits ↦ inr (ltb-false _ _ digits.0, ok_of (decode_of word) value digits.1)
    ]

different : (same : Bool) (word other : List ℕ) → bytes_eq word other ≡ same → (word ≡ other → ⊥) → same ≡ false
different true word other e h = absurd (h ((bytes_eq-Decides word other).0 e))
different false word other e h = refl

pub bytes_of-hex : (word value : List ℕ) → IsHexWord word value → bytes_of word ≡ Some value
unfolding bytes_of IsHexWord
bytes_of-hex word value (inl dash) = rw (dash.0, dash.1) refl
bytes_of-hex word value (inr digits) =
    let no_dash : bytes_eq word (codes "-") ≡ false = different _ word (codes "-") refl (λ e. omega (arith, ap length e)) in
    rw (no_dash, le-ltb _ _ digits.0) (ap result_ok digits.1)

pub IsClean-hex : (word value : List ℕ) → IsHexWord word value → IsClean word
unfolding IsHexWord
IsClean-hex word value (inl dash) = rw dash.0 (refl, refl)
IsClean-hex word value (inr digits) = IsClean-tested is_hex_digit refl refl word (list_all-from_AllPass _ _ (decode_of-ok word value digits.1).1)

-- ---- flags

abbrev AreFlags : List ℕ → Flags → Type 0
AreFlags word flags = IsFlagBits flags.bits × (word ≡ flags_word flags.bits)

flags_from : (same : Bool) (word letters : List ℕ) (bits : ℕ) (rest : Option Flags) (flags : Flags) → IsFlagBits bits → letters ≡ flags_word bits → (rest ≡ Some flags → AreFlags word flags)
    → bytes_eq word letters ≡ same → cond same (Some (record { bits = bits })) rest ≡ Some flags → AreFlags word flags
flags_from true word letters bits rest flags valid spelled others e h =
    let is : bits ≡ flags.bits = ap (λ (f : Flags). f.bits) (some_is _ _ h) in
    (subst IsFlagBits is valid, (bytes_eq-Decides word letters).0 e ∙ spelled ∙ ap flags_word is)
flags_from false word letters bits rest flags valid spelled others e h = others h

pub flags_of-is_some : (word : List ℕ) (flags : Flags) → flags_of word ≡ Some flags → AreFlags word flags
unfolding flags_of flags_word
flags_of-is_some word flags =
    flags_from _ word (codes "-") 0 _ flags (false, false, false, refl) refl
    (flags_from _ word (codes "w") 1 _ flags (true, false, false, refl) refl
    (flags_from _ word (codes "c") 2 _ flags (false, true, false, refl) refl
    (flags_from _ word (codes "wc") 3 _ flags (true, true, false, refl) refl
    (flags_from _ word (codes "r") 8 _ flags (false, false, true, refl) refl
    (flags_from _ word (codes "wr") 9 _ flags (true, false, true, refl) refl
    (flags_from _ word (codes "cr") 10 _ flags (false, true, true, refl) refl
    (flags_from _ word (codes "wcr") 11 _ flags (true, true, true, refl) refl (λ e. absurd cc) refl) refl) refl) refl) refl) refl) refl) refl

pub flags_of-flags : (bits : ℕ) → IsFlagBits bits → flags_of (flags_word bits) ≡ Some (record { bits = bits })
unfolding flags_of flags_word
flags_of-flags bits (true, true, true, e) = rw e refl
flags_of-flags bits (true, true, false, e) = rw e refl
flags_of-flags bits (true, false, true, e) = rw e refl
flags_of-flags bits (true, false, false, e) = rw e refl
flags_of-flags bits (false, true, true, e) = rw e refl
flags_of-flags bits (false, true, false, e) = rw e refl
flags_of-flags bits (false, false, true, e) = rw e refl
flags_of-flags bits (false, false, false, e) = rw e refl

pub IsClean-flags : (bits : ℕ) → IsFlagBits bits → IsClean (flags_word bits)
unfolding flags_word
IsClean-flags bits (true, true, true, e) = rw e (refl, refl)
IsClean-flags bits (true, true, false, e) = rw e (refl, refl)
IsClean-flags bits (true, false, true, e) = rw e (refl, refl)
IsClean-flags bits (true, false, false, e) = rw e (refl, refl)
IsClean-flags bits (false, true, true, e) = rw e (refl, refl)
IsClean-flags bits (false, true, false, e) = rw e (refl, refl)
IsClean-flags bits (false, false, true, e) = rw e (refl, refl)
IsClean-flags bits (false, false, false, e) = rw e (refl, refl)
