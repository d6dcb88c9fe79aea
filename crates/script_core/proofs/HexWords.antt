-- Words of hexadecimal digits, as they are tested before they are decoded.
use Rattle.std.proofs.Common.{◌≡◌, ◌%◌, ◌⊎◌, inl, inr, ℕ, Bool, true, false, cond, ltb, List, [], length, Some, None, Ok, Err, Result, refl}
use Rattle.std.specs.Prelude.{codes, is_ok}
use Rattle.std.specs.List.{list_all}
use Rattle.std.specs.Result.{result_ok}
use Rattle.std.specs.Str.{bytes_eq}
use Rattle.std.proofs.lemmas.List.Sums.{list_all-from_AllPass, AllPass-from_list_all}
use Rattle.hex.specs.Hex.{decode_of, decode_pairs, is_hex_digit}
use Rattle.hex.specs.declared.error.FromHexError.{FromHexError}
use Rattle.hex.proofs.HexLemmas.{decode_of-ok, decode_of-digits}
use Rattle.script_core.specs.HexDigits.{bytes_or_none, decoded}
use Rattle.script_core.specs.Reading.{bytes_of}

ok_is : {A E : Type 0} (r : Result A E) (x : A) → r ≡ Ok x → is_ok r ≡ true
ok_is r x e = rw e refl

-- an even number of digits decodes
pub pairs_decode : (word : List ℕ) → length word % 2 ≡ 0 → list_all is_hex_digit word ≡ true → is_ok (decode_of word) ≡ true
pairs_decode word even digits =
    let found = decode_of-digits word even (AllPass-from_list_all is_hex_digit word digits) in ok_is (decode_of word) found.0 found.1

refused : (word : List ℕ) (r : Result (List ℕ) FromHexError) → decode_of word ≡ r → ((length word % 2 ≡ 0) × (list_all is_hex_digit word ≡ true) → ⊥) → is_ok r ≡ false
refused word (Err e) is h = refl
refused word (Ok bytes) is h =
    let good = decode_of-ok word bytes is in absurd (h (good.0, list_all-from_AllPass is_hex_digit word good.1))

-- nothing else does
pub others_do_not : (word : List ℕ) → ((length word % 2 ≡ 0) × (list_all is_hex_digit word ≡ true) → ⊥) → is_ok (decode_of word) ≡ false
others_do_not word h = refused word (decode_of word) refl h

pub no_digits : decode_of [] ≡ Ok []
unfolding decode_pairs
no_digits = refl

pub dash_is_none : (word : List ℕ) → bytes_eq word (codes "-") ≡ true → bytes_of word ≡ Some (decoded [])
unfolding bytes_of decode_pairs
dash_is_none word dash = rw dash refl

value_of : (r : Result (List ℕ) FromHexError) → is_ok r ≡ true → result_ok r ≡ Some (bytes_or_none r)
value_of (Ok bytes) good = refl
value_of (Err e) good = absurd cc

no_value : (r : Result (List ℕ) FromHexError) → is_ok r ≡ false → result_ok r ≡ None
no_value (Ok bytes) bad = absurd cc
no_value (Err e) bad = refl

pub pairs_are_bytes : (word : List ℕ) → bytes_eq word (codes "-") ≡ false → ltb (length word) 2 ≡ false → is_ok (decode_of word) ≡ true → bytes_of word ≡ Some (decoded word)
unfolding bytes_of
pairs_are_bytes word dash long good = rw (dash, long) (value_of (decode_of word) good)

short_or_bad : (short : Bool) (r : Result (List ℕ) FromHexError) → (short ≡ true) ⊎ (is_ok r ≡ false) → cond short None (result_ok r) ≡ None
short_or_bad true r h = refl
short_or_bad false r (inl short) = absurd cc
short_or_bad false r (inr bad) = no_value r bad

pub others_are_none : (word : List ℕ) → bytes_eq word (codes "-") ≡ false → (ltb (length word) 2 ≡ true) ⊎ (is_ok (decode_of word) ≡ false) → bytes_of word ≡ None
unfolding bytes_of
others_are_none word dash h = rw dash (short_or_bad (ltb (length word) 2) (decode_of word) h)
