-- Words of decimal digits.
use Rattle.std.proofs.Common.{◌≡◌, ℕ, ◌^◌, ◌<◌, Bool, true, false, cond, ltb, List, [], ◌∷◌, length, None, Some, refl, sym, ap, ◌∙◌}
use Rattle.std.specs.Prelude.{◌&&◌, not, Result, Err}
use Rattle.std.specs.Char.{is_ascii_digit}
use Rattle.std.specs.List.{list_all}
use Rattle.std.specs.Str.{all_ascii_digits, IsUtf8}
use Rattle.std.specs.Str.Parse.{AllDigits, digits_value, ParsesUnsigned}
use Rattle.std.proofs.lemmas.Bool.{ltb-true}
use Rattle.std.proofs.lemmas.Result.{OkIff-at_err}
use Rattle.std.proofs.lemmas.Fmt.{IsAscii-from_digits}
use Rattle.std.proofs.lemmas.Str.{IsUtf8-from_ascii}
use Rattle.std.proofs.lemmas.Str.Parse.{IsNumeralModel, numerals_by_value, tells_all_ascii_digits, parse_digits}
use Rattle.script_core.specs.Reading.{number_of, has_leading_zero}

pub list_all-digits : (word : List ℕ) → list_all is_ascii_digit word ≡ all_ascii_digits word
list_all-digits [] = refl
list_all-digits (b ∷ word) = ap (λ rest. is_ascii_digit b && rest) (list_all-digits word)

pub numerals : IsNumeralModel (λ word. all_ascii_digits word ≡ true) (digits_value 10)
numerals = numerals_by_value _ tells_all_ascii_digits

pub all_digits : (word : List ℕ) → list_all is_ascii_digit word ≡ true → AllDigits 10 word
all_digits word h = numerals.to word (sym (list_all-digits word) ∙ h)

pub digits_are_text : (word : List ℕ) → list_all is_ascii_digit word ≡ true → IsUtf8 word
digits_are_text word h = IsUtf8-from_ascii word (IsAscii-from_digits word (all_digits word h))

none_unless : (a b c d : Bool) (n : ℕ) → (a ≡ true → d ≡ true → ⊥) → cond (a && b && c && d) (Some n) None ≡ None
none_unless false b c d n h = refl
none_unless true false c d n h = refl
none_unless true true false d n h = refl
none_unless true true true true n h = absurd (h refl refl)
none_unless true true true false n h = refl

pub number_of-is_none : (word : List ℕ) → ((0 < length word) × (digits_value 10 word < 2 ^ 32) → ⊥) → number_of word ≡ None
unfolding number_of
number_of-is_none word h = none_unless (ltb 0 (length word)) (not (has_leading_zero word)) (list_all is_ascii_digit word) (ltb (digits_value 10 word) (2 ^ 32)) (digits_value 10 word) (λ a d. h (ltb-true _ _ a, ltb-true _ _ d))

-- where `parse` refuses a word of digits
pub parse_refuses : {E : Type 0} (word text : List ℕ) (r : Result ℕ E) (e : E) → text ≡ word → ParsesUnsigned 32 10 text r → r ≡ Err e → list_all is_ascii_digit word ≡ true → number_of word ≡ None
parse_refuses word text r e same parsed refused digits =
    number_of-is_none word (OkIff-at_err r _ _ e (parse_digits numerals 32 word r (rw same at parsed) (sym (list_all-digits word) ∙ digits)) refused)
