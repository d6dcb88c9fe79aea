-- Numbers of 64 bits in decimal digits.
use Rattle.std.proofs.Common.{◌≡◌, ℕ, zero, suc, ◌^◌, ◌<◌, ◌≤◌, Bool, true, false, List, length, get_or, Result, Ok, Err, refl, sym, ap, subst, ◌∙◌, arith}
use Rattle.std.specs.Prelude.{not}
use Rattle.std.specs.Result.{OkIff}
use Rattle.std.specs.Char.{is_ascii_digit}
use Rattle.std.specs.Fmt.{decimal}
use Rattle.std.specs.List.{list_all}
use Rattle.std.specs.Str.Parse.{digits_value, ParsesUnsigned}
use Rattle.std.proofs.lemmas.Bool.Decides.{nat_tests}
use Rattle.std.proofs.lemmas.Fmt.{decimal-digits_value, decimal_injective, decimal_nonempty, decimal_digit, first_decimal, digits_decimal, digits_value-decimal}
use Rattle.std.proofs.lemmas.Result.{OkIff-at_err}
use Rattle.std.proofs.lemmas.Str.Parse.{parse_digits}
use Rattle.script_core.specs.Reading.{has_leading_zero}
use Rattle.script_core.proofs.DecimalDigits.{list_all-digits, numerals}
use Rattle.command_words.specs.Values.{SpellsNumber}

one_zero : (word : List ℕ) → not (has_leading_zero word) ≡ true → 0 < length word → get_or word 0 0 ≡ 48 → length word ≡ 1
one_zero word h long first = grind (arith, nat_tests)

no_leading_zero : (n : ℕ) → n < 2 ^ 64 → not (has_leading_zero (decimal n)) ≡ true
no_leading_zero zero h = rw (decimal_digit 0 (omega arith)) refl
no_leading_zero (suc n) h = let first = first_decimal (suc n) (omega arith) h in grind (arith, nat_tests)

-- what the word of a number is
pub record IsDigits (word : List ℕ) (n : ℕ) : Type 0 where
  pub lead : not (has_leading_zero word) ≡ true
  pub digits : list_all is_ascii_digit word ≡ true
  pub long : 0 < length word
  pub value : digits_value 10 word ≡ n

pub spelled_digits : (word : List ℕ) (n : ℕ) → SpellsNumber word n → IsDigits word n
spelled_digits word n h =
    let own : IsDigits (decimal n) n = record {
      lead = no_leading_zero n h.0;
      digits = list_all-digits (decimal n) ∙ digits_decimal numerals n h.0;
      long = decimal_nonempty n h.0;
      value = digits_value-decimal numerals n h.0;
    } in
    subst (λ (w : List ℕ). IsDigits w n) (sym h.1) own

digits_spell : (word : List ℕ) (n : ℕ) → IsDigits word n → n < 2 ^ 64 → SpellsNumber word n
digits_spell word n h small =
    let low : digits_value 10 word < 2 ^ 64 = omega (arith, h.value) in
    (small, sym (decimal-digits_value numerals word (sym (list_all-digits word) ∙ h.digits) h.long (one_zero word h.lead h.long) low) ∙ ap decimal h.value)

found : {E : Type 0} (word : List ℕ) (r : Result ℕ E) (n : ℕ) → not (has_leading_zero word) ≡ true → list_all is_ascii_digit word ≡ true
    → r ≡ Ok n → OkIff r ((0 < length word) × (digits_value 10 word < 2 ^ 64)) (digits_value 10 word) → SpellsNumber word n
found word (Err e) n lead digits is parsed = absurd cc
found word (Ok m) n lead digits is parsed =
    let same : m ≡ n = cc in
    digits_spell word n (record { lead = lead; digits = digits; long = parsed.0.0; value = sym parsed.1 ∙ same }) (omega (arith, parsed.0.1, parsed.1, same))

pub number_found : {E : Type 0} (word text : List ℕ) (r : Result ℕ E) (n : ℕ) → text ≡ word → ParsesUnsigned 64 10 text r → not (has_leading_zero word) ≡ true
    → list_all is_ascii_digit word ≡ true → r ≡ Ok n → SpellsNumber word n
number_found word text r n same parsed lead digits is =
    found word r n lead digits is (parse_digits numerals 64 word r (rw same at parsed) (sym (list_all-digits word) ∙ digits))

pub number_refused : {E : Type 0} (word text : List ℕ) (r : Result ℕ E) (e : E) → text ≡ word → ParsesUnsigned 64 10 text r
    → list_all is_ascii_digit word ≡ true → r ≡ Err e → (n : ℕ) → SpellsNumber word n → ⊥
number_refused word text r e same parsed digits is n h =
    let own = spelled_digits word n h in
    OkIff-at_err r _ _ e (parse_digits numerals 64 word r (rw same at parsed) (sym (list_all-digits word) ∙ digits)) is (own.long, omega (arith, own.value, h.0))

pub free : {b : Bool} → b ≡ false → not b ≡ true
free e = ap not e

is_not : (b : Bool) → not b ≡ true → b ≡ false
is_not true h = absurd cc
is_not false h = refl

pub leading_refused : (word : List ℕ) → has_leading_zero word ≡ true → (n : ℕ) → SpellsNumber word n → ⊥
leading_refused word leads n h = absurd (let own = spelled_digits word n h in let free = is_not (has_leading_zero word) own.lead in cc)

pub digits_refused : (word : List ℕ) → list_all is_ascii_digit word ≡ false → (n : ℕ) → SpellsNumber word n → ⊥
digits_refused word others n h = absurd (let own = spelled_digits word n h in let digits = own.digits in cc)

-- a number above a limit is none up to it
pub large_refused : (word : List ℕ) (n limit y : ℕ) → SpellsNumber word n → limit < n → limit < 2 ^ 64 → y ≤ limit → word ≡ decimal y → ⊥
large_refused word n limit y h above small low spelled =
    let same = decimal_injective n y h.0 (omega arith) (sym h.1 ∙ spelled) in omega (arith, same)
