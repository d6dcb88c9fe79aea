-- The text of numbers digit by digit, and the hexadecimal text of bytes, by whether there are any.
use Rattle.std.proofs.Common.{◌≡◌, ℕ, ◌+◌, ◌/◌, ◌%◌, ◌^◌, ◌<◌, ◌≤◌, List, [], ◌∷◌, ◌++◌, length, append_assoc, refl, sym, ap, ◌∙◌, arith}
use Rattle.std.proofs.lemmas.Fmt.{decimal_digit, decimal_step}
use Rattle.std.specs.Fmt.{decimal}
use Rattle.hex.specs.Hex.{encode_lower}
use Rattle.journal_core.specs.Texts.{hex_text}

pub hex_text-none : (bytes : List ℕ) → length bytes ≡ 0 → hex_text bytes ≡ 45 ∷ []
hex_text-none [] none = refl
hex_text-none (b ∷ bytes) none = absurd (omega arith)

pub hex_text-some : (bytes : List ℕ) → 0 < length bytes → hex_text bytes ≡ encode_lower bytes
hex_text-some [] some = absurd (omega arith)
hex_text-some (b ∷ bytes) some = refl

pub ruleset hex_cases = (hex_text-none, hex_text-some)

pub one_digit : (text : List ℕ) (n : ℕ) → n < 10 → text ++ (48 + n) ∷ [] ≡ text ++ decimal n
one_digit text n low = ap (λ (digits : List ℕ). text ++ digits) (sym (decimal_digit n low))

-- the last digit behind the others
pub digits_more : (text : List ℕ) (n : ℕ) → 10 ≤ n → n < 2 ^ 32 → (text ++ decimal (n / 10)) ++ (48 + n % 10) ∷ [] ≡ text ++ decimal n
digits_more text n high low = append_assoc text (decimal (n / 10)) ((48 + n % 10) ∷ []) ∙ ap (λ (digits : List ℕ). text ++ digits) (sym (decimal_step n high (omega arith)))
