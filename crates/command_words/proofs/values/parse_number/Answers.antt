use Rattle.std.proofs.Common.{sym, ◌∙◌}
use Rattle.script_core.proofs.DecimalDigits.{digits_are_text}
use Rattle.command_words.proofs.NumberLemmas.{number_found, number_refused, leading_refused, digits_refused, free}
use Rattle.command_words.proofs.values.parse_number.Goals as goal

pub returns-then-has_leading_zero : goal.returns-then-has_leading_zero
returns-then-has_leading_zero c = leading_refused c.args.word.now (sym c.has_leading_zero.ensures ∙ c.if-has_leading_zero.true)

pub returns-then-not-all_digits : goal.returns-then-not-all_digits
returns-then-not-all_digits c = digits_refused c.args.word.now (sym c.all_digits.ensures ∙ c.if-not-all_digits.true)

pub returns-in_default : goal.returns-in_default
returns-in_default c = absurd (c.in_default.ensures.cases.0 (digits_are_text c.args.word.now (sym c.all_digits.ensures ∙ c.if-not-all_digits.false)))

pub returns-in-Ok-parse : goal.returns-in-Ok-parse
returns-in-Ok-parse c =
    number_found c.args.word.now c.in-Ok.digits.now c.parse.result c.in-Ok-parse.number c.in-Ok.ensures.cases.0 c.parse.ensures.value.0
    (free (sym c.has_leading_zero.ensures ∙ c.if-has_leading_zero.false)) (sym c.all_digits.ensures ∙ c.if-not-all_digits.false) c.in-Ok-parse.is

pub returns-in-Err : goal.returns-in-Err
returns-in-Err c =
    number_refused c.args.word.now c.in-Ok.digits.now c.parse.result c.in-Err._too_large c.in-Ok.ensures.cases.0 c.parse.ensures.value.0
    (sym c.all_digits.ensures ∙ c.if-not-all_digits.false) c.in-Err.is
