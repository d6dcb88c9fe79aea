use Rattle.std.proofs.Common.{sym, ◌∙◌}
use Rattle.script_core.proofs.DecimalDigits.{digits_are_text, parse_refuses}
use Rattle.script_core.proofs.fields.number.Goals as goal

pub returns-in_default : goal.returns-in_default
returns-in_default c = absurd (c.in_default.ensures.cases.0 (digits_are_text c.args.word.now (sym c.all_digits.ensures ∙ c.if-not-all_digits.false)))

pub returns-in-Err : goal.returns-in-Err
returns-in-Err c = parse_refuses c.args.word.now c.in-Ok.digits.now c.parse.result c.in-Err.field-0 c.in-Ok.ensures.cases.0 c.parse.ensures.value.0 c.in-Err.is (sym c.all_digits.ensures ∙ c.if-not-all_digits.false)
