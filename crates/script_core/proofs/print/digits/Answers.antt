use Rattle.std.proofs.Common.{arith}
use Rattle.script_core.proofs.Printing.{IsHexWord-hex_word}
use Rattle.script_core.proofs.print.digits.Goals as goal

pub returns-then-is_empty-clause-again : goal.returns-then-is_empty-clause-again
returns-then-is_empty-clause-again c = IsHexWord-hex_word c.args.bytes.now (λ i. omega (arith, c.type_inv.bytes i))

pub returns-clause-again : goal.returns-clause-again
returns-clause-again c = IsHexWord-hex_word c.args.bytes.now (λ i. omega (arith, c.type_inv.bytes i))
