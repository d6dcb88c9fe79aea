use Rattle.std.proofs.Common.{arith}
use Rattle.ram_table.proofs.LetterLemmas.{in_range}
use Rattle.ram_table.proofs.tests.is_letter.Goals as goal

pub returns-in-97-to-99 : goal.returns-in-97-to-99
returns-in-97-to-99 c _ = in_range c.args.letter (omega arith) (omega arith)
