use Rattle.std.proofs.Common.{arith}
use Rattle.command_words.proofs.NumberLemmas.{large_refused}
use Rattle.command_words.proofs.values.parse_short.Goals as goal

pub returns-then-number-gt4294967295 : goal.returns-then-number-gt4294967295
returns-then-number-gt4294967295 c = λ y h. large_refused c.args.word.now c.in_ok-number.number 4294967295 y c.in_ok-number.ensures (omega arith) (omega arith) (omega arith) h.1
