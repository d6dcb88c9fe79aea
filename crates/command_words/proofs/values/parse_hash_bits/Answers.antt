use Rattle.std.proofs.Common.{arith}
use Rattle.command_words.proofs.NumberLemmas.{large_refused}
use Rattle.command_words.proofs.values.parse_hash_bits.Goals as goal

pub returns-then-number-gt32 : goal.returns-then-number-gt32
returns-then-number-gt32 c = λ y h. large_refused c.args.word.now c.in_ok-number.number 32 y c.in_ok-number.ensures (omega arith) (omega arith) h.0 h.1
