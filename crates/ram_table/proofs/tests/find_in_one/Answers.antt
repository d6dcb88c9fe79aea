use Rattle.std.proofs.Common.{arith}
use Rattle.ram_table.proofs.LetterLemmas.{in_range}
use Rattle.ram_table.proofs.tests.find_in_one.Goals as goal

pub letter_key-requires : goal.letter_key-requires
letter_key-requires g c = in_range 97 (omega arith) (omega arith)
