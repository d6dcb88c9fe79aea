use Rattle.std.proofs.Common.{◌≡◌}
use Rattle.aes_core.specs.Aes.{after_rounds}
use Rattle.aes_core.specs.Words.{bytes_of, first_key}
use Rattle.aes_core.proofs.Aes128.encrypt_columns.Given as goal

abbrev pub invariant-loop-i : goal.invariant-loop-i
invariant-loop-i l = bytes_of l.state ≡ after_rounds (first_key l.self-inside.round_keys) (bytes_of l.fn.block) l.i
