use Rattle.std.proofs.Common.{◌≡◌, length}
use Rattle.aes_core.specs.Words.{AreRoundKeys}
use Rattle.aes_core.proofs.Aes128.new.Given as goal

abbrev pub invariant-loop-i : goal.invariant-loop-i
invariant-loop-i l = record { known : AreRoundKeys l.key l.i l.round_keys; long : length l.round_keys ≡ 11 }
