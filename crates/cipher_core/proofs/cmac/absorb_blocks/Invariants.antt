use Rattle.std.proofs.Common.{◌≡◌}
use Rattle.aes_core.specs.Words.{bytes_of}
use Rattle.cipher_core.specs.Cmac.{chained}
use Rattle.cipher_core.proofs.cmac.absorb_blocks.Given as goal

abbrev pub invariant-loop-block : goal.invariant-loop-block
invariant-loop-block l = bytes_of l.state ≡ chained l.cipher l.fn.chain l.bytes l.block
