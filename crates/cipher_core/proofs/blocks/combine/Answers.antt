use Rattle.std.proofs.Common.{arith}
use Rattle.aes_lanes.proofs.XorBytes.{xor_bytes-each}
use Rattle.cipher_core.proofs.blocks.combine.Goals as goal

pub returns : goal.returns
returns c = xor_bytes-each _ _ _ c.loop-i.invariant.long c.requires (λ k h. c.loop-i.invariant.done k (omega (arith, h)))
