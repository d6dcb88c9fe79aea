use Rattle.std.proofs.Common.{◌≡◌}
use Rattle.cipher_core.specs.Cmac.{HasFed}
use Rattle.kv_bench.specs.Passes.{repeated}
use Rattle.kv_bench.specs.declared.kernels.TheConstants.{KEY}
use Rattle.kv_bench.proofs.kernels.cmac_checksum.Given as goal

abbrev pub invariant-loop-round : goal.invariant-loop-round
invariant-loop-round l = record { key : l.stream.key ≡ KEY; fed : HasFed l.stream (repeated l.buffer l._round) }
