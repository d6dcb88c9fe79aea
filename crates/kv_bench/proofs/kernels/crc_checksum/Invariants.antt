use Rattle.std.proofs.Common.{◌≡◌}
use Rattle.kv_model.specs.Crc.{crc_of}
use Rattle.kv_bench.specs.Passes.{repeated}
use Rattle.kv_bench.proofs.kernels.crc_checksum.Given as goal

abbrev pub invariant-loop-round : goal.invariant-loop-round
invariant-loop-round l = l.sum ≡ crc_of (repeated l.buffer l._round)
