use Rattle.std.proofs.Common.{◌≡◌, ◌*◌, length}
use Rattle.cipher_core.specs.Ctr.{advanced}
use Rattle.kv_bench.specs.Passes.{passed, first_state}
use Rattle.kv_bench.proofs.kernels.ctr_checksum.Given as goal

abbrev pub invariant-loop-round : goal.invariant-loop-round
invariant-loop-round l = record {
  state : l.stream ≡ advanced first_state (l._round * length l.fn.buffer);
  text : l.buffer ≡ passed first_state l.fn.buffer l._round;
}
