use Rattle.std.proofs.Common.{ap, sym, ◌∙◌, subst}
use Rattle.cipher_core.specs.Cmac.{CmacState, HasFed}
use Rattle.kv_bench.specs.Passes.{repeated}
use Rattle.kv_bench.proofs.Rounds.{repeated-more}
use Rattle.kv_bench.proofs.kernels.cmac_checksum.Goals as goal

pub loop-round-init : goal.loop-round-init
unfolding repeated
loop-round-init c = record { key = ap (λ (s : CmacState). s.key) c.new-stream.ensures.state; fed = c.new-stream.ensures.fed }

pub loop-round-preserved : goal.loop-round-preserved
loop-round-preserved c = record {
  key = c.update.ensures.key ∙ c.loop-round.invariant.key;
  fed = subst (HasFed c.update.new.self) (sym (repeated-more c.args.buffer.now c.loop-round._round)) (c.update.ensures.fed _ c.loop-round.invariant.fed);
}
