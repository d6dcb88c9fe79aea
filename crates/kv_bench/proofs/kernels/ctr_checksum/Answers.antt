use Rattle.std.proofs.Common.{◌≡◌, ℕ, ◌+◌, ◌*◌, ◌%◌, length, refl, ap, ap₂, sym, ◌∙◌, arith}
use Rattle.cipher_core.specs.Ctr.{advanced, text_from, period}
use Rattle.cipher_core.specs.Cmac.{cmac}
use Rattle.kv_bench.specs.Passes.{passed, first_state}
use Rattle.kv_bench.specs.declared.kernels.TheConstants.{KEY}
use Rattle.kv_bench.proofs.Rounds.{repeated-one, passed-more, advanced-more}
use Rattle.kv_bench.proofs.kernels.ctr_checksum.Goals as goal

pub loop-round-init : goal.loop-round-init
unfolding passed
loop-round-init c =
    let none : 0 ≡ (0 + 0 * length c.args.buffer.now) % period = omega arith in
    record { state = c.new-stream.ensures ∙ ap (λ (p : ℕ). record first_state { place = p }) none; text = refl }

pub loop-round-preserved : goal.loop-round-preserved
loop-round-preserved c = record {
  state =
      c.update.ensures.state ∙ ap₂ advanced c.loop-round.invariant.state c.loop-round.auto.buffer
      ∙ advanced-more first_state c.loop-round._round (length c.args.buffer.now);
  text =
      c.update.ensures.text ∙ ap₂ text_from c.loop-round.invariant.state c.loop-round.invariant.text
      ∙ sym (passed-more first_state c.args.buffer.now c.loop-round._round);
}

pub returns : goal.returns
returns c =
    let end : c.loop-round._round ≡ c.args.rounds = omega arith in
    c.cmac_checksum.ensures
    ∙ ap (cmac KEY) (repeated-one c.loop-round.buffer ∙ c.loop-round.invariant.text ∙ ap (passed first_state c.args.buffer.now) end)
