use Rattle.std.proofs.Common.{List, ℕ, ◌+◌, ◌*◌, ap, ap₂, sym, ◌∙◌}
use Rattle.aes_core.specs.Aes.{add_round_key, encrypted}
use Rattle.cipher_core.specs.Cmac.{chained}
use Rattle.cipher_core.proofs.Chain.{chained-more}
use Rattle.cipher_core.proofs.cmac.absorb_blocks.Goals as goal

pub loop-block-init : goal.loop-block-init
unfolding chained
loop-block-init c = c.from_bytes-state.ensures

pub loop-block-preserved : goal.loop-block-preserved
unfolding add_round_key
loop-block-preserved c =
    c.encrypt_columns-state.ensures ∙ ap (encrypted c.args.cipher.now) (c.with_key.ensures ∙ ap₂ add_round_key c.loop-block.invariant c.from_bytes-next.ensures) ∙ sym (chained-more _ _ _ _)
