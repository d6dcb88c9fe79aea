use Rattle.std.proofs.Common.{ap, ◌∙◌}
use Rattle.aes_core.specs.Aes.{encrypted}
use Rattle.cipher_core.specs.Ctr.{counter_block}
use Rattle.cipher_core.proofs.ctr.key_stream_block.Goals as goal

pub returns : goal.returns
unfolding counter_block
returns c = c.encrypt.ensures ∙ ap (encrypted c.args.cipher.now) c.to_be_bytes-block.ensures
