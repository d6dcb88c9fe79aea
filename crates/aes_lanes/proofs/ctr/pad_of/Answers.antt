use Rattle.std.proofs.Common.{ap, ◌∙◌}
use Rattle.aes_core.specs.Aes.{encrypted}
use Rattle.aes_lanes.proofs.ctr.pad_of.Goals as goal

pub returns : goal.returns
returns c = c.encrypt.ensures ∙ ap (encrypted c.args.aes.now) c.to_be_bytes-block.ensures
