use Rattle.std.proofs.Common.{◌∙◌}
use Rattle.secure_record.proofs.BodyLemmas.{HasTaken-tag}
use Rattle.secure_record.proofs.body.BodyStream.finish.Goals as goal

pub returns : goal.returns
returns c root key m bytes h = c.finish.ensures.cmac _ h.fed ∙ HasTaken-tag c.args.self root key m bytes h
