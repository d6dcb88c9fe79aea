use Rattle.session_core.proofs.MountLemmas.{told_log}
use Rattle.session_core.proofs.session.Session.into_image.Goals as goal

pub returns-clause-log : goal.returns-clause-log
returns-clause-log c = let self = c.args.self in told_log self.hash_bits self.store self.chips
