use Rattle.std.proofs.Common.{rules}
use Rattle.kv_tools.proofs.LiveLemmas.{key_removed}
use Rattle.kv_tools.proofs.live.Live.remove.Goals as goal

pub returns-clause-stands : goal.returns-clause-stands
returns-clause-stands c prog m stands = key_removed prog c.args.self.now _ m stands c.args.key.now c.remove.result c.remove.ensures.value c.remove.ensures.updates c.remove.ensures.len (search rules)
