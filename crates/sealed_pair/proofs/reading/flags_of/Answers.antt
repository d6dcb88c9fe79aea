use Rattle.std.proofs.Common.{rules}
use Rattle.sealed_pair.proofs.InfoLemmas.{info_absent, info_fails, info_given, info_reads, info_unread}
use Rattle.sealed_pair.proofs.reading.flags_of.Goals as goal

pub returns-in-Ok-clause-read : goal.returns-in-Ok-clause-read
returns-in-Ok-clause-read g c = info_reads g.K.Kv.rules_by g.met.K.Kv.by_rules 0 c.args.key.now _ _ _ (c.in-Ok.ensures 0)

pub returns-in-Ok-clause-holds : goal.returns-in-Ok-clause-holds
returns-in-Ok-clause-holds g c state tells =
    info_given g.K.Kv.rules_by g.met.K.Kv.by_rules 0 c.args.key.now _ _ state tells c.requires c.in-Ok.info.size c.in-Ok.info.flags (c.in-Ok.ensures 0)

pub returns-then-eq-clause-read : goal.returns-then-eq-clause-read
returns-then-eq-clause-read g c = info_reads g.K.Kv.rules_by g.met.K.Kv.by_rules 0 c.args.key.now _ _ _ (c.in-Err.ensures 0)

pub returns-then-eq-clause-holds : goal.returns-then-eq-clause-holds
returns-then-eq-clause-holds g c state tells =
    info_absent g.K.Kv.rules_by g.met.K.Kv.by_rules 0 c.args.key.now _ _ state tells c.requires c.in-Err.error (search rules) (c.in-Err.ensures 0)

pub returns-else-eq-clause-read : goal.returns-else-eq-clause-read
returns-else-eq-clause-read g c = info_reads g.K.Kv.rules_by g.met.K.Kv.by_rules 0 c.args.key.now _ _ _ (c.in-Err.ensures 0)

pub returns-else-eq-clause-refusal : goal.returns-else-eq-clause-refusal
returns-else-eq-clause-refusal g c = info_unread g.K.Kv.rules_by g.met.K.Kv.by_rules 0 c.args.key.now _ _ c.in-Err.error (c.in-Err.ensures 0)

pub returns-else-eq-clause-holds : goal.returns-else-eq-clause-holds
returns-else-eq-clause-holds g c state tells =
    info_fails g.K.Kv.rules_by g.met.K.Kv.by_rules 0 c.args.key.now _ _ state tells c.requires c.in-Err.error (search rules) (c.in-Err.ensures 0)
