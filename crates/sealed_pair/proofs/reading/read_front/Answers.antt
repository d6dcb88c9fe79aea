use Rattle.std.proofs.Common.{rules}
use Rattle.sealed_pair.proofs.ReadingLemmas.{front_absent, front_begins, front_fails, has_read, is_unread}
use Rattle.sealed_pair.proofs.reading.read_front.Goals as goal

pub returns-in-Ok-clause-read : goal.returns-in-Ok-clause-read
returns-in-Ok-clause-read g c = has_read g.K.Kv.rules_by g.met.K.Kv.by_rules 0 c.args.key.now 0 _ _ _ _ (c.in-Ok.ensures.answers 0)

pub returns-in-Ok-clause-found : goal.returns-in-Ok-clause-found
returns-in-Ok-clause-found g c state tells =
    front_begins g.K.Kv.rules_by g.met.K.Kv.by_rules c.args.key.now _ _ state tells c.requires _ c.in-Ok.got c.get.new.buf c.get.auto.buf
    (c.in-Ok.ensures.answers 0) c.in-Ok.ensures.got

pub returns-then-eq-clause-read : goal.returns-then-eq-clause-read
returns-then-eq-clause-read g c = has_read g.K.Kv.rules_by g.met.K.Kv.by_rules 0 c.args.key.now 0 _ _ _ _ (c.in-Err.ensures.answers 0)

pub returns-then-eq-clause-found : goal.returns-then-eq-clause-found
returns-then-eq-clause-found g c state tells =
    front_absent g.K.Kv.rules_by g.met.K.Kv.by_rules c.args.key.now _ _ state tells c.requires _ c.in-Err.error (search rules) (c.in-Err.ensures.answers 0)

pub returns-else-eq-clause-read : goal.returns-else-eq-clause-read
returns-else-eq-clause-read g c = has_read g.K.Kv.rules_by g.met.K.Kv.by_rules 0 c.args.key.now 0 _ _ _ _ (c.in-Err.ensures.answers 0)

pub returns-else-eq-clause-refusal : goal.returns-else-eq-clause-refusal
returns-else-eq-clause-refusal g c = is_unread g.K.Kv.rules_by _ _ c.args.key.now 0 _ c.in-Err.error (c.in-Err.ensures.answers 0)

pub returns-else-eq-clause-found : goal.returns-else-eq-clause-found
returns-else-eq-clause-found g c state tells =
    front_fails g.K.Kv.rules_by g.met.K.Kv.by_rules c.args.key.now _ _ state tells c.requires _ c.in-Err.error (search rules) (c.in-Err.ensures.answers 0)
