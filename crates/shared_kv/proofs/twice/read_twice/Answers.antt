use Rattle.shared_kv.proofs.ReadLemmas.{unread}
use Rattle.shared_kv.proofs.twice.read_twice.Goals as goal

pub returns-in-Err-clause-performs : goal.returns-in-Err-clause-performs
returns-in-Err-clause-performs g c =
    unread g.K.Kv.rules_by g.met.K.Kv.by_rules (g.K.Kv.state c.args.store.now) (g.K.Kv.state c.perform.new.store) c.args.who c.in_ok-reply.reply
    c.in-Err.ensures.memory c.args.call.now c.in-Err.none c.requires.reads c.in_ok-reply.ensures.performs
