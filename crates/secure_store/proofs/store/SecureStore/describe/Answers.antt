use Rattle.kv_model.specs.declared.call.Reply.TheVariants.{Facts, Refused}
use Rattle.kv_model.specs.Kv.{Answers, KvState, answered}
use Rattle.kv_model.specs.Operations.{Info}
use Rattle.sealed_pair.specs.Active.{own_of}
use Rattle.sealed_pair.specs.SecureStep.{secure_rules}
use Rattle.secure_store.proofs.SettleLemmas.{at_running, runs_plain}
use Rattle.sealed_pair.specs.Store.{joined_by}
use Rattle.sealed_pair.proofs.StoreReadLemmas.{facts_given, info_refused}
use Rattle.secure_store.proofs.store.SecureStore.describe.Goals as goal

pub returns-in-Ok-clause-answers : goal.returns-in-Ok-clause-answers
returns-in-Ok-clause-answers g c who =
    at_running c.args.self.now.stopped c.requires c.args.self.now.root (own_of c.args.self.now.iv c.args.self.now.active) (λ (one : KvState → KvState → KvState). Answers secure_rules (one (g.U.Kv.state c.args.self.now.primary) (g.R.Kv.state c.args.self.now.rollback))
    (one (g.U.Kv.state c.view_key.new.primary) (g.R.Kv.state c.view_key.new.rollback)) (answered who (Info c.args.key.now) (Facts c.in-Ok.found.size c.in-Ok.found.flags)))
    (facts_given c.args.self.now.root (own_of c.args.self.now.iv c.args.self.now.active) (g.U.Kv.state c.args.self.now.primary) (g.U.Kv.state c.view_key.new.primary) (g.R.Kv.state c.args.self.now.rollback) (g.R.Kv.state c.view_key.new.rollback)
    g.U.Kv.rules_by g.R.Kv.rules_by (runs_plain _ c.args.self.now.above c.requires) (runs_plain _ c.args.self.now.below c.requires) c.args.key.now c.in-Ok.ensures.primary c.in-Ok.ensures.rollback
    c.in-Ok.found 0 c.view_key.new.buf c.in-Ok.ensures.valid c.in-Ok.ensures.views who)

pub returns-in-Err-clause-answers : goal.returns-in-Err-clause-answers
returns-in-Err-clause-answers g c who =
    at_running c.args.self.now.stopped c.requires c.args.self.now.root (own_of c.args.self.now.iv c.args.self.now.active) (λ (one : KvState → KvState → KvState). Answers secure_rules (one (g.U.Kv.state c.args.self.now.primary) (g.R.Kv.state c.args.self.now.rollback))
    (one (g.U.Kv.state c.view_key.new.primary) (g.R.Kv.state c.view_key.new.rollback)) (answered who (Info c.args.key.now) (Refused c.in-Err.refusal)))
    (info_refused c.args.self.now.root (own_of c.args.self.now.iv c.args.self.now.active) (g.U.Kv.state c.args.self.now.primary) (g.U.Kv.state c.view_key.new.primary) (g.R.Kv.state c.args.self.now.rollback) (g.R.Kv.state c.view_key.new.rollback)
    g.U.Kv.rules_by g.R.Kv.rules_by (runs_plain _ c.args.self.now.above c.requires) (runs_plain _ c.args.self.now.below c.requires) c.args.key.now c.in-Err.ensures.primary c.in-Err.ensures.rollback
    who c.in-Err.refusal 0 c.view_key.new.buf c.in-Err.ensures.valid (c.in-Err.ensures.refusal (joined_by (own_of c.args.self.now.iv c.args.self.now.active))) c.in-Err.ensures.views)
