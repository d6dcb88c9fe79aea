use Rattle.std.proofs.Common.{arith, IfOk, length}
use Rattle.kv_model.specs.declared.call.Reply.TheVariants.{Refused}
use Rattle.kv_model.specs.Given.{IsGot, got_or}
use Rattle.kv_model.specs.Kv.{Answers, KvState, answered}
use Rattle.kv_model.specs.Operations.{Part}
use Rattle.sealed_pair.specs.Active.{own_of}
use Rattle.sealed_pair.specs.SecureStep.{secure_rules}
use Rattle.sealed_pair.specs.Store.{joined_by}
use Rattle.sealed_pair.proofs.StoreReadLemmas.{got_by, owns_by, part_by, part_refused}
use Rattle.secure_store.proofs.SettleLemmas.{at_running, runs_plain}
use Rattle.secure_store.proofs.store.SecureStore.read.Goals as goal

pub returns-in-Ok-clause-answers : goal.returns-in-Ok-clause-answers
returns-in-Ok-clause-answers g c who =
    at_running c.args.self.now.stopped c.requires c.args.self.now.root (own_of c.args.self.now.iv c.args.self.now.active) (λ (one : KvState → KvState → KvState). Answers secure_rules (one (g.U.Kv.state c.args.self.now.primary) (g.R.Kv.state c.args.self.now.rollback))
    (one (g.U.Kv.state c.view_key.new.primary) (g.R.Kv.state c.view_key.new.rollback)) (answered who (Part c.args.key.now c.args.offset (length c.args.buf.now)) (got_or c.given_from.result c.view_key.new.buf)))
    (part_by c.args.self.now.root (own_of c.args.self.now.iv c.args.self.now.active) (g.U.Kv.state c.args.self.now.primary) (g.U.Kv.state c.view_key.new.primary) (g.R.Kv.state c.args.self.now.rollback) (g.R.Kv.state c.view_key.new.rollback)
    g.U.Kv.rules_by g.R.Kv.rules_by (runs_plain _ c.args.self.now.above c.requires) (runs_plain _ c.args.self.now.below c.requires) c.args.key.now c.in-Ok.ensures.primary c.in-Ok.ensures.rollback
    c.in-Ok.found c.args.offset _ c.view_key.new.buf c.view_key.auto.buf c.in-Ok.ensures.valid c.in-Ok.ensures.views c.given_from.result c.given_from.ensures who)

pub returns-in-Ok-clause-got : goal.returns-in-Ok-clause-got
returns-in-Ok-clause-got g c =
    at_running c.args.self.now.stopped c.requires c.args.self.now.root (own_of c.args.self.now.iv c.args.self.now.active) (λ (one : KvState → KvState → KvState). IfOk c.given_from.result (IsGot secure_rules
    (one (g.U.Kv.state c.args.self.now.primary) (g.R.Kv.state c.args.self.now.rollback)) c.args.key.now (length c.args.buf.now)))
    (got_by c.args.self.now.root (own_of c.args.self.now.iv c.args.self.now.active) (g.U.Kv.state c.args.self.now.primary) (g.U.Kv.state c.view_key.new.primary) (g.R.Kv.state c.args.self.now.rollback) (g.R.Kv.state c.view_key.new.rollback)
    g.U.Kv.rules_by g.R.Kv.rules_by (runs_plain _ c.args.self.now.above c.requires) (runs_plain _ c.args.self.now.below c.requires) c.args.key.now c.in-Ok.ensures.primary c.in-Ok.ensures.rollback
    c.in-Ok.found c.args.offset _ c.view_key.new.buf c.view_key.auto.buf c.in-Ok.ensures.valid c.in-Ok.ensures.views c.given_from.result c.given_from.ensures
    (omega (arith, c.in-Ok.ensures.foreign.authentic.gives.read, c.view_key.auto.buf)))

pub returns-in-Ok-clause-own : goal.returns-in-Ok-clause-own
returns-in-Ok-clause-own g c =
    owns_by c.args.self.now.root (own_of c.args.self.now.iv c.args.self.now.active) (g.U.Kv.state c.args.self.now.primary) (g.U.Kv.state c.view_key.new.primary) (g.R.Kv.state c.args.self.now.rollback) (g.R.Kv.state c.view_key.new.rollback)
    g.U.Kv.rules_by g.R.Kv.rules_by (runs_plain _ c.args.self.now.above c.requires) (runs_plain _ c.args.self.now.below c.requires) c.args.key.now c.in-Ok.ensures.primary c.in-Ok.ensures.rollback
    c.in-Ok.found c.args.offset _ c.view_key.new.buf c.view_key.auto.buf c.in-Ok.ensures.valid c.in-Ok.ensures.views c.given_from.result c.given_from.ensures c.in-Ok.ensures.foreign

pub returns-in-Err-clause-answers : goal.returns-in-Err-clause-answers
returns-in-Err-clause-answers g c who =
    at_running c.args.self.now.stopped c.requires c.args.self.now.root (own_of c.args.self.now.iv c.args.self.now.active) (λ (one : KvState → KvState → KvState). Answers secure_rules (one (g.U.Kv.state c.args.self.now.primary) (g.R.Kv.state c.args.self.now.rollback))
    (one (g.U.Kv.state c.view_key.new.primary) (g.R.Kv.state c.view_key.new.rollback)) (answered who (Part c.args.key.now c.args.offset (length c.args.buf.now)) (Refused c.in-Err.refusal)))
    (part_refused c.args.self.now.root (own_of c.args.self.now.iv c.args.self.now.active) (g.U.Kv.state c.args.self.now.primary) (g.U.Kv.state c.view_key.new.primary) (g.R.Kv.state c.args.self.now.rollback) (g.R.Kv.state c.view_key.new.rollback)
    g.U.Kv.rules_by g.R.Kv.rules_by (runs_plain _ c.args.self.now.above c.requires) (runs_plain _ c.args.self.now.below c.requires) c.args.key.now c.in-Err.ensures.primary c.in-Err.ensures.rollback
    who c.args.offset _ c.in-Err.refusal c.args.offset c.view_key.new.buf c.in-Err.ensures.valid (c.in-Err.ensures.refusal (joined_by (own_of c.args.self.now.iv c.args.self.now.active))) c.in-Err.ensures.views)
