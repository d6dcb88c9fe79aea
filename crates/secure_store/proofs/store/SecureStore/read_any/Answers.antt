use Rattle.std.proofs.Common.{List, ℕ, IfOk, length, subst}
use Rattle.kv_model.specs.declared.call.Got.{Got}
use Rattle.kv_model.specs.declared.call.Reply.TheVariants.{Refused}
use Rattle.kv_model.specs.Given.{IsGot, got_or}
use Rattle.kv_model.specs.Kv.{Answers, KvState, answered}
use Rattle.kv_model.specs.Operations.{Part}
use Rattle.secure_store.specs.SecureState.{state_in}
use Rattle.sealed_pair.specs.SecureStep.{secure_rules}
use Rattle.sealed_pair.specs.Store.{OwnsWhole}
use Rattle.sealed_pair.specs.Active.{own_of}
use Rattle.secure_store.proofs.SettleLemmas.{at_running}
use Rattle.sealed_pair.proofs.StoreReadLemmas.{part_bad}
use Rattle.secure_store.proofs.store.SecureStore.read_any.Goals as goal

pub returns-in-Ok-clause-answers : goal.returns-in-Ok-clause-answers
returns-in-Ok-clause-answers g c who =
    subst (λ (k : List ℕ). Answers secure_rules (state_in c.args.self.now) (state_in c.read.new.self) (answered who (Part k c.args.offset (length c.args.buf.now)) (got_or c.read.result c.read.new.buf)))
    c.in-Ok.ensures.0 (c.read.ensures.answers who)

pub returns-in-Ok-clause-got : goal.returns-in-Ok-clause-got
returns-in-Ok-clause-got g c =
    subst (λ (k : List ℕ). IfOk c.read.result (IsGot secure_rules (state_in c.args.self.now) k (length c.args.buf.now))) c.in-Ok.ensures.0 c.read.ensures.got

pub returns-in-Ok-clause-own : goal.returns-in-Ok-clause-own
returns-in-Ok-clause-own g c =
    subst (λ (k : List ℕ). IfOk c.read.result (λ (got : Got). OwnsWhole c.args.self.now.root k (g.R.Kv.state c.args.self.now.rollback) c.args.offset got c.read.new.buf)) c.in-Ok.ensures.0
    c.read.ensures.own

pub returns-in-Err-clause-answers : goal.returns-in-Err-clause-answers
returns-in-Err-clause-answers g c who =
    at_running c.args.self.now.stopped c.requires c.args.self.now.root (own_of c.args.self.now.iv c.args.self.now.active) (λ (one : KvState → KvState → KvState). Answers secure_rules
    (one (g.U.Kv.state c.args.self.now.primary) (g.R.Kv.state c.args.self.now.rollback))
    (one (g.U.Kv.state c.args.self.now.primary) (g.R.Kv.state c.args.self.now.rollback))
    (answered who (Part c.args.key.now c.args.offset (length c.args.buf.now)) (Refused c.in-Err.refusal)))
    (part_bad c.args.self.now.root (own_of c.args.self.now.iv c.args.self.now.active) (g.U.Kv.state c.args.self.now.primary) (g.R.Kv.state c.args.self.now.rollback) who c.args.key.now c.args.offset
    (length c.args.buf.now) c.in-Err.refusal c.in-Err.ensures)
