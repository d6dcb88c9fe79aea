use Rattle.std.proofs.Common.{rules, ◌≡◌, false}
use Rattle.std.specs.Prelude.{is_some}
use Rattle.kv_model.specs.declared.call.Reply.TheVariants.{Done}
use Rattle.kv_model.specs.Kv.{answered}
use Rattle.kv_model.specs.Operations.{Abort}
use Rattle.sealed_pair.proofs.EndingLemmas.{ended_by}
use Rattle.secure_store.proofs.SettleLemmas.{done_above, done_answers, done_below, not_stopped, some_or_none}
use Rattle.secure_store.proofs.store.SecureStore.set_abort.Goals as goal

pub returns-in-Some-clause-answers : goal.returns-in-Some-clause-answers
returns-in-Some-clause-answers g c =
    let none : is_some c.args.self.now.stopped ≡ false = search rules in
    done_answers c.args.self.now.stopped (some_or_none _ c.args.self.now.stopped none) c.args.self.now.root c.args.self.now.iv c.args.self.now.active g.U.Kv.rules_by g.R.Kv.rules_by
    (g.U.Kv.state c.args.self.now.primary) (g.R.Kv.state c.args.self.now.rollback) (g.U.Kv.state c.abort_both.new.primary) (g.R.Kv.state c.abort_both.new.rollback)
    c.args.self.now.above c.args.self.now.below c.args.who Abort c.args.self.now.iv c.take_own.new.active (ended_by c.args.self.now.root c.args.self.now.iv g.U.Kv.rules_by g.R.Kv.rules_by
    (g.U.Kv.state c.args.self.now.primary) (g.R.Kv.state c.args.self.now.rollback) (g.U.Kv.state c.abort_both.new.primary) (g.R.Kv.state c.abort_both.new.rollback)
    (answered c.args.who Abort Done) c.args.self.now.active c.take_own.new.active c.in-Some.field-0 c.in-Some.ensures.0 c.in-Some.ensures.1.0 (c.abort_both.ensures c.args.self.now.root c.args.self.now.iv c.in-Some.field-0 c.in-Some.ensures.1.1))

pub invariant_of-self-in-Some-clause-above : goal.invariant_of-self-in-Some-clause-above
invariant_of-self-in-Some-clause-above g c =
    let none : is_some c.args.self.now.stopped ≡ false = search rules in
    done_above c.args.self.now.stopped (some_or_none _ c.args.self.now.stopped none) c.args.self.now.root c.args.self.now.iv c.args.self.now.active g.U.Kv.rules_by g.R.Kv.rules_by
    (g.U.Kv.state c.args.self.now.primary) (g.R.Kv.state c.args.self.now.rollback) (g.U.Kv.state c.abort_both.new.primary) (g.R.Kv.state c.abort_both.new.rollback)
    c.args.self.now.above c.args.self.now.below c.args.who Abort c.args.self.now.iv c.take_own.new.active (ended_by c.args.self.now.root c.args.self.now.iv g.U.Kv.rules_by g.R.Kv.rules_by
    (g.U.Kv.state c.args.self.now.primary) (g.R.Kv.state c.args.self.now.rollback) (g.U.Kv.state c.abort_both.new.primary) (g.R.Kv.state c.abort_both.new.rollback)
    (answered c.args.who Abort Done) c.args.self.now.active c.take_own.new.active c.in-Some.field-0 c.in-Some.ensures.0 c.in-Some.ensures.1.0 (c.abort_both.ensures c.args.self.now.root c.args.self.now.iv c.in-Some.field-0 c.in-Some.ensures.1.1))

pub invariant_of-self-in-Some-clause-below : goal.invariant_of-self-in-Some-clause-below
invariant_of-self-in-Some-clause-below g c =
    let none : is_some c.args.self.now.stopped ≡ false = search rules in
    done_below c.args.self.now.stopped (some_or_none _ c.args.self.now.stopped none) c.args.self.now.root c.args.self.now.iv c.args.self.now.active g.U.Kv.rules_by g.R.Kv.rules_by
    (g.U.Kv.state c.args.self.now.primary) (g.R.Kv.state c.args.self.now.rollback) (g.U.Kv.state c.abort_both.new.primary) (g.R.Kv.state c.abort_both.new.rollback)
    c.args.self.now.above c.args.self.now.below c.args.who Abort c.args.self.now.iv c.take_own.new.active (ended_by c.args.self.now.root c.args.self.now.iv g.U.Kv.rules_by g.R.Kv.rules_by
    (g.U.Kv.state c.args.self.now.primary) (g.R.Kv.state c.args.self.now.rollback) (g.U.Kv.state c.abort_both.new.primary) (g.R.Kv.state c.abort_both.new.rollback)
    (answered c.args.who Abort Done) c.args.self.now.active c.take_own.new.active c.in-Some.field-0 c.in-Some.ensures.0 c.in-Some.ensures.1.0 (c.abort_both.ensures c.args.self.now.root c.args.self.now.iv c.in-Some.field-0 c.in-Some.ensures.1.1))

pub invariant_of-self-in-Some-clause-in_doubt : goal.invariant_of-self-in-Some-clause-in_doubt
invariant_of-self-in-Some-clause-in_doubt g c =
    let none : is_some c.args.self.now.stopped ≡ false = search rules in
    not_stopped c.args.self.now.stopped (some_or_none _ c.args.self.now.stopped none) _ _ _
