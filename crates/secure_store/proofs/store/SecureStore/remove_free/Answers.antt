use Rattle.std.proofs.Common.{rules, ◌≡◌, ap}
use Rattle.std.specs.Prelude.{is_none}
use Rattle.kv_model.specs.declared.error.KvError.TheVariants.{WriteFault}
use Rattle.kv_model.specs.Operations.{Remove}
use Rattle.sealed_pair.specs.Active.{own_of}
use Rattle.secure_store.proofs.SettleLemmas.{done_above, done_answers, done_below, not_stopped, refusal_above, refusal_answers, refusal_below, run_free, stopped_by, stops_by, while_stopped}
use Rattle.secure_store.proofs.store.SecureStore.remove_free.Goals as goal

pub returns-in-Ok-clause-answers : goal.returns-in-Ok-clause-answers
returns-in-Ok-clause-answers g c =
    done_answers c.args.self.now.stopped c.requires.running c.args.self.now.root c.args.self.now.iv c.args.self.now.active g.U.Kv.rules_by g.R.Kv.rules_by
    (g.U.Kv.state c.args.self.now.primary) (g.R.Kv.state c.args.self.now.rollback) (g.U.Kv.state c.remove_both.new.primary) (g.R.Kv.state c.remove_both.new.rollback)
    c.args.self.now.above c.args.self.now.below c.args.who (Remove c.args.key.now) c.args.self.now.iv c.args.self.now.active (run_free c.args.self.now.active (ap is_none c.requires.free) c.args.self.now.root c.args.self.now.iv c.args.self.now.iv g.U.Kv.rules_by g.R.Kv.rules_by
    (g.U.Kv.state c.args.self.now.primary) (g.R.Kv.state c.args.self.now.rollback) (g.U.Kv.state c.remove_both.new.primary) (g.R.Kv.state c.remove_both.new.rollback) _ (c.in-Ok.ensures c.args.self.now.root c.args.self.now.iv))

pub invariant_of-self-clause-above : goal.invariant_of-self-clause-above
invariant_of-self-clause-above g c =
    done_above c.args.self.now.stopped c.requires.running c.args.self.now.root c.args.self.now.iv c.args.self.now.active g.U.Kv.rules_by g.R.Kv.rules_by
    (g.U.Kv.state c.args.self.now.primary) (g.R.Kv.state c.args.self.now.rollback) (g.U.Kv.state c.remove_both.new.primary) (g.R.Kv.state c.remove_both.new.rollback)
    c.args.self.now.above c.args.self.now.below c.args.who (Remove c.args.key.now) c.args.self.now.iv c.args.self.now.active (run_free c.args.self.now.active (ap is_none c.requires.free) c.args.self.now.root c.args.self.now.iv c.args.self.now.iv g.U.Kv.rules_by g.R.Kv.rules_by
    (g.U.Kv.state c.args.self.now.primary) (g.R.Kv.state c.args.self.now.rollback) (g.U.Kv.state c.remove_both.new.primary) (g.R.Kv.state c.remove_both.new.rollback) _ (c.in-Ok.ensures c.args.self.now.root c.args.self.now.iv))

pub invariant_of-self-clause-below : goal.invariant_of-self-clause-below
invariant_of-self-clause-below g c =
    done_below c.args.self.now.stopped c.requires.running c.args.self.now.root c.args.self.now.iv c.args.self.now.active g.U.Kv.rules_by g.R.Kv.rules_by
    (g.U.Kv.state c.args.self.now.primary) (g.R.Kv.state c.args.self.now.rollback) (g.U.Kv.state c.remove_both.new.primary) (g.R.Kv.state c.remove_both.new.rollback)
    c.args.self.now.above c.args.self.now.below c.args.who (Remove c.args.key.now) c.args.self.now.iv c.args.self.now.active (run_free c.args.self.now.active (ap is_none c.requires.free) c.args.self.now.root c.args.self.now.iv c.args.self.now.iv g.U.Kv.rules_by g.R.Kv.rules_by
    (g.U.Kv.state c.args.self.now.primary) (g.R.Kv.state c.args.self.now.rollback) (g.U.Kv.state c.remove_both.new.primary) (g.R.Kv.state c.remove_both.new.rollback) _ (c.in-Ok.ensures c.args.self.now.root c.args.self.now.iv))

pub invariant_of-self-clause-in_doubt : goal.invariant_of-self-clause-in_doubt
invariant_of-self-clause-in_doubt g c =
    not_stopped c.args.self.now.stopped c.requires.running _ _ _

pub returns-else-eq-clause-answers : goal.returns-else-eq-clause-answers
returns-else-eq-clause-answers g c =
    let other : c.in-Err.refusal ≡ WriteFault → ⊥ = search rules in
    refusal_answers c.args.self.now.stopped c.requires.running c.args.self.now.root c.args.self.now.iv c.args.self.now.active g.U.Kv.rules_by g.R.Kv.rules_by
    (g.U.Kv.state c.args.self.now.primary) (g.R.Kv.state c.args.self.now.rollback) (g.U.Kv.state c.remove_both.new.primary) (g.R.Kv.state c.remove_both.new.rollback)
    c.args.self.now.above c.args.self.now.below c.args.who (Remove c.args.key.now) c.args.self.now.iv c.args.self.now.active c.in-Err.refusal other (run_free c.args.self.now.active (ap is_none c.requires.free) c.args.self.now.root c.args.self.now.iv c.args.self.now.iv g.U.Kv.rules_by g.R.Kv.rules_by
    (g.U.Kv.state c.args.self.now.primary) (g.R.Kv.state c.args.self.now.rollback) (g.U.Kv.state c.remove_both.new.primary) (g.R.Kv.state c.remove_both.new.rollback) _ (c.in-Err.ensures c.args.self.now.root c.args.self.now.iv))

pub invariant_of-self-else-eq-clause-above : goal.invariant_of-self-else-eq-clause-above
invariant_of-self-else-eq-clause-above g c =
    let other : c.in-Err.refusal ≡ WriteFault → ⊥ = search rules in
    refusal_above c.args.self.now.stopped c.requires.running c.args.self.now.root c.args.self.now.iv c.args.self.now.active g.U.Kv.rules_by g.R.Kv.rules_by
    (g.U.Kv.state c.args.self.now.primary) (g.R.Kv.state c.args.self.now.rollback) (g.U.Kv.state c.remove_both.new.primary) (g.R.Kv.state c.remove_both.new.rollback)
    c.args.self.now.above c.args.self.now.below c.args.who (Remove c.args.key.now) c.args.self.now.iv c.args.self.now.active c.in-Err.refusal other (run_free c.args.self.now.active (ap is_none c.requires.free) c.args.self.now.root c.args.self.now.iv c.args.self.now.iv g.U.Kv.rules_by g.R.Kv.rules_by
    (g.U.Kv.state c.args.self.now.primary) (g.R.Kv.state c.args.self.now.rollback) (g.U.Kv.state c.remove_both.new.primary) (g.R.Kv.state c.remove_both.new.rollback) _ (c.in-Err.ensures c.args.self.now.root c.args.self.now.iv))

pub invariant_of-self-else-eq-clause-below : goal.invariant_of-self-else-eq-clause-below
invariant_of-self-else-eq-clause-below g c =
    let other : c.in-Err.refusal ≡ WriteFault → ⊥ = search rules in
    refusal_below c.args.self.now.stopped c.requires.running c.args.self.now.root c.args.self.now.iv c.args.self.now.active g.U.Kv.rules_by g.R.Kv.rules_by
    (g.U.Kv.state c.args.self.now.primary) (g.R.Kv.state c.args.self.now.rollback) (g.U.Kv.state c.remove_both.new.primary) (g.R.Kv.state c.remove_both.new.rollback)
    c.args.self.now.above c.args.self.now.below c.args.who (Remove c.args.key.now) c.args.self.now.iv c.args.self.now.active c.in-Err.refusal other (run_free c.args.self.now.active (ap is_none c.requires.free) c.args.self.now.root c.args.self.now.iv c.args.self.now.iv g.U.Kv.rules_by g.R.Kv.rules_by
    (g.U.Kv.state c.args.self.now.primary) (g.R.Kv.state c.args.self.now.rollback) (g.U.Kv.state c.remove_both.new.primary) (g.R.Kv.state c.remove_both.new.rollback) _ (c.in-Err.ensures c.args.self.now.root c.args.self.now.iv))

pub invariant_of-self-else-eq-clause-in_doubt : goal.invariant_of-self-else-eq-clause-in_doubt
invariant_of-self-else-eq-clause-in_doubt g c =
    not_stopped c.args.self.now.stopped c.requires.running _ _ _

pub returns-then-eq-clause-answers : goal.returns-then-eq-clause-answers
returns-then-eq-clause-answers g c =
    let fault : c.in-Err.refusal ≡ WriteFault = search rules in
    stopped_by c.args.self.now.stopped c.requires.running c.args.self.now.root c.args.self.now.iv c.args.self.now.active g.U.Kv.rules_by g.R.Kv.rules_by
    (g.U.Kv.state c.args.self.now.primary) (g.R.Kv.state c.args.self.now.rollback) (g.U.Kv.state c.remove_both.new.primary) (g.R.Kv.state c.remove_both.new.rollback)
    c.args.self.now.above c.args.self.now.below c.args.who (Remove c.args.key.now) c.in-Err.refusal fault c.args.self.now.active (run_free c.args.self.now.active (ap is_none c.requires.free) c.args.self.now.root c.args.self.now.iv c.args.self.now.iv g.U.Kv.rules_by g.R.Kv.rules_by
    (g.U.Kv.state c.args.self.now.primary) (g.R.Kv.state c.args.self.now.rollback) (g.U.Kv.state c.remove_both.new.primary) (g.R.Kv.state c.remove_both.new.rollback) _ (c.in-Err.ensures c.args.self.now.root c.args.self.now.iv))
    (own_of c.args.self.now.iv c.args.self.now.active) c.in_doubt-note.result c.in_doubt-note.ensures

pub invariant_of-self-then-eq-clause-above : goal.invariant_of-self-then-eq-clause-above
invariant_of-self-then-eq-clause-above g c =
    while_stopped _ c.args.self.now.above (c.in-Err.ensures c.args.self.now.root c.args.self.now.iv).above.tells_state

pub invariant_of-self-then-eq-clause-below : goal.invariant_of-self-then-eq-clause-below
invariant_of-self-then-eq-clause-below g c =
    while_stopped _ c.args.self.now.below (c.in-Err.ensures c.args.self.now.root c.args.self.now.iv).below.tells_state

pub invariant_of-self-then-eq-clause-in_doubt : goal.invariant_of-self-then-eq-clause-in_doubt
invariant_of-self-then-eq-clause-in_doubt g c =
    let fault : c.in-Err.refusal ≡ WriteFault = search rules in
    stops_by c.args.self.now.stopped c.requires.running c.args.self.now.root c.args.self.now.iv c.args.self.now.active g.U.Kv.rules_by g.R.Kv.rules_by
    (g.U.Kv.state c.args.self.now.primary) (g.R.Kv.state c.args.self.now.rollback) (g.U.Kv.state c.remove_both.new.primary) (g.R.Kv.state c.remove_both.new.rollback)
    c.args.self.now.above c.args.self.now.below c.args.who (Remove c.args.key.now) c.in-Err.refusal fault c.args.self.now.active (run_free c.args.self.now.active (ap is_none c.requires.free) c.args.self.now.root c.args.self.now.iv c.args.self.now.iv g.U.Kv.rules_by g.R.Kv.rules_by
    (g.U.Kv.state c.args.self.now.primary) (g.R.Kv.state c.args.self.now.rollback) (g.U.Kv.state c.remove_both.new.primary) (g.R.Kv.state c.remove_both.new.rollback) _ (c.in-Err.ensures c.args.self.now.root c.args.self.now.iv)) c.in_doubt-note.result c.in_doubt-note.ensures
