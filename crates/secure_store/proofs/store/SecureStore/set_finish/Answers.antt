use Rattle.std.proofs.Common.{rules, ◌≡◌, false, refl, sym, subst}
use Rattle.std.specs.Prelude.{is_some}
use Rattle.kv_model.specs.declared.error.KvError.TheVariants.{WriteFault}
use Rattle.kv_model.specs.declared.call.Reply.TheVariants.{Done, Refused}
use Rattle.kv_model.specs.Kv.{answered}
use Rattle.kv_model.specs.Operations.{Finish}
use Rattle.sealed_pair.specs.Active.{IsActive, own_of}
use Rattle.sealed_pair.proofs.EndingLemmas.{finished_by}
use Rattle.secure_store.proofs.AddingLemmas.{begun_in, counted_in}
use Rattle.secure_store.proofs.SettleLemmas.{done_above, done_answers, done_below, not_stopped, refusal_above, refusal_answers, refusal_below, some_or_none, stopped_by, stops_by, while_stopped}
use Rattle.secure_store.proofs.store.SecureStore.set_finish.Goals as goal

pub returns-in-Ok-clause-answers : goal.returns-in-Ok-clause-answers
returns-in-Ok-clause-answers g c =
    let none : is_some c.args.self.now.stopped ≡ false = search rules in
    done_answers c.args.self.now.stopped (some_or_none _ c.args.self.now.stopped none) c.args.self.now.root c.args.self.now.iv c.args.self.now.active g.U.Kv.rules_by g.R.Kv.rules_by
    (g.U.Kv.state c.args.self.now.primary) (g.R.Kv.state c.args.self.now.rollback) (g.U.Kv.state c.finish_both.new.primary) (g.R.Kv.state c.finish_both.new.rollback)
    c.args.self.now.above c.args.self.now.below c.args.who Finish c.args.self.now.iv c.take_own.new.active
    (finished_by c.args.self.now.root c.args.self.now.iv g.U.Kv.rules_by g.R.Kv.rules_by (g.U.Kv.state c.args.self.now.primary) (g.R.Kv.state c.args.self.now.rollback) (g.U.Kv.state c.finish_both.new.primary) (g.R.Kv.state c.finish_both.new.rollback) (answered c.args.who Finish Done) c.args.self.now.active c.take_own.new.active c.in-Some.active c.in-Some.ensures.0 c.in-Some.ensures.1.0
    c.args.who Finish Done c.in-Some.ensures.1.1 refl (c.in-Ok.ensures c.args.self.now.root c.args.self.now.iv (begun_in c.args.self.now.root c.args.self.now.iv c.args.self.now.active c.in-Some.active c.in-Some.ensures.0 c.args.self.now.sealing)))

pub invariant_of-self-in-Ok-clause-above : goal.invariant_of-self-in-Ok-clause-above
invariant_of-self-in-Ok-clause-above g c =
    let none : is_some c.args.self.now.stopped ≡ false = search rules in
    done_above c.args.self.now.stopped (some_or_none _ c.args.self.now.stopped none) c.args.self.now.root c.args.self.now.iv c.args.self.now.active g.U.Kv.rules_by g.R.Kv.rules_by
    (g.U.Kv.state c.args.self.now.primary) (g.R.Kv.state c.args.self.now.rollback) (g.U.Kv.state c.finish_both.new.primary) (g.R.Kv.state c.finish_both.new.rollback)
    c.args.self.now.above c.args.self.now.below c.args.who Finish c.args.self.now.iv c.take_own.new.active
    (finished_by c.args.self.now.root c.args.self.now.iv g.U.Kv.rules_by g.R.Kv.rules_by (g.U.Kv.state c.args.self.now.primary) (g.R.Kv.state c.args.self.now.rollback) (g.U.Kv.state c.finish_both.new.primary) (g.R.Kv.state c.finish_both.new.rollback) (answered c.args.who Finish Done) c.args.self.now.active c.take_own.new.active c.in-Some.active c.in-Some.ensures.0 c.in-Some.ensures.1.0
    c.args.who Finish Done c.in-Some.ensures.1.1 refl (c.in-Ok.ensures c.args.self.now.root c.args.self.now.iv (begun_in c.args.self.now.root c.args.self.now.iv c.args.self.now.active c.in-Some.active c.in-Some.ensures.0 c.args.self.now.sealing)))

pub invariant_of-self-in-Ok-clause-below : goal.invariant_of-self-in-Ok-clause-below
invariant_of-self-in-Ok-clause-below g c =
    let none : is_some c.args.self.now.stopped ≡ false = search rules in
    done_below c.args.self.now.stopped (some_or_none _ c.args.self.now.stopped none) c.args.self.now.root c.args.self.now.iv c.args.self.now.active g.U.Kv.rules_by g.R.Kv.rules_by
    (g.U.Kv.state c.args.self.now.primary) (g.R.Kv.state c.args.self.now.rollback) (g.U.Kv.state c.finish_both.new.primary) (g.R.Kv.state c.finish_both.new.rollback)
    c.args.self.now.above c.args.self.now.below c.args.who Finish c.args.self.now.iv c.take_own.new.active
    (finished_by c.args.self.now.root c.args.self.now.iv g.U.Kv.rules_by g.R.Kv.rules_by (g.U.Kv.state c.args.self.now.primary) (g.R.Kv.state c.args.self.now.rollback) (g.U.Kv.state c.finish_both.new.primary) (g.R.Kv.state c.finish_both.new.rollback) (answered c.args.who Finish Done) c.args.self.now.active c.take_own.new.active c.in-Some.active c.in-Some.ensures.0 c.in-Some.ensures.1.0
    c.args.who Finish Done c.in-Some.ensures.1.1 refl (c.in-Ok.ensures c.args.self.now.root c.args.self.now.iv (begun_in c.args.self.now.root c.args.self.now.iv c.args.self.now.active c.in-Some.active c.in-Some.ensures.0 c.args.self.now.sealing)))

pub invariant_of-self-in-Ok-clause-in_doubt : goal.invariant_of-self-in-Ok-clause-in_doubt
invariant_of-self-in-Ok-clause-in_doubt g c =
    let none : is_some c.args.self.now.stopped ≡ false = search rules in
    not_stopped c.args.self.now.stopped (some_or_none _ c.args.self.now.stopped none) _ _ _

pub returns-else-eq-clause-answers : goal.returns-else-eq-clause-answers
returns-else-eq-clause-answers g c =
    let none : is_some c.args.self.now.stopped ≡ false = search rules in
    let other : c.in-Err.refusal ≡ WriteFault → ⊥ = search rules in
    refusal_answers c.args.self.now.stopped (some_or_none _ c.args.self.now.stopped none) c.args.self.now.root c.args.self.now.iv c.args.self.now.active g.U.Kv.rules_by g.R.Kv.rules_by
    (g.U.Kv.state c.args.self.now.primary) (g.R.Kv.state c.args.self.now.rollback) (g.U.Kv.state c.finish_both.new.primary) (g.R.Kv.state c.finish_both.new.rollback)
    c.args.self.now.above c.args.self.now.below c.args.who Finish c.args.self.now.iv c.take_own.new.active c.in-Err.refusal other
    (finished_by c.args.self.now.root c.args.self.now.iv g.U.Kv.rules_by g.R.Kv.rules_by (g.U.Kv.state c.args.self.now.primary) (g.R.Kv.state c.args.self.now.rollback) (g.U.Kv.state c.finish_both.new.primary) (g.R.Kv.state c.finish_both.new.rollback) (answered c.args.who Finish (Refused c.in-Err.refusal)) c.args.self.now.active c.take_own.new.active c.in-Some.active c.in-Some.ensures.0 c.in-Some.ensures.1.0
    c.args.who Finish (Refused c.in-Err.refusal) c.in-Some.ensures.1.1 refl (c.in-Err.ensures c.args.self.now.root c.args.self.now.iv (begun_in c.args.self.now.root c.args.self.now.iv c.args.self.now.active c.in-Some.active c.in-Some.ensures.0 c.args.self.now.sealing)))

pub invariant_of-self-else-eq-clause-above : goal.invariant_of-self-else-eq-clause-above
invariant_of-self-else-eq-clause-above g c =
    let none : is_some c.args.self.now.stopped ≡ false = search rules in
    let other : c.in-Err.refusal ≡ WriteFault → ⊥ = search rules in
    refusal_above c.args.self.now.stopped (some_or_none _ c.args.self.now.stopped none) c.args.self.now.root c.args.self.now.iv c.args.self.now.active g.U.Kv.rules_by g.R.Kv.rules_by
    (g.U.Kv.state c.args.self.now.primary) (g.R.Kv.state c.args.self.now.rollback) (g.U.Kv.state c.finish_both.new.primary) (g.R.Kv.state c.finish_both.new.rollback)
    c.args.self.now.above c.args.self.now.below c.args.who Finish c.args.self.now.iv c.take_own.new.active c.in-Err.refusal other
    (finished_by c.args.self.now.root c.args.self.now.iv g.U.Kv.rules_by g.R.Kv.rules_by (g.U.Kv.state c.args.self.now.primary) (g.R.Kv.state c.args.self.now.rollback) (g.U.Kv.state c.finish_both.new.primary) (g.R.Kv.state c.finish_both.new.rollback) (answered c.args.who Finish (Refused c.in-Err.refusal)) c.args.self.now.active c.take_own.new.active c.in-Some.active c.in-Some.ensures.0 c.in-Some.ensures.1.0
    c.args.who Finish (Refused c.in-Err.refusal) c.in-Some.ensures.1.1 refl (c.in-Err.ensures c.args.self.now.root c.args.self.now.iv (begun_in c.args.self.now.root c.args.self.now.iv c.args.self.now.active c.in-Some.active c.in-Some.ensures.0 c.args.self.now.sealing)))

pub invariant_of-self-else-eq-clause-below : goal.invariant_of-self-else-eq-clause-below
invariant_of-self-else-eq-clause-below g c =
    let none : is_some c.args.self.now.stopped ≡ false = search rules in
    let other : c.in-Err.refusal ≡ WriteFault → ⊥ = search rules in
    refusal_below c.args.self.now.stopped (some_or_none _ c.args.self.now.stopped none) c.args.self.now.root c.args.self.now.iv c.args.self.now.active g.U.Kv.rules_by g.R.Kv.rules_by
    (g.U.Kv.state c.args.self.now.primary) (g.R.Kv.state c.args.self.now.rollback) (g.U.Kv.state c.finish_both.new.primary) (g.R.Kv.state c.finish_both.new.rollback)
    c.args.self.now.above c.args.self.now.below c.args.who Finish c.args.self.now.iv c.take_own.new.active c.in-Err.refusal other
    (finished_by c.args.self.now.root c.args.self.now.iv g.U.Kv.rules_by g.R.Kv.rules_by (g.U.Kv.state c.args.self.now.primary) (g.R.Kv.state c.args.self.now.rollback) (g.U.Kv.state c.finish_both.new.primary) (g.R.Kv.state c.finish_both.new.rollback) (answered c.args.who Finish (Refused c.in-Err.refusal)) c.args.self.now.active c.take_own.new.active c.in-Some.active c.in-Some.ensures.0 c.in-Some.ensures.1.0
    c.args.who Finish (Refused c.in-Err.refusal) c.in-Some.ensures.1.1 refl (c.in-Err.ensures c.args.self.now.root c.args.self.now.iv (begun_in c.args.self.now.root c.args.self.now.iv c.args.self.now.active c.in-Some.active c.in-Some.ensures.0 c.args.self.now.sealing)))

pub invariant_of-self-else-eq-clause-in_doubt : goal.invariant_of-self-else-eq-clause-in_doubt
invariant_of-self-else-eq-clause-in_doubt g c =
    let none : is_some c.args.self.now.stopped ≡ false = search rules in
    not_stopped c.args.self.now.stopped (some_or_none _ c.args.self.now.stopped none) _ _ _

pub returns-then-eq-clause-answers : goal.returns-then-eq-clause-answers
returns-then-eq-clause-answers g c =
    let none : is_some c.args.self.now.stopped ≡ false = search rules in
    let fault : c.in-Err.refusal ≡ WriteFault = search rules in
    stopped_by c.args.self.now.stopped (some_or_none _ c.args.self.now.stopped none) c.args.self.now.root c.args.self.now.iv c.args.self.now.active g.U.Kv.rules_by g.R.Kv.rules_by
    (g.U.Kv.state c.args.self.now.primary) (g.R.Kv.state c.args.self.now.rollback) (g.U.Kv.state c.finish_both.new.primary) (g.R.Kv.state c.finish_both.new.rollback)
    c.args.self.now.above c.args.self.now.below c.args.who Finish c.in-Err.refusal fault c.take_own.new.active
    (finished_by c.args.self.now.root c.args.self.now.iv g.U.Kv.rules_by g.R.Kv.rules_by (g.U.Kv.state c.args.self.now.primary) (g.R.Kv.state c.args.self.now.rollback) (g.U.Kv.state c.finish_both.new.primary) (g.R.Kv.state c.finish_both.new.rollback) (answered c.args.who Finish (Refused c.in-Err.refusal)) c.args.self.now.active c.take_own.new.active c.in-Some.active c.in-Some.ensures.0 c.in-Some.ensures.1.0
    c.args.who Finish (Refused c.in-Err.refusal) c.in-Some.ensures.1.1 refl (c.in-Err.ensures c.args.self.now.root c.args.self.now.iv (begun_in c.args.self.now.root c.args.self.now.iv c.args.self.now.active c.in-Some.active c.in-Some.ensures.0 c.args.self.now.sealing)))
    (own_of c.args.self.now.iv c.take_own.new.active) c.in_doubt-note.result c.in_doubt-note.ensures

pub invariant_of-self-then-eq-clause-above : goal.invariant_of-self-then-eq-clause-above
invariant_of-self-then-eq-clause-above g c =
    while_stopped _ c.args.self.now.above (c.in-Err.ensures c.args.self.now.root c.args.self.now.iv (begun_in c.args.self.now.root c.args.self.now.iv c.args.self.now.active c.in-Some.active c.in-Some.ensures.0 c.args.self.now.sealing)).above.tells_state

pub invariant_of-self-then-eq-clause-below : goal.invariant_of-self-then-eq-clause-below
invariant_of-self-then-eq-clause-below g c =
    while_stopped _ c.args.self.now.below (c.in-Err.ensures c.args.self.now.root c.args.self.now.iv (begun_in c.args.self.now.root c.args.self.now.iv c.args.self.now.active c.in-Some.active c.in-Some.ensures.0 c.args.self.now.sealing)).below.tells_state

pub invariant_of-self-then-eq-clause-in_doubt : goal.invariant_of-self-then-eq-clause-in_doubt
invariant_of-self-then-eq-clause-in_doubt g c =
    let none : is_some c.args.self.now.stopped ≡ false = search rules in
    let fault : c.in-Err.refusal ≡ WriteFault = search rules in
    stops_by c.args.self.now.stopped (some_or_none _ c.args.self.now.stopped none) c.args.self.now.root c.args.self.now.iv c.args.self.now.active g.U.Kv.rules_by g.R.Kv.rules_by
    (g.U.Kv.state c.args.self.now.primary) (g.R.Kv.state c.args.self.now.rollback) (g.U.Kv.state c.finish_both.new.primary) (g.R.Kv.state c.finish_both.new.rollback)
    c.args.self.now.above c.args.self.now.below c.args.who Finish c.in-Err.refusal fault c.take_own.new.active
    (finished_by c.args.self.now.root c.args.self.now.iv g.U.Kv.rules_by g.R.Kv.rules_by (g.U.Kv.state c.args.self.now.primary) (g.R.Kv.state c.args.self.now.rollback) (g.U.Kv.state c.finish_both.new.primary) (g.R.Kv.state c.finish_both.new.rollback) (answered c.args.who Finish (Refused c.in-Err.refusal)) c.args.self.now.active c.take_own.new.active c.in-Some.active c.in-Some.ensures.0 c.in-Some.ensures.1.0
    c.args.who Finish (Refused c.in-Err.refusal) c.in-Some.ensures.1.1 refl (c.in-Err.ensures c.args.self.now.root c.args.self.now.iv (begun_in c.args.self.now.root c.args.self.now.iv c.args.self.now.active c.in-Some.active c.in-Some.ensures.0 c.args.self.now.sealing))) c.in_doubt-note.result c.in_doubt-note.ensures

pub invariant_of-self-in-Ok-clause-sealing : goal.invariant_of-self-in-Ok-clause-sealing
invariant_of-self-in-Ok-clause-sealing g c =
    subst (IsActive c.args.self.now.root c.args.self.now.iv) (sym c.in-Some.ensures.1.0) tt

pub invariant_of-self-else-eq-clause-sealing : goal.invariant_of-self-else-eq-clause-sealing
invariant_of-self-else-eq-clause-sealing g c =
    subst (IsActive c.args.self.now.root c.args.self.now.iv) (sym c.in-Some.ensures.1.0) tt

pub invariant_of-self-then-eq-clause-sealing : goal.invariant_of-self-then-eq-clause-sealing
invariant_of-self-then-eq-clause-sealing g c =
    subst (IsActive c.args.self.now.root c.args.self.now.iv) (sym c.in-Some.ensures.1.0) tt

pub finish_both-requires : goal.finish_both-requires
finish_both-requires g c =
    counted_in c.args.self.now.root c.args.self.now.iv c.args.self.now.active c.in-Some.active c.in-Some.ensures.0 c.args.self.now.sealing
