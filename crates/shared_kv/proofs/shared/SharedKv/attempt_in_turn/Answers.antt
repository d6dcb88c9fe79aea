use Rattle.std.proofs.Common.{sym, ◌∙◌, ap, subst}
use Rattle.turn_lock.specs.Views.{in_phase}
use Rattle.turn_lock.specs.declared.view.Phase.TheVariants.{Idle}
use Rattle.turn_lock.specs.declared.view.View.{View}
use Rattle.shared_kv.specs.Desks.{IsLent}
use Rattle.shared_kv.specs.Passes.{known}
use Rattle.shared_kv.specs.Turns.{EndsTurn, without_call}
use Rattle.shared_kv.proofs.TurnLemmas.{attempt_ends, may_note}
use Rattle.shared_kv.proofs.shared.SharedKv.attempt_in_turn.Goals as goal

pub note-requires-clause-value : goal.note-requires-clause-value
note-requires-clause-value g c =
    let v = known c.args.pass.now in
    let lent = subst (IsLent g.K.Kv.rules_by g.K.Kv.state v) (sym c.state.ensures.value) c.requires.value in
    may_note g.K.Kv.rules_by g.K.Kv.state v c.state.result.now c.attempt-outcome.new.self lent c.who-who.result c.who-who.ensures c.args.call c.requires.room
    c.attempt-outcome.ensures.stands c.attempt-outcome.ensures.quitter c.attempt-outcome.result c.attempt-outcome.ensures.noted c.attempt-outcome.ensures.same

pub returns-clause-ends : goal.returns-clause-ends
returns-clause-ends g c =
    let v = known c.args.pass.now in
    let lent = subst (IsLent g.K.Kv.rules_by g.K.Kv.state v) (sym c.state.ensures.value) c.requires.value in
    let ends = attempt_ends g.K.Kv.rules_by g.K.Kv.state v c.state.result.now c.attempt-outcome.new.self lent c.who-who.result c.who-who.ensures c.args.call c.requires.room
    c.attempt-outcome.ensures.stands c.attempt-outcome.ensures.quitter c.attempt-outcome.result c.attempt-outcome.ensures.noted c.attempt-outcome.ensures.same c.attempt-outcome.ensures.fault in
    subst (λ (w : View). EndsTurn g.K.Kv.rules_by v w c.args.call (without_call c.attempt-outcome.result)) (sym (c.give.ensures.view ∙ ap (in_phase Idle) c.note.ensures.view)) ends
