use Rattle.std.proofs.Common.{sym, ◌∙◌, ap, subst}
use Rattle.turn_lock.specs.Views.{in_phase}
use Rattle.turn_lock.specs.declared.view.View.{View}
use Rattle.turn_lock.specs.declared.view.Phase.TheVariants.{Idle}
use Rattle.shared_kv.specs.Desks.{IsLent}
use Rattle.shared_kv.specs.Passes.{known}
use Rattle.shared_kv.specs.Turns.{QuitsTurn}
use Rattle.shared_kv.proofs.TurnLemmas.{quit_ends}
use Rattle.shared_kv.proofs.shared.SharedKv.quit_in_turn.Goals as goal

pub returns-clause-quits : goal.returns-clause-quits
returns-clause-quits g c =
    let v = known c.args.pass.now in
    let lent = subst (IsLent g.K.Kv.rules_by g.K.Kv.state v) (sym c.state.ensures.value) c.requires.value in
    subst (λ (w : View). QuitsTurn g.K.Kv.rules_by v w c.quit-by.result) (sym (c.give.ensures.view ∙ ap (in_phase Idle) c.note.ensures.view))
    (quit_ends g.K.Kv.rules_by g.K.Kv.state v c.state.result.now c.quit-by.new.self lent c.who-who.result c.quit-by.result c.who-who.ensures
    c.quit-by.ensures.by c.quit-by.ensures.quitter c.quit-by.ensures.store c.quit-by.ensures.journal)
