use Rattle.std.proofs.Common.{sym, subst}
use Rattle.std.specs.Prelude.{◌≡◌, length}
use Rattle.turn_lock.specs.declared.view.View.{View}
use Rattle.shared_kv.specs.Passes.{known}
use Rattle.shared_kv.specs.Turns.{EndsOne, Waits}
use Rattle.shared_kv.proofs.TurnLemmas.{full_ends}
use Rattle.shared_kv.proofs.shared.SharedKv.call_in_turn.Goals as goal

pub returns-then-is_full-clause-ends : goal.returns-then-is_full-clause-ends
returns-then-is_full-clause-ends g c =
    let v = known c.args.pass.now in
    subst (λ (w : View). EndsOne g.K.Kv.rules_by v w × (Waits v w × length w.own ≡ w.parts)) (sym c.give.ensures.view)
    (full_ends g.K.Kv.rules_by g.K.Kv.state v c.args.held.state c.args.held.state c.requires.value (c.is_full.ensures.0 c.if-is_full.true))
