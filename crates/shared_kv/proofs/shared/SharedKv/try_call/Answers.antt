use Rattle.std.proofs.Common.{◌∙◌}
use Rattle.shared_kv.specs.Desks.{book_in, stands_in}
use Rattle.shared_kv.specs.Passes.{known}
use Rattle.shared_kv.proofs.TurnLemmas.{completes_since, had_one, turn_found, turn_had, turn_waits}
use Rattle.shared_kv.proofs.shared.SharedKv.try_call.Goals as goal

pub returns-in-Ok-call_in_turn-clause-tries : goal.returns-in-Ok-call_in_turn-clause-tries
returns-in-Ok-call_in_turn-clause-tries g c =
    let old = known c.args.pass.now in
    let stands = stands_in g.K.Kv.rules_by g.K.Kv.state in
    let book = book_in g.K.Kv.state in
    let turn = c.in-Ok.ensures.value in
    let waits = turn_waits stands book old c.in-Ok.held.state _ turn in
    let had = turn_had stands book old c.in-Ok.held.state _ turn in
    let found = turn_found stands book old c.in-Ok.held.state _ turn in
    let ends = c.in-Ok-call_in_turn.ensures.ends in
    (ends.0.found ∙ found, had_one ends.0 had, completes_since c.args.call waits c.in-Ok-call_in_turn.answer ends.1)
