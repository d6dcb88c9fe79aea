use Rattle.turn_lock.specs.Views.{with_found}
use Rattle.shared_kv.specs.Desks.{book_in, stands_in}
use Rattle.shared_kv.specs.Passes.{known}
use Rattle.shared_kv.specs.Turns.{without_call}
use Rattle.shared_kv.proofs.TurnLemmas.{ends_since, turn_waits, waits_later}
use Rattle.shared_kv.proofs.shared.SharedKv.call_once.Goals as goal

pub returns-clause-ends : goal.returns-clause-ends
returns-clause-ends g c =
    let old = known c.args.pass.now in
    let later = c.take-held.ensures.value in
    let first = waits_later old later.0 (turn_waits (stands_in g.K.Kv.rules_by g.K.Kv.state) (book_in g.K.Kv.state) (with_found later.0 old) c.take-held.result.state _ later.1) in
    ends_since g.K.Kv.rules_by old _ (known c.call_in_turn.new.pass) c.args.call first (without_call c.call_in_turn.result) c.call_in_turn.ensures.ends.1
