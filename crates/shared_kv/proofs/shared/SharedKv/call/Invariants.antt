use Rattle.std.proofs.Common.{◌≡◌, ◌≤◌}
use Rattle.turn_lock.specs.Passes.{IsIdle}
use Rattle.shared_kv.specs.Passes.{known, table_in}
use Rattle.shared_kv.specs.Turns.{Waits}
use Rattle.shared_kv.proofs.shared.SharedKv.call.Given as goal

abbrev pub invariant-loop : goal.invariant-loop
invariant-loop g l =
    ((goal.iterator-loop g).can_next l.iterator' × (goal.iterator-loop g).is_finite l.iterator')
    × IsIdle (table_in l.self) l.pass.pass
    × Waits (known l.fn.pass) (known l.pass)
    × ((known l.fn.pass).had ≤ (known l.pass).had)
    × (l.left ≡ l.fn.call)
