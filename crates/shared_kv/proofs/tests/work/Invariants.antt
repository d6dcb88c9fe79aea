use Rattle.turn_lock.specs.Passes.{IsIdle}
use Rattle.shared_kv.specs.Passes.{table_in}
use Rattle.shared_kv.proofs.tests.work.Given as goal

abbrev pub invariant-loop-step : goal.invariant-loop-step
invariant-loop-step g l = IsIdle (table_in l.shared) l.pass.pass

abbrev pub invariant-loop-round : goal.invariant-loop-round
invariant-loop-round g l = IsIdle (table_in l.shared) l.pass.pass
