use Rattle.turn_lock.specs.Passes.{IsIdle}
use Rattle.shared_kv.specs.Passes.{table_in}
use Rattle.shared_kv.proofs.tests.abort_so_often.Given as goal

abbrev pub invariant-loop-call : goal.invariant-loop-call
invariant-loop-call g l = IsIdle (table_in l.shared) l.pass.pass
