use Rattle.std.proofs.Common.{◌≤◌}
use Rattle.turn_lock.specs.Passes.{IsIdle}
use Rattle.shared_kv.specs.Passes.{known, table_in}
use Rattle.serve_core.proofs.WorkLemmas.{HasWorked}
use Rattle.serve_core.proofs.worker.work.Given as goal

abbrev pub invariant-loop-line : goal.invariant-loop-line
invariant-loop-line g l = record {
  idle : IsIdle (table_in l.shared) l.pass.pass;
  worked : HasWorked l.who l.lines l.line-index (known l.fn.pass) (known l.pass);
  index : l.index ≤ l.line-index;
}
