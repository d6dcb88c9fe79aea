use Rattle.std.proofs.Common.{◌+◌, ◌-◌, ◌≤◌, length}
use Rattle.turn_lock.specs.Tables.{table_of}
use Rattle.turn_lock.specs.Passes.{view_of, IsIdle}
use Rattle.turn_lock.proofs.tests.write_pages.Given as goal

-- there is a part for each page that is left
abbrev pub invariant-loop-round : goal.invariant-loop-round
invariant-loop-round g l =
    IsIdle (table_of l.turns) l.pass × (length (view_of l.pass).own + (l.pages - l._round) ≤ (view_of l.pass).parts)
