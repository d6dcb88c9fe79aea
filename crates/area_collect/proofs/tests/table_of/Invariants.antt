use Rattle.area_collect.specs.Copies.{AreIn}
use Rattle.area_collect.proofs.tests.table_of.Given as goal

abbrev pub invariant-loop-place : goal.invariant-loop-place
invariant-loop-place g l = AreIn l.area l.table.entries
