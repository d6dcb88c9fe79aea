use Rattle.std.proofs.Common.{◌≡◌, ◌+◌, length}
use Rattle.area_collect.proofs.collection.empty.Given as goal

abbrev pub invariant-loop-table : goal.invariant-loop-table
invariant-loop-table l = length l.table.entries + l.table.spare ≡ length l.fn.table.entries + l.fn.table.spare

abbrev pub decreases-loop-table : goal.decreases-loop-table
decreases-loop-table l = length l.table.entries
