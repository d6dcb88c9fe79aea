use Rattle.std.proofs.Common.{◌-◌, length}
use Rattle.ram_table.proofs.Halving.{IsBetween, IsHalved}
use Rattle.ram_table.proofs.table.RamTable.first_of_hash.Given as goal

abbrev pub invariant-loop-low : goal.invariant-loop-low
invariant-loop-low g l = record {
  between : IsBetween l.hash l.low l.high l.self.entries;
  halved : IsHalved l.initial.steps l.steps (l.high - l.low) (length l.self.entries);
}

abbrev pub decreases-loop-low : goal.decreases-loop-low
decreases-loop-low g l = l.high - l.low
