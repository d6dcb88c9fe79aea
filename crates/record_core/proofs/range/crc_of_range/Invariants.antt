use Rattle.std.proofs.Common.{◌≤◌, ◌-◌}
use Rattle.flash_core.specs.Calls.{CountsStand, OnlyReads}
use Rattle.record_core.specs.Lookup.{IsCrcOf}
use Rattle.record_core.proofs.range.crc_of_range.Given as goal

abbrev pub invariant-loop-done : goal.invariant-loop-done
invariant-loop-done g l =
    let old = g.F.Flash.state l.fn.flash in
    record {
      reads : OnlyReads old (g.F.Flash.state l.flash);
      counts : CountsStand old (g.F.Flash.state l.flash);
      sum : IsCrcOf old l.place l.done l.start l.sum;
      most : l.done ≤ l.size;
    }

abbrev pub decreases-loop-done : goal.decreases-loop-done
decreases-loop-done g l = l.size - l.done
