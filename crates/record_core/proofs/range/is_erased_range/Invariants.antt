use Rattle.std.proofs.Common.{◌≤◌, ◌-◌}
use Rattle.std.specs.Option.{ForSome}
use Rattle.flash_core.specs.Calls.{CountsStand, OnlyReads}
use Rattle.flash_core.specs.Images.{IsErased}
use Rattle.record_core.proofs.range.is_erased_range.Given as goal

abbrev pub invariant-loop-done : goal.invariant-loop-done
invariant-loop-done g l = record {
  reads : OnlyReads (g.F.Flash.state l.fn.flash) (g.F.Flash.state l.flash);
  counts : CountsStand (g.F.Flash.state l.fn.flash) (g.F.Flash.state l.flash);
  most : l.done ≤ l.size;
  erased : ForSome (g.F.Flash.state l.fn.flash).image (λ image. IsErased image l.place l.done);
}

abbrev pub decreases-loop-done : goal.decreases-loop-done
decreases-loop-done g l = l.size - l.done
