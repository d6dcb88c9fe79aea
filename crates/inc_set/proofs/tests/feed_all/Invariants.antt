use Rattle.std.proofs.Common.{◌-◌, length}
use Rattle.inc_set.proofs.FedLemmas.{HoldsSoMany}
use Rattle.inc_set.proofs.tests.feed_all.Given as goal

abbrev pub invariant-loop-done : goal.invariant-loop-done
invariant-loop-done g l = HoldsSoMany (g.F.Flash.state l.flash).geometry (g.F.Flash.state l.flash).image l.rest l.set l.value l.done

abbrev pub decreases-loop-done : goal.decreases-loop-done
decreases-loop-done g l = length l.value - l.done
