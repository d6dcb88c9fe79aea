use Rattle.std.proofs.Common.{◌≡◌, drop}
use Rattle.flash_sim.specs.Plan.{names}
use Rattle.flash_sim.proofs.plan.has.Given as goal

abbrev pub invariant-loop-first : goal.invariant-loop-first
invariant-loop-first l = names (drop l.first-index l.named) l.number ≡ names l.named l.number
