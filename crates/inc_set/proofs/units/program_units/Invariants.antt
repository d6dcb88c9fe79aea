use Rattle.std.proofs.Common.{◌-◌}
use Rattle.record_core.proofs.WriterLemmas.{Pieces}
use Rattle.inc_set.proofs.units.program_units.Given as goal

abbrev pub invariant-loop-done : goal.invariant-loop-done
invariant-loop-done g l = Pieces (g.F.Flash.state l.fn.flash) (g.F.Flash.state l.flash) l.place l.units l.done

abbrev pub decreases-loop-done : goal.decreases-loop-done
decreases-loop-done g l = l.size - l.done
