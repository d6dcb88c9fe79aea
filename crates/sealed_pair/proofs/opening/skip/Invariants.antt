use Rattle.std.proofs.Common.{◌≤◌, ◌-◌}
use Rattle.sealed_pair.specs.Absorbing.{source, HasSkipped}
use Rattle.sealed_pair.specs.Reading.{HasRead}
use Rattle.sealed_pair.proofs.opening.skip.Given as goal

abbrev pub invariant-loop-done : goal.invariant-loop-done
invariant-loop-done g l = record {
  read : HasRead (g.K.Kv.state l.fn.store) (g.K.Kv.state l.store);
  most : l.done ≤ l.n;
  skipped : HasSkipped (source g.K.Kv.rules_by (g.K.Kv.state l.fn.store) l.key) l.place l.fn.stream l.stream l.done;
}

abbrev pub decreases-loop-done : goal.decreases-loop-done
decreases-loop-done g l = l.n - l.done
