use Rattle.std.proofs.Common.{◌≤◌, ◌-◌, length, take}
use Rattle.sealed_pair.specs.Setting.{HasAddedPart, calls}
use Rattle.sealed_pair.proofs.setting.add_part.Given as goal

abbrev pub invariant-loop-done : goal.invariant-loop-done
invariant-loop-done g l = record {
  most : l.done ≤ length l.value;
  added : HasAddedPart (calls g.K.Kv.rules_by (g.K.Kv.state l.fn.store) (g.K.Kv.state l.store) l.who) l.fn.stream l.stream (take l.done l.value);
}

abbrev pub decreases-loop-done : goal.decreases-loop-done
decreases-loop-done g l = length l.value - l.done
