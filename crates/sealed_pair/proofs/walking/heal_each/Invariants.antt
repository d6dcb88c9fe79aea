use Rattle.std.proofs.Common.{◌≡◌, ◌≤◌, ℕ, true, List, Option, None}
use Rattle.kv_model.specs.Kv.{Keeps}
use Rattle.sealed_pair.specs.Running.{StaysIdle}
use Rattle.sealed_pair.specs.Walking.{HasStayed, IsAt, Walk}
use Rattle.sealed_pair.proofs.TurnLemmas.{HasCome}
use Rattle.sealed_pair.proofs.walking.heal_each.Given as goal

abbrev pub invariant-loop-round : goal.invariant-loop-round
invariant-loop-round g l = record {
  counted : l.changed ≤ l._round;
  stayed : HasStayed g.U.Kv.rules_by (g.U.Kv.state l.fn.primary) (g.U.Kv.state l.primary);
  keeps : Keeps (g.R.Kv.state l.fn.rollback) (g.R.Kv.state l.rollback);
  steady : (g.R.Kv.state l.fn.rollback).known.steady ≡ true → (g.R.Kv.state l.rollback).known.steady ≡ true;
  idle : StaysIdle g.R.Kv.rules_by (g.R.Kv.state l.fn.rollback) (g.R.Kv.state l.rollback);
  walked : (walk : Walk) → walk.who ≡ l.who → IsAt g.U.Kv.rules_by walk None (g.U.Kv.state l.fn.primary)
      → HasCome g.U.Kv.rules_by g.R.Kv.rules_by l.root walk (g.U.Kv.state l.fn.primary) (g.U.Kv.state l.primary) (g.R.Kv.state l.fn.rollback) (g.R.Kv.state l.rollback) l.changed;
}
