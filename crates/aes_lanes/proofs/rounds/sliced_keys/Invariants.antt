use Rattle.std.proofs.Common.{◌≡◌, ◌-◌, length}
use Rattle.aes_lanes.specs.Sliced.{AreSlicedKeys}
use Rattle.aes_lanes.proofs.rounds.sliced_keys.Given as goal

abbrev pub invariant-loop-n : goal.invariant-loop-n
invariant-loop-n l = record { known : AreSlicedKeys l.aes (l.n - 1) l.keys; long : length l.keys ≡ 11 }
