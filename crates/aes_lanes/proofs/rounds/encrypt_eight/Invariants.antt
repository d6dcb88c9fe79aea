use Rattle.std.proofs.Common.{ℕ, List, ◌<◌}
use Rattle.aes_core.specs.Aes.{after_rounds}
use Rattle.aes_lanes.specs.Sliced.{HasBlock, AreSlicedKeys}
use Rattle.aes_lanes.proofs.rounds.encrypt_eight.Given as goal

abbrev pub invariant-loop-i : goal.invariant-loop-i
invariant-loop-i l = (key block : List ℕ) (place : ℕ) → place < 8 → AreSlicedKeys key 10 l.keys → HasBlock l.fn.q place block
    → HasBlock l.state place (after_rounds key block l.i)
