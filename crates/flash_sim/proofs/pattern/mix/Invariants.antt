use Rattle.std.proofs.Common.{◌≡◌, ℕ, ◌/◌, ◌^◌, ◌<◌, get_or, suc}
use Rattle.flash_sim.specs.Patterns.{number_at}
use Rattle.flash_sim.proofs.pattern.mix.Given as goal

abbrev pub invariant-loop-byte : goal.invariant-loop-byte
invariant-loop-byte l = record {
  number : l.y ≡ number_at l.seed l.byte-index;
  done : (k : ℕ) → k < l.byte-index → get_or l.range k 0 ≡ number_at l.seed (suc k) / 2 ^ 24;
}
