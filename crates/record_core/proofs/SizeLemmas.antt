-- Padding takes less than one more program unit.
use Rattle.std.proofs.Common.{ℕ, ◌+◌, ◌-◌, ◌≤◌}
use Rattle.std.proofs.Math.Nat.{div-mul-le_self}
use Rattle.base_core.specs.Units.{up}

pub up-most : (prog x : ℕ) → up prog x ≤ x + (prog - 1)
unfolding up
up-most prog x = div-mul-le_self (x + (prog - 1)) prog
