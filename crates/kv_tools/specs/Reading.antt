-- What the readers of an image take.
use Rattle.std.specs.Prelude.{ℕ, ◌≤◌, List, length, IsTrue}
use Rattle.flash_core.specs.Sizes.{IsValid}
use Rattle.flash_core.specs.State.{FlashState}

-- A device of a valid geometry that fails no read, and a buffer of at least 64 bytes and at least a program unit.
pub record CanRead (s : FlashState) (work : List ℕ) : Type 0 where
  pub valid : IsValid s.geometry
  pub steady : IsTrue s.steady
  pub unit : s.geometry.prog ≤ length work
  pub least : 64 ≤ length work
