-- Whole units programmed to a device, one directly behind the other.
use Rattle.std.specs.Prelude.{◌≡◌, ℕ, List, Some}
use Rattle.std.specs.Option.{ForSome}
use Rattle.flash_core.specs.Images.{put}
use Rattle.flash_core.specs.Runs.{Ending, Done, ReadFailed, WriteFailed, OutOfMemory, Refused, RunsBy}
use Rattle.flash_core.specs.State.{FlashState}
use Rattle.record_core.specs.Written.{Ascends}

-- P, where nothing was refused
abbrev pub IfDone : Ending → Type 0 → Type 0
IfDone Done P = P
IfDone ReadFailed P = Unit {0}
IfDone WriteFailed P = Unit {0}
IfDone OutOfMemory P = Unit {0}
IfDone Refused P = Unit {0}

-- These units were programmed from this place on, in ascending order and each once; unless a program failed they stand.
pub record Programs (old new : FlashState) (place : ℕ) (units : List ℕ) (ending : Ending) : Type 0 where
  pub runs : RunsBy old new (Ascends old.geometry.prog place units) ending
  pub written : ForSome old.image (λ image. IfDone ending (new.image ≡ Some (put image place units)))
