-- What a call may do to a device.
use Rattle.std.specs.Prelude.{◌≡◌, ◌<◌, ℕ, List, IsTrue, Option, None, Result, Ok, Err}
use Rattle.std.specs.Option.{ForSome}
use Rattle.base_core.specs.Counts.{Rose}
use Rattle.flash_core.specs.declared.flash.FlashFault.{FlashFault}
use Rattle.flash_core.specs.declared.flash.FlashFault.TheVariants.{Read, Write}
use Rattle.flash_core.specs.Calls.{CountsStand, Keeps, OnlyReads}
use Rattle.flash_core.specs.Moments.{Adds, FailedInside}
use Rattle.flash_core.specs.State.{DeviceCall, FlashState}

-- How a call ended, as far as its device is concerned. Refused is every refusal that has no other name.
pub data Ending : Type 0 where
  Done : Ending
  ReadFailed : Ending
  WriteFailed : Ending
  OutOfMemory : Ending
  Refused : Ending

-- how a call with this result ended, where this is how each of its errors ends it
abbrev pub ending_by : {T E : Type 0} → (E → Ending) → Result T E → Ending
ending_by of_error (Ok x) = Done
ending_by of_error (Err e) = of_error e

abbrev pub fault_ending : FlashFault → Ending
fault_ending Read = ReadFailed
fault_ending Write = WriteFailed

-- how a call that answers the device's faults ended
abbrev pub ended : {T : Type 0} → Result T FlashFault → Ending
ended result = ending_by fault_ending result

-- A fault comes only where its count rose, none of a read on a steady device, and none on a sound one.
abbrev pub IsCause : FlashState → FlashState → Ending → Type 0
IsCause old new ReadFailed = Rose old.read_faults new.read_faults × (IsTrue old.steady → ⊥)
IsCause old new WriteFailed = Rose old.write_faults new.write_faults × (IsTrue old.sound → ⊥)
IsCause old new Done = Unit {0}
IsCause old new OutOfMemory = Unit {0}
IsCause old new Refused = Unit {0}

-- Both counts of faults stand, unless a read or a write failed, and then the other one does.
abbrev pub IsCounted : FlashState → FlashState → Ending → Type 0
IsCounted old new ReadFailed = new.write_faults ≡ old.write_faults
IsCounted old new WriteFailed = new.read_faults ≡ old.read_faults
IsCounted old new Done = CountsStand old new
IsCounted old new OutOfMemory = CountsStand old new
IsCounted old new Refused = CountsStand old new

-- Where a count of faults rose, the result is this error for a read that failed, or this one for a write.
pub record AnswersFaults {T E : Type 0} (old new : FlashState) (read write : E) (result : Result T E) : Type 0 where
  pub of_reads : old.read_faults < new.read_faults → result ≡ Err read
  pub of_writes : old.write_faults < new.write_faults → result ≡ Err write

-- P, unless a program or erase failed
abbrev pub UnlessFailed : Ending → Type 0 → Type 0
UnlessFailed WriteFailed P = Unit {0}
UnlessFailed Done P = P
UnlessFailed ReadFailed P = P
UnlessFailed OutOfMemory P = P
UnlessFailed Refused P = P

-- P, where a program or erase failed
abbrev pub IfFailed : Ending → Type 0 → Type 0
IfFailed WriteFailed P = P
IfFailed Done P = Unit {0}
IfFailed ReadFailed P = Unit {0}
IfFailed OutOfMemory P = Unit {0}
IfFailed Refused P = Unit {0}

-- P, unless a program or erase failed or there was no memory
abbrev pub UnlessShort : Ending → Type 0 → Type 0
UnlessShort OutOfMemory P = Unit {0}
UnlessShort WriteFailed P = Unit {0}
UnlessShort Done P = P
UnlessShort ReadFailed P = P
UnlessShort Refused P = P

-- What a call that ended so has done to its device. R is what it says of each moment, over the image at its entry: of
-- images between calls, and of those inside a program or erase.
pub record RunsBy (old new : FlashState) (R : List ℕ → Option DeviceCall → List ℕ → Type 0) (ending : Ending) : Type 0 where
  pub kept : Keeps old new
  pub cause : IsCause old new ending
  pub counts : IsCounted old new ending
  pub steady : IsTrue old.steady → UnlessShort ending (IsTrue new.steady)
  -- each moment that the call adds has R, and so has the image that stands unless a program or erase failed
  pub adds : ForSome old.image (λ image. Adds old new (R image))
  pub stands : ForSome old.image (λ image. UnlessFailed ending (ForSome new.image (R image None)))
  pub torn_stands : UnlessFailed ending (new.torn ≡ old.torn)
  -- else it stands inside the one that failed
  pub failed : ForSome old.image (λ image. IfFailed ending (ForSome new.image (FailedInside new (R image))))

-- A reader ends with no fault of a write.
abbrev pub IsCauseOfRead : FlashState → FlashState → Ending → Type 0
IsCauseOfRead old new ReadFailed = Rose old.read_faults new.read_faults × (IsTrue old.steady → ⊥)
IsCauseOfRead old new WriteFailed = ⊥
IsCauseOfRead old new Done = Unit {0}
IsCauseOfRead old new OutOfMemory = Unit {0}
IsCauseOfRead old new Refused = Unit {0}

-- What a reader that ended so has done to its device: nothing but reads.
pub record ReadsBy (old new : FlashState) (ending : Ending) : Type 0 where
  pub kept : OnlyReads old new
  pub cause : IsCauseOfRead old new ending
  pub counts : IsCounted old new ending
