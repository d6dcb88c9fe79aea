-- What the calls of a device require of it and do to it.
use Rattle.std.specs.Prelude.{◌≡◌, ◌⊎◌, ℕ, ◌+◌, ◌<◌, ◌≤◌, ◌↔◌, List, length, replicate, IsTrue, Option, Some, None, Result, IsOk, IfErr, OnOk, OnErr, is_some}
use Rattle.std.specs.Option.{ForSome}
use Rattle.base_core.specs.Counts.{Rose}
use Rattle.base_core.specs.Units.{IsMultipleOf}
use Rattle.flash_core.specs.declared.flash.FlashFault.{FlashFault}
use Rattle.flash_core.specs.declared.flash.FlashFault.TheVariants.{Read, Write}
use Rattle.flash_core.specs.Images.{part, put, IsErased, Torn}
use Rattle.flash_core.specs.Moments.{Adds}
use Rattle.flash_core.specs.Sizes.{size_of}
use Rattle.flash_core.specs.State.{DeviceCall, FlashState, call_at}

-- the range lies in the image
pub record CanRead (s : FlashState) (place n : ℕ) : Type 0 where
  pub inside : place + n ≤ size_of s.geometry

-- whole units of an erased range in the image
pub record CanProgram (s : FlashState) (place n : ℕ) : Type 0 where
  pub place_aligned : IsMultipleOf s.geometry.prog place
  pub length_aligned : IsMultipleOf s.geometry.prog n
  pub at_least : s.geometry.prog ≤ n
  pub at_most : n ≤ s.geometry.erase
  pub inside : place + n ≤ size_of s.geometry
  pub erased : ForSome s.image (λ image. IsErased image place n)

-- the place of an erase unit of the image
pub record CanErase (s : FlashState) (place : ℕ) : Type 0 where
  pub place_aligned : IsMultipleOf s.geometry.erase place
  pub inside : place < size_of s.geometry

-- what an erase leaves in its unit
abbrev pub erased_unit : FlashState → List ℕ
erased_unit s = replicate s.geometry.erase 255

-- What every call keeps, whatever it answers.
pub record Keeps (old new : FlashState) : Type 0 where
  pub geometry : new.geometry ≡ old.geometry
  pub label : new.label ≡ old.label
  pub tells_image : is_some new.image ≡ is_some old.image
  pub tells_moments : new.tells_moments ≡ old.tells_moments
  pub tells_torn : new.tells_torn ≡ old.tells_torn
  pub read_faults : old.read_faults ≤ new.read_faults
  pub write_faults : old.write_faults ≤ new.write_faults
  pub sound : IsTrue old.sound → IsTrue new.sound
  pub moment : old.moment ≤ new.moment
  -- what was told of earlier moments stands
  pub told : (t : ℕ) (call : Option DeviceCall) (c : List ℕ) → t ≤ old.moment → old.left_since t call c → new.left_since t call c

-- Nothing has changed but the count of read faults and whether the device is steady and sound.
pub record OnlyReads (old new : FlashState) : Type 0 where
  pub geometry : new.geometry ≡ old.geometry
  pub image : new.image ≡ old.image
  pub label : new.label ≡ old.label
  pub tells_moments : new.tells_moments ≡ old.tells_moments
  pub tells_torn : new.tells_torn ≡ old.tells_torn
  pub torn : new.torn ≡ old.torn
  pub read_faults : old.read_faults ≤ new.read_faults
  pub write_faults : new.write_faults ≡ old.write_faults
  pub steady : IsTrue old.steady → IsTrue new.steady
  pub sound : IsTrue old.sound → IsTrue new.sound
  pub moment : new.moment ≡ old.moment
  pub told : (t : ℕ) (call : Option DeviceCall) (c : List ℕ) → new.left_since t call c ↔ old.left_since t call c

-- Neither count of faults has changed.
pub record CountsStand (old new : FlashState) : Type 0 where
  pub of_reads : new.read_faults ≡ old.read_faults
  pub of_writes : new.write_faults ≡ old.write_faults

-- A read into a buffer, which holds these bytes afterwards.
pub record Reads {T : Type 0} (old new : FlashState) (place : ℕ) (buf : List ℕ) (result : Result T FlashFault) : Type 0 where
  pub kept : OnlyReads old new
  pub steady : IsTrue old.steady → IsOk result
  pub bytes : ForSome old.image (λ image. OnOk result (buf ≡ part image place (length buf)))
  pub cause : IfErr result (λ fault. (fault ≡ Read) × Rose old.read_faults new.read_faults)
  pub counts : OnOk result (CountsStand old new)

-- A moment of a program or erase of these bytes at this place: inside it, or behind it when whole.
abbrev pub IsMomentWithin : List ℕ → ℕ → List ℕ → Option DeviceCall → List ℕ → Type 0
IsMomentWithin image place bytes None c = c ≡ put image place bytes
IsMomentWithin image place bytes (Some call) c = (call ≡ call_at image place bytes) × Torn place (length bytes) image c

-- One that the call adds: none behind it where it failed.
abbrev pub IsMomentOf : {T : Type 0} → List ℕ → ℕ → List ℕ → Result T FlashFault → Option DeviceCall → List ℕ → Type 0
IsMomentOf image place bytes result call c = IsMomentWithin image place bytes call c × (call ≡ None → IsOk result)

-- What a device that tells its moments tells of a program or erase of these bytes over this image.
pub record TellsMoments {T : Type 0} (old new : FlashState) (image : List ℕ) (place : ℕ) (bytes : List ℕ) (result : Result T FlashFault) : Type 0 where
  -- an Ok call has left each image that a cut inside it may leave, and then the whole one
  pub inside : OnOk result ((c : List ℕ) → Torn place (length bytes) image c → new.left_since old.moment (Some (call_at image place bytes)) c)
  pub behind : OnOk result (new.left_since new.moment None (put image place bytes))
  -- so has a call that failed left each of them, unless the image is as before
  pub failed : OnErr result ((new.image ≡ Some image) ⊎ ((c : List ℕ) → Torn place (length bytes) image c → new.left_since old.moment (Some (call_at image place bytes)) c))

-- What a device that tells torn calls tells after this one failed: this call, or what it told before of the image
-- that stands.
abbrev pub TellsTorn : FlashState → FlashState → DeviceCall → Type 0
TellsTorn old new call = (new.torn ≡ Some call) ⊎ ((new.image ≡ old.image) × (new.torn ≡ old.torn))

-- A program of these bytes at this place, or an erase, whose bytes are 0xFF.
pub record Writes {T : Type 0} (old new : FlashState) (place : ℕ) (bytes : List ℕ) (result : Result T FlashFault) : Type 0 where
  pub kept : Keeps old new
  pub steady : IsTrue old.steady → OnOk result (IsTrue new.steady)
  pub sound : IsTrue old.sound → IsOk result
  pub cause : IfErr result (λ fault. (fault ≡ Write) × Rose old.write_faults new.write_faults)
  pub counts : OnOk result (CountsStand old new)
  pub reads_stand : new.read_faults ≡ old.read_faults
  pub written : ForSome old.image (λ image. OnOk result (new.image ≡ Some (put image place bytes)))
  pub failed : ForSome old.image (λ image. OnErr result (ForSome new.image (λ left. Torn place (length bytes) image left)))
  -- no moment is told anew but those of this call
  pub adds : ForSome old.image (λ image. Adds old new (IsMomentOf image place bytes result))
  pub tells : IsTrue old.tells_moments → ForSome old.image (λ image. TellsMoments old new image place bytes result)
  pub torn_stands : OnOk result (new.torn ≡ old.torn)
  pub torn : IsTrue old.tells_torn → ForSome old.image (λ image. OnErr result (TellsTorn old new (call_at image place bytes)))
