-- What contracts see of a device.
use Rattle.std.specs.Prelude.{◌≡◌, ℕ, ◌≤◌, List, length, Bool, IsTrue, Option, Result, OnOk}
use Rattle.std.specs.Option.{ForSome}
use Rattle.flash_core.specs.declared.geometry.Geometry.{Geometry}
use Rattle.flash_core.specs.Images.{part, put}
use Rattle.flash_core.specs.Sizes.{size_of}

-- A program or erase: the place of its range, the bytes there before it, and those that it leaves there when whole.
pub record DeviceCall : Type 0 where
  pub place : ℕ
  pub before : List ℕ
  pub after : List ℕ

-- the call that puts these bytes at this place of the image
abbrev pub call_at : List ℕ → ℕ → List ℕ → DeviceCall
call_at image place bytes = record { place = place; before = part image place (length bytes); after = bytes }

-- The whole image before a call, and the one after it when whole, from any image that a cut inside the call leaves.
abbrev pub before_of : DeviceCall → List ℕ → List ℕ
before_of call torn = put torn call.place call.before

abbrev pub after_of : DeviceCall → List ℕ → List ℕ
after_of call torn = put torn call.place call.after

pub record FlashState : Type 1 where
  pub geometry : Geometry
  -- the bytes, where the device tells them
  pub image : Option (List ℕ)
  -- how often a read, and a program or erase, has failed
  pub read_faults : ℕ
  pub write_faults : ℕ
  pub tells_moments : Bool
  -- the clock, a number that doesn't fall
  pub moment : ℕ
  -- `left_since t call image`: at some moment from t on, between two calls (None) or inside this program or erase,
  -- a power cut might have left this image
  pub left_since : ℕ → Option DeviceCall → List ℕ → Type 0
  pub tells_torn : Bool
  -- the program or erase that was cut off last, where the device tells it
  pub torn : Option DeviceCall
  pub label : List ℕ
  -- no read fails
  pub steady : Bool
  -- no call fails
  pub sound : Bool

-- P of the image, where it is told and the result is Ok
abbrev pub OnImage : {T E : Type 0} → Option (List ℕ) → Result T E → (List ℕ → Type 0) → Type 0
OnImage told result P = ForSome told (λ image. OnOk result (P image))

-- What holds of each device.
pub record IsLawful (s : FlashState) : Type 0 where
  pub sized : ForSome s.image (λ image. length image ≡ size_of s.geometry)
  pub sound_is_steady : IsTrue s.sound → IsTrue s.steady
  -- the moments since a time are among those since an earlier one
  pub earlier : (t u : ℕ) (call : Option DeviceCall) (c : List ℕ) → t ≤ u → s.left_since u call c → s.left_since t call c
  -- a power cut now leaves the image, and that is told where moments are told
  pub only_now : ForSome s.image (λ image. (call : Option DeviceCall) (c : List ℕ) → s.left_since s.moment call c → c ≡ image)
  pub tells_now : IsTrue s.tells_moments → ForSome s.image (λ image. (call : Option DeviceCall) × s.left_since s.moment call image)
