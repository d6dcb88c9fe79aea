-- What is said of each moment of a run of calls.
use Rattle.std.specs.Prelude.{◌≡◌, ◌⊎◌, ℕ, ◌+◌, ◌≤◌, List, length, IsTrue, Option, Some, None}
use Rattle.flash_core.specs.Images.{Torn}
use Rattle.flash_core.specs.State.{DeviceCall, FlashState, before_of, after_of}

-- The clock didn't fall, and each image that is told anew of the moments since some time was told before or has R,
-- with the program or erase, if any, inside which the moment stands.
pub record Adds (old new : FlashState) (R : Option DeviceCall → List ℕ → Type 0) : Type 0 where
  pub moment : old.moment ≤ new.moment
  pub anew : (t : ℕ) (call : Option DeviceCall) (c : List ℕ) → t ≤ old.moment → new.left_since t call c → old.left_since t call c ⊎ R call c

-- At each moment since old, each image that a power cut may leave has R. This follows from `Adds` for an R that the
-- image at old has (`each_moment`).
abbrev pub EachMoment : FlashState → FlashState → (Option DeviceCall → List ℕ → Type 0) → Type 0
EachMoment old new R = (call : Option DeviceCall) (c : List ℕ) → new.left_since old.moment call c → R call c

-- The image that stands after a program or erase that failed: it has R inside that call, whose two whole images have
-- R between calls. Where the device tells torn calls it tells this one, unless the image itself has R between calls.
pub record FailedInside (s : FlashState) (R : Option DeviceCall → List ℕ → Type 0) (left : List ℕ) : Type 0 where
  pub call : DeviceCall
  pub before : R None (before_of call left)
  pub after : R None (after_of call left)
  pub inside : R (Some call) left
  pub told : IsTrue s.tells_torn → (s.torn ≡ Some call) ⊎ R None left

-- P between calls, and inside a call P wherever Q holds of it
abbrev pub Unless : (DeviceCall → List ℕ → Type 0) → (List ℕ → Type 0) → Option DeviceCall → List ℕ → Type 0
Unless Q P None c = P c
Unless Q P (Some call) c = Q call c → P c

-- Inside a call whose range lies in the n bytes from this place on, and before which, too, nothing but these differs.
pub record IsInside (place n : ℕ) (image : List ℕ) (call : DeviceCall) (c : List ℕ) : Type 0 where
  pub from : place ≤ call.place
  pub to : call.place + length call.after ≤ place + n
  pub torn : Torn place n image c
  pub torn_before : Torn place n image (before_of call c)

-- a moment at which nothing but the n bytes from this place on differs from the image
abbrev pub Within : ℕ → ℕ → List ℕ → Option DeviceCall → List ℕ → Type 0
Within place n image None c = Torn place n image c
Within place n image (Some call) c = IsInside place n image call c
