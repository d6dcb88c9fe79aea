-- Erase units, erased one after another.
use Rattle.std.specs.Prelude.{◌≡◌, ℕ, ◌+◌, ◌*◌, ◌<◌, ◌≤◌, List, replicate, Option, Some, None}
use Rattle.base_core.specs.Units.{IsMultipleOf}
use Rattle.flash_core.specs.declared.geometry.Geometry.{Geometry}
use Rattle.flash_core.specs.Calls.{IsMomentWithin}
use Rattle.flash_core.specs.Images.{put}
use Rattle.flash_core.specs.Sizes.{IsValid, size_of}
use Rattle.flash_core.specs.State.{DeviceCall}

-- so many units from this place on are units of the device
pub record AreUnits (g : Geometry) (place count : ℕ) : Type 0 where
  pub valid : IsValid g
  pub aligned : IsMultipleOf g.erase place
  pub inside : place + count * g.erase ≤ size_of g

-- the image with n bytes from this place on at 0xFF
abbrev pub erased_from : List ℕ → ℕ → ℕ → List ℕ
erased_from image place n = put image place (replicate n 255)

-- Between two erases: the first of the units are erased, and no other.
pub record FirstErased (g : Geometry) (place count : ℕ) (image c : List ℕ) : Type 0 where
  pub units : ℕ
  pub most : units ≤ count
  pub is : c ≡ erased_from image place (units * g.erase)

-- Inside the erase of the next one.
pub record InErase (g : Geometry) (place count : ℕ) (image : List ℕ) (call : DeviceCall) (c : List ℕ) : Type 0 where
  pub units : ℕ
  pub more : units < count
  pub moment : IsMomentWithin (erased_from image place (units * g.erase)) (place + units * g.erase) (replicate g.erase 255) (Some call) c

-- a moment of the erase of so many units from this place on, in ascending order and each by one erase
abbrev pub ErasesUnits : Geometry → ℕ → ℕ → List ℕ → Option DeviceCall → List ℕ → Type 0
ErasesUnits g place count image None c = FirstErased g place count image c
ErasesUnits g place count image (Some call) c = InErase g place count image call c
