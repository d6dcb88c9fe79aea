-- A record that was begun behind the records of the active area is finished: its payload first, and its header last. It
-- may be written in pieces, by many calls.
use Rattle.std.specs.Prelude.{◌≡◌, ◌⊎◌, ℕ, ◌+◌, List, length, slice_index, Option, Some, None}
use Rattle.base_core.specs.Units.{up}
use Rattle.flash_core.specs.declared.geometry.Geometry.{Geometry}
use Rattle.flash_core.specs.Calls.{IsMomentWithin}
use Rattle.flash_core.specs.Images.{put}
use Rattle.flash_core.specs.Moments.{Within}
use Rattle.flash_core.specs.State.{DeviceCall}
use Rattle.record_core.specs.Cuts.{IsInArea, active_of}
use Rattle.record_core.specs.Mounts.{Contents, Holds}

-- A record with a payload of n bytes, in whole units, has room at the end of the records, where an erased byte stands.
pub record IsBegun (g : Geometry) (image : List ℕ) (c : Contents) (k n : ℕ) : Type 0 where
  pub holds : Holds g image c
  pub active : active_of c ≡ Some k
  pub inside : IsInArea g k c.end (up g.prog 24 + n)
  pub erased : slice_index image c.end ≡ 255

-- a moment at which nothing but the n bytes behind the place of its header differs from the image
abbrev pub InPayload : Geometry → ℕ → ℕ → List ℕ → Option DeviceCall → List ℕ → Type 0
InPayload g end n image call now = Within (end + up g.prog 24) n image call now

-- A moment of the program of its header, over the payload as it stands then; the whole image that it leaves has W.
pub record HeaderAtEnd (g : Geometry) (end n : ℕ) (W : List ℕ → Type 0) (image : List ℕ) (call : Option DeviceCall) (now : List ℕ) : Type 0 where
  pub filled : List ℕ
  pub header : List ℕ
  pub fills : InPayload g end n image None filled
  pub long : length header ≡ up g.prog 24
  pub whole : W (put filled end header)
  pub moment : IsMomentWithin filled end header call now

-- a moment at which it is finished: of the rest of its payload, and then of its header
abbrev pub FinishesRecord : Geometry → ℕ → ℕ → (List ℕ → Type 0) → List ℕ → Option DeviceCall → List ℕ → Type 0
FinishesRecord g end n W image call now = InPayload g end n image call now ⊎ HeaderAtEnd g end n W image call now
