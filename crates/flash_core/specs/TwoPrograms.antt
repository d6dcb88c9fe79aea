-- A header and a payload right behind it.
use Rattle.std.specs.Prelude.{◌≡◌, ◌⊎◌, ℕ, ◌+◌, List, length, Option, None}
use Rattle.flash_core.specs.Calls.{IsMomentWithin}
use Rattle.flash_core.specs.Images.{put}
use Rattle.flash_core.specs.State.{DeviceCall}

-- the image with the payload alone
abbrev pub payload_put : List ℕ → ℕ → List ℕ → List ℕ → List ℕ
payload_put image place header payload = put image (place + length header) payload

-- the image with both
abbrev pub both_put : List ℕ → ℕ → List ℕ → List ℕ → List ℕ
both_put image place header payload = put (payload_put image place header payload) place header

-- a moment before either, of the payload's program over the image, or of the header's over the whole payload
abbrev pub IsHeaderLast : ℕ → List ℕ → List ℕ → List ℕ → Option DeviceCall → List ℕ → Type 0
IsHeaderLast place header payload image call c =
    ((call ≡ None) × (c ≡ image))
    ⊎ (IsMomentWithin image (place + length header) payload call c
    ⊎ IsMomentWithin (payload_put image place header payload) place header call c)
