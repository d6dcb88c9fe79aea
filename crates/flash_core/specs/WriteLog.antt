-- The writes that a device in memory keeps, and the moments that they tell.
use Rattle.std.specs.Prelude.{◌≡◌, ℕ, ◌+◌, ◌-◌, ◌<◌, ◌≤◌, List, [], ◌∷◌, ◌++◌, length, take, drop, get_or, Option, Some, None}
use Rattle.base_core.specs.Counts.{counted}
use Rattle.flash_core.specs.declared.write_log.Range.{Range}
use Rattle.flash_core.specs.Calls.{IsMomentWithin}
use Rattle.flash_core.specs.Images.{put}
use Rattle.flash_core.specs.State.{DeviceCall}

-- A program or erase: its place, and the bytes that it left there.
pub record Logged : Type 0 where
  pub place : ℕ
  pub bytes : List ℕ

-- the image behind these writes
abbrev pub replayed : List ℕ → List Logged → List ℕ
replayed image [] = image
replayed image (write ∷ writes) = replayed (put image write.place write.bytes) writes

-- the image behind the first of them
abbrev pub image_at : List ℕ → List Logged → ℕ → List ℕ
image_at first writes count = replayed first (take count writes)

-- the one behind those
abbrev pub write_at : List Logged → ℕ → Logged
write_at writes count = get_or writes count (record { place = 0; bytes = [] })

-- What a log holds: the image before its first write, the writes, for how many bytes it has room, and how many writes it
-- has refused.
pub record LogState : Type 0 where
  pub first : List ℕ
  pub writes : List Logged
  pub left : ℕ
  pub faults : ℕ

-- the log with one write more
abbrev pub with_write : LogState → ℕ → List ℕ → LogState
with_write log place bytes = record log { writes = log.writes ++ record { place = place; bytes = bytes } ∷ []; left = log.left - length bytes }

-- and with one refused
abbrev pub with_refusal : LogState → LogState
with_refusal log = record log { faults = counted log.faults }

-- the log has too little room for n bytes
abbrev pub IsFull : Option LogState → ℕ → Type 0
IsFull None n = ⊥
IsFull (Some log) n = log.left < n

-- Between two writes, since time t: so many are whole.
pub record BetweenWrites (first : List ℕ) (writes : List Logged) (t : ℕ) (c : List ℕ) : Type 0 where
  pub count : ℕ
  pub since : t ≤ count
  pub most : count ≤ length writes
  pub is : c ≡ image_at first writes count

-- Inside the one behind those.
pub record InWrite (first : List ℕ) (writes : List Logged) (t : ℕ) (call : DeviceCall) (c : List ℕ) : Type 0 where
  pub count : ℕ
  pub since : t ≤ count
  pub more : count < length writes
  pub moment : IsMomentWithin (image_at first writes count) (write_at writes count).place (write_at writes count).bytes (Some call) c

-- the moments that these writes tell
abbrev pub MomentOf : List ℕ → List Logged → ℕ → Option DeviceCall → List ℕ → Type 0
MomentOf first writes t None c = BetweenWrites first writes t c
MomentOf first writes t (Some call) c = InWrite first writes t call c

-- ---- how a log is kept: the ranges, and all their bytes in one list

abbrev pub total : List Range → ℕ
total [] = 0
total (range ∷ ranges) = range.size + total ranges

abbrev pub writes_of : List Range → List ℕ → List Logged
writes_of [] bytes = []
writes_of (range ∷ ranges) bytes = record { place = range.place; bytes = take range.size bytes } ∷ writes_of ranges (drop range.size bytes)
