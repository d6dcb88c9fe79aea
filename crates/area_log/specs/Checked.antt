-- What a check of a record's CRC found, over a payload that begins at this place.
use Rattle.std.specs.Prelude.{◌≡◌, ◌≢◌, ℕ, ◌+◌, ◌-◌, ◌<◌, ◌≤◌, ◌^◌, min, List, length}
use Rattle.flash_core.specs.Images.{part}
use Rattle.flash_core.specs.State.{FlashState}
use Rattle.kv_model.specs.declared.error.KvError.{KvError}
use Rattle.kv_model.specs.declared.error.KvError.TheVariants.{Corrupt, InvalidSize}
use Rattle.kv_model.specs.declared.call.Got.{Got}
use Rattle.record_core.specs.declared.header.Header.{Header}
use Rattle.kv_model.specs.Crc.{crc_of}
use Rattle.record_core.specs.Header.{header_front}
use Rattle.record_core.specs.Lookup.{IsCrcOf, IsSeen}
use Rattle.area_log.specs.Reading.{filled, sum_of}

-- the CRC of the header's front and of the key at this place
abbrev pub IsBegun : FlashState → ℕ → Header → ℕ → Type 0
IsBegun s place header = IsCrcOf s place header.key_size (crc_of (header_front header.flags header.key_size header.value_size))

-- The CRC is not that of the payload that was read.
pub record ChecksWrong (s : FlashState) (place : ℕ) (header : Header) (e : KvError) : Type 0 where
  pub payload : List ℕ
  pub seen : IsSeen s place (header.key_size + header.value_size) payload
  pub differ : header.crc ≢ sum_of header payload
  pub fits : sum_of header payload < 2 ^ 32
  pub is : e ≡ Corrupt header.crc (sum_of header payload)

-- It is, and these are bytes of that payload's value.
pub record Passes (s : FlashState) (place : ℕ) (header : Header) (skipped : ℕ) (out : List ℕ) : Type 0 where
  pub payload : List ℕ
  pub seen : IsSeen s place (header.key_size + header.value_size) payload
  pub right : header.crc ≡ sum_of header payload
  pub bytes : out ≡ part payload (header.key_size + skipped) (length out)

-- It is, and the offset is above the size of the value.
pub record IsTooFar (s : FlashState) (place : ℕ) (header : Header) (offset : ℕ) (e : KvError) : Type 0 where
  pub payload : List ℕ
  pub seen : IsSeen s place (header.key_size + header.value_size) payload
  pub right : header.crc ≡ sum_of header payload
  pub beyond : header.value_size < offset
  pub is : e ≡ InvalidSize

-- It is, and this was given.
pub record GivesChecked (s : FlashState) (place : ℕ) (header : Header) (offset : ℕ) (buf : List ℕ) (got : Got) : Type 0 where
  pub payload : List ℕ
  pub seen : IsSeen s place (header.key_size + header.value_size) payload
  pub right : header.crc ≡ sum_of header payload
  pub in_value : offset ≤ header.value_size
  pub flags : got.flags.bits ≡ header.flags
  pub size : got.size ≡ header.value_size
  pub count : got.read ≡ min (header.value_size - offset) (length buf)
  pub bytes : buf ≡ filled (length buf) (part payload (header.key_size + offset) got.read)
