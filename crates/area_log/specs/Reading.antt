-- What calls answer that only read the device.
use Rattle.std.specs.Prelude.{◌≡◌, ◌≢◌, ◌⊎◌, ℕ, ◌+◌, ◌-◌, ◌≤◌, ◌<◌, ◌^◌, ◌↔◌, min, List, ◌++◌, length, replicate, IsTrue, Option, OnOk, Result, MatchResult}
use Rattle.flash_core.specs.declared.geometry.Geometry.{Geometry}
use Rattle.flash_core.specs.Images.{part}
use Rattle.flash_core.specs.Runs.{IsCounted}
use Rattle.flash_core.specs.State.{DeviceCall, FlashState}
use Rattle.kv_model.specs.declared.error.KvError.{KvError}
use Rattle.kv_model.specs.declared.error.KvError.TheVariants.{Corrupt, InvalidSize}
use Rattle.kv_model.specs.declared.call.Got.{Got}
use Rattle.kv_model.specs.declared.limits.TheConstants.{MAX_VALUE}
use Rattle.kv_model.specs.Crc.{crc_of}
use Rattle.kv_model.specs.Write.{Write}
use Rattle.base_core.specs.Units.{up}
use Rattle.record_core.specs.declared.header.Header.{Header}
use Rattle.record_core.specs.Endings.{kv_ended}
use Rattle.record_core.specs.Header.{header_front}
use Rattle.record_core.specs.Log.{IsRecordAt, extent}
use Rattle.record_core.specs.Lookup.{HeadBroken, HeadSeen, IsReadFault, IsSeen}
use Rattle.area_log.specs.declared.area.Area.{Area}
use Rattle.area_log.specs.Areas.{end_of}

-- A record stands at this place of an area, and ends in it.
pub record HoldsRecord (g : Geometry) (image : List ℕ) (area : Area) (at : ℕ) : Type 0 where
  pub this : Write
  pub stands : IsRecordAt g.prog image at this
  pub inside : at + extent g.prog this ≤ end_of area

-- bytes at the front of a buffer, with zeros behind them
abbrev pub filled : ℕ → List ℕ → List ℕ
filled room bytes = bytes ++ replicate (room - length bytes) 0

-- The offset lies in the value, and as many bytes are given from there on as there are and fit.
pub record IsWithin (offset room : ℕ) (got : Got) : Type 0 where
  pub in_value : offset ≤ got.size
  pub read : got.read ≡ min (got.size - offset) room
  pub size_most : got.size ≤ MAX_VALUE

-- The flags and the size of the whole value were given, and at the front of the buffer its bytes from the offset on.
pub record Gives (r : Write) (offset : ℕ) (buf : List ℕ) (got : Got) : Type 0 where
  pub flags : got.flags.bits ≡ r.flags
  pub size : got.size ≡ length r.value
  pub bytes : buf ≡ filled (length buf) (part r.value offset got.read)

-- This payload, the key and the value, was read behind this header, whose record takes at most this room.
pub record IsRead (s : FlashState) (place room : ℕ) (header : Header) (payload : List ℕ) : Type 0 where
  pub head : HeadSeen s place room header
  pub seen : IsSeen s (place + up s.geometry.prog 24) (header.key_size + header.value_size) payload

-- the CRC of a header's front and of a payload
abbrev pub sum_of : Header → List ℕ → ℕ
sum_of header payload = crc_of (header_front header.flags header.key_size header.value_size ++ payload)

-- The CRC in the header is not that of what was read: it is answered, and then the one of what was read.
pub record IsMismatch (s : FlashState) (place room : ℕ) (e : KvError) : Type 0 where
  pub header : Header
  pub payload : List ℕ
  pub read : IsRead s place room header payload
  pub differ : header.crc ≢ sum_of header payload
  pub fits : sum_of header payload < 2 ^ 32
  pub is : e ≡ Corrupt header.crc (sum_of header payload)

-- The CRC is right, and the offset above the size of the value.
pub record IsBeyond (s : FlashState) (place room offset : ℕ) (e : KvError) : Type 0 where
  pub header : Header
  pub payload : List ℕ
  pub read : IsRead s place room header payload
  pub right : header.crc ≡ sum_of header payload
  pub beyond : header.value_size < offset
  pub is : e ≡ InvalidSize

-- The CRC is right, and bytes are given of what was read, from the offset on as many as there are and fit.
pub record GivesRead (s : FlashState) (place room offset : ℕ) (buf : List ℕ) (got : Got) : Type 0 where
  pub header : Header
  pub payload : List ℕ
  pub read : IsRead s place room header payload
  pub right : header.crc ≡ sum_of header payload
  pub in_value : offset ≤ header.value_size
  pub flags : got.flags.bits ≡ header.flags
  pub size : got.size ≡ header.value_size
  pub count : got.read ≡ min (header.value_size - offset) (length buf)
  pub bytes : buf ≡ filled (length buf) (part payload (header.key_size + offset) got.read)

-- why a value is not given
abbrev pub IsNotRead : FlashState → FlashState → ℕ → ℕ → ℕ → KvError → Type 0
IsNotRead old new place room offset e =
    IsReadFault old new e ⊎ (HeadBroken old place room e ⊎ (IsMismatch old place room e ⊎ IsBeyond old place room offset e))

-- the value of the record at this place, which takes at most this room, from the offset on, or why it is not given
abbrev pub ReadsValue : FlashState → FlashState → ℕ → ℕ → ℕ → List ℕ → Result Got KvError → Type 0
ReadsValue old new place room offset buf result = MatchResult result (GivesRead old place room offset buf) (IsNotRead old new place room offset)

-- Nothing has changed but the count of read faults, which rises only where a read failed, and whether the device is
-- steady and sound. A sound device stays sound, and a steady one steady behind Ok.
pub record Visits {T : Type 0} (old new : FlashState) (result : Result T KvError) : Type 0 where
  pub geometry : new.geometry ≡ old.geometry
  pub image : new.image ≡ old.image
  pub label : new.label ≡ old.label
  pub tells_moments : new.tells_moments ≡ old.tells_moments
  pub tells_torn : new.tells_torn ≡ old.tells_torn
  pub torn : new.torn ≡ old.torn
  pub read_faults : old.read_faults ≤ new.read_faults
  pub write_faults : new.write_faults ≡ old.write_faults
  pub counts : IsCounted old new (kv_ended result)
  pub steady : IsTrue old.steady → OnOk result (IsTrue new.steady)
  pub sound : IsTrue old.sound → IsTrue new.sound
  pub moment : new.moment ≡ old.moment
  pub told : (t : ℕ) (call : Option DeviceCall) (c : List ℕ) → new.left_since t call c ↔ old.left_since t call c
