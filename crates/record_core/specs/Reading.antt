-- What is read of records on a device.
use Rattle.std.specs.Prelude.{◌≡◌, ℕ, ◌+◌, ◌-◌, ◌<◌, ◌≤◌, List, ◌++◌, length, replicate, IsTrue, Option, Some, None, Result, IsOk, IfErr, OnOk}
use Rattle.base_core.specs.Counts.{Rose}
use Rattle.flash_core.specs.Calls.{CountsStand, OnlyReads}
use Rattle.flash_core.specs.Images.{part}
use Rattle.flash_core.specs.State.{FlashState}
use Rattle.kv_model.specs.declared.error.KvError.{KvError}
use Rattle.kv_model.specs.declared.error.KvError.TheVariants.{ReadFault}
use Rattle.kv_model.specs.Crc.{crc_of}
use Rattle.kv_model.specs.Write.{Write}
use Rattle.base_core.specs.Units.{up}
use Rattle.base_core.specs.Sizes.{record_size}
use Rattle.record_core.specs.declared.header.Header.{Header}
use Rattle.record_core.specs.Header.{IsValid, header_front}
use Rattle.record_core.specs.Log.{IsRecordAt, extent}
use Rattle.record_core.specs.Record.{header_of}

-- What a call leaves that only reads the device, and that nothing but a failed read stops.
pub record HasRead {T : Type 0} (old new : FlashState) (result : Result T KvError) : Type 0 where
  pub kept : OnlyReads old new
  pub steady : IsTrue old.steady → IsOk result
  pub cause : IfErr result (λ e. (e ≡ ReadFault) × Rose old.read_faults new.read_faults)
  pub counts : OnOk result (CountsStand old new)

-- A header that a record may have which stands at this place and ends at or before this end, and its key's size.
pub record IsFitting (prog place end : ℕ) (key : List ℕ) (header : Header) : Type 0 where
  pub valid : IsValid header
  pub key_size : length key ≡ header.key_size
  pub inside : place + record_size prog header.key_size header.value_size ≤ end

-- A record of this key and with this header stands at this place and ends at or before this end.
pub record HasRecord (prog : ℕ) (image : List ℕ) (place end : ℕ) (key : List ℕ) (header : Header) : Type 0 where
  pub written : Write
  pub stands : IsRecordAt prog image place written
  pub inside : place + extent prog written ≤ end
  pub key_is : key ≡ written.key
  pub header_is : header ≡ header_of written.flags written.key written.value

-- No record stands at this place that ends at or before this end.
abbrev pub HasNoRecord : ℕ → List ℕ → ℕ → ℕ → Type 0
HasNoRecord prog image place end = (r : Write) → IsRecordAt prog image place r → end < place + extent prog r

-- the header of the record at this place that ends at or before this end, with its key, or none where none does
abbrev pub RecordAt : ℕ → List ℕ → ℕ → ℕ → List ℕ → Option Header → Type 0
RecordAt prog image place end key None = HasNoRecord prog image place end
RecordAt prog image place end key (Some header) = HasRecord prog image place end key header

-- The padding of a record at this place is 0xFF, both behind the header and behind a payload of this size.
pub record IsPadded (prog : ℕ) (image : List ℕ) (place size : ℕ) : Type 0 where
  pub header : part image (place + 24) (up prog 24 - 24) ≡ replicate (up prog 24 - 24) 255
  pub payload : part image (place + up prog 24 + size) (up prog size - size) ≡ replicate (up prog size - size) 255

-- the CRC of the record of this key and header, with the value that stands behind them
abbrev pub crc_read : ℕ → List ℕ → ℕ → List ℕ → Header → ℕ
crc_read prog image place key header =
    crc_of (header_front header.flags header.key_size header.value_size ++ key ++ part image (place + (up prog 24 + header.key_size)) header.value_size)

-- The CRC and the padding of the record at this place are right, given its key and header.
pub record IsWhole (prog : ℕ) (image : List ℕ) (place : ℕ) (key : List ℕ) (header : Header) : Type 0 where
  pub sum : header.crc ≡ crc_read prog image place key header
  pub padded : IsPadded prog image place (header.key_size + header.value_size)
