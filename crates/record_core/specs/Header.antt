-- A record's header: 24 bytes, numbers with the lowest byte first.
use Rattle.std.specs.Prelude.{◌≡◌, ◌⊎◌, ℕ, ◌≤◌, List, ◌++◌, codes, slice_range}
use Rattle.std.specs.Int.{w16, w32, to_le_bytes}
use Rattle.kv_model.specs.declared.limits.TheConstants.{MAX_VALUE}
use Rattle.kv_model.specs.Flags.{remove_flags}
use Rattle.record_core.specs.declared.header.Header.{Header}

-- what stands before the CRC, and goes into it first
unfoldable pub header_front : ℕ → ℕ → ℕ → List ℕ
header_front flags key_size value_size =
    codes "KVR1" ++ to_le_bytes w16 24 ++ to_le_bytes w16 1 ++ to_le_bytes w32 flags
    ++ to_le_bytes w16 key_size ++ to_le_bytes w16 0 ++ to_le_bytes w32 value_size

unfoldable pub header_bytes : Header → List ℕ
header_bytes header = header_front header.flags header.key_size header.value_size ++ to_le_bytes w32 header.crc

-- The sizes and flags that a header may have: of a record with a plain value, of a write-once one, and of a remove.
pub record IsHeader (flags key_size value_size : ℕ) : Type 0 where
  pub kind : (flags ≡ 0) ⊎ (flags ≡ 1) ⊎ (flags ≡ remove_flags)
  pub key_least : 1 ≤ key_size
  pub key_most : key_size ≤ 128
  pub value_most : value_size ≤ MAX_VALUE
  pub remove_is_empty : flags ≡ remove_flags → value_size ≡ 0

-- the sizes and flags of a header that was read
abbrev pub IsValid : Header → Type 0
IsValid header = IsHeader header.flags header.key_size header.value_size

-- what all headers share
pub record HasForm (bytes : List ℕ) : Type 0 where
  pub magic : slice_range bytes 0 4 ≡ codes "KVR1"
  pub header_size : slice_range bytes 4 6 ≡ to_le_bytes w16 24
  pub revision : slice_range bytes 6 8 ≡ to_le_bytes w16 1
  pub reserved : slice_range bytes 14 16 ≡ to_le_bytes w16 0

-- what headers don't share
pub record HasFields (bytes : List ℕ) (header : Header) : Type 0 where
  pub flags : slice_range bytes 8 12 ≡ to_le_bytes w32 header.flags
  pub key_size : slice_range bytes 12 14 ≡ to_le_bytes w16 header.key_size
  pub value_size : slice_range bytes 16 20 ≡ to_le_bytes w32 header.value_size
  pub crc : slice_range bytes 20 24 ≡ to_le_bytes w32 header.crc
