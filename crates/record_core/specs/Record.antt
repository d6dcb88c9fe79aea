-- A record as its bytes, and the record that begins an area.
use Rattle.std.specs.Prelude.{◌≡◌, ℕ, ◌<◌, ◌^◌, ◌-◌, List, ◌++◌, length, replicate, IsTrue}
use Rattle.std.specs.Int.{w16, w32, to_le_bytes}
use Rattle.kv_model.specs.Keys.{is_key, master_key}
use Rattle.kv_model.specs.Crc.{crc_of}
use Rattle.base_core.specs.Units.{up}
use Rattle.record_core.specs.declared.header.Header.{Header}
use Rattle.record_core.specs.Header.{IsHeader, header_front, header_bytes}

-- bytes 0xFF up to whole program units
abbrev pub padded : ℕ → List ℕ → List ℕ
padded prog bytes = bytes ++ replicate (up prog (length bytes) - length bytes) 255

-- over the header's front, then the key, then the value
abbrev pub record_crc : ℕ → List ℕ → List ℕ → ℕ
record_crc flags key value = crc_of (header_front flags (length key) (length value) ++ key ++ value)

-- what the header says
abbrev pub header_of : ℕ → List ℕ → List ℕ → Header
header_of flags key value = record { flags = flags; key_size = length key; value_size = length value; crc = record_crc flags key value }

-- the header in whole program units
unfoldable pub record_header : ℕ → ℕ → List ℕ → List ℕ → List ℕ
record_header prog flags key value = padded prog (header_bytes (header_of flags key value))

-- the key and the value in whole program units
unfoldable pub record_payload : ℕ → List ℕ → List ℕ → List ℕ
record_payload prog key value = padded prog (key ++ value)

-- the one spelling of a record
unfoldable pub record_bytes : ℕ → ℕ → List ℕ → List ℕ → List ℕ
record_bytes prog flags key value = record_header prog flags key value ++ record_payload prog key value

-- These bytes are a record of this key.
pub record IsRecord (prog flags : ℕ) (key value bytes : List ℕ) : Type 0 where
  pub valid_key : IsTrue (is_key key)
  pub valid_header : IsHeader flags (length key) (length value)
  pub spelling : bytes ≡ record_bytes prog flags key value

-- a master record's value: the version, the revision 1, and zero
abbrev pub master_value : ℕ → List ℕ
master_value version = to_le_bytes w16 version ++ to_le_bytes w16 1 ++ to_le_bytes w32 0

abbrev pub master_bytes : ℕ → ℕ → List ℕ
master_bytes prog version = record_bytes prog 0 master_key (master_value version)

-- These bytes are a master record of this version.
pub record IsMaster (prog version : ℕ) (bytes : List ℕ) : Type 0 where
  pub in_range : version < 2 ^ 16
  pub spelling : bytes ≡ master_bytes prog version
