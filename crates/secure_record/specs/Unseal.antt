-- The reading of whole sealed records.
use Rattle.std.specs.Prelude.{◌≡◌, ◌++◌, ℕ, ◌+◌, if◌then◌else◌, List, length, take, drop, slice_range, Option, Some, None}
use Rattle.std.specs.Str.{bytes_eq}
use Rattle.secure_record.specs.declared.metadata.Metadata.{Metadata}
use Rattle.secure_record.specs.Metadata.{metadata_of, metadata_size, spelling, IsMetadata}
use Rattle.secure_record.specs.Sealed.{opened, record_tag, sealed}

-- what a record seals, with the vector that its metadata has
pub record Opened : Type 0 where
  pub flags : ℕ
  pub vector : ℕ
  pub value : List ℕ

-- the stored bytes of a record with this metadata, and the CMAC behind them
abbrev pub stored_in : Metadata → List ℕ → List ℕ
stored_in m bytes = slice_range bytes (metadata_size m.revision) (metadata_size m.revision + m.size)

abbrev pub tag_in : Metadata → List ℕ → List ℕ
tag_in m bytes = drop (metadata_size m.revision + m.size) bytes

abbrev pub opened_as : List ℕ → List ℕ → Metadata → List ℕ → Opened
opened_as root key m bytes = record { flags = m.flags; vector = m.vector; value = opened root key m.flags m.vector bytes }

-- the same where the bytes begin with metadata, or don't
abbrev pub unseal_by : List ℕ → List ℕ → List ℕ → Option Metadata → Option Opened
unseal_by root key bytes None = None
unseal_by root key bytes (Some m) =
    if bytes_eq (tag_in m bytes) (record_tag root key m (stored_in m bytes)) then Some (opened_as root key m (stored_in m bytes)) else None

-- what the bytes seal for this key: nothing where they have metadata of neither revision or another CMAC
unfoldable pub unseal : List ℕ → List ℕ → List ℕ → Option Opened
unseal root key bytes = unseal_by root key bytes (metadata_of (take 40 bytes) (length bytes))

-- the bytes are the record of what they open to, with some metadata of either revision
pub record WasSealed (root key bytes : List ℕ) (o : Opened) : Type 0 where
  pub metadata : Metadata
  pub valid : IsMetadata metadata
  pub flags : metadata.flags ≡ o.flags
  pub vector : metadata.vector ≡ o.vector
  pub size : metadata.size ≡ length o.value
  pub bytes_are : bytes ≡ sealed root key metadata o.value

-- the bytes are the metadata, the stored bytes of its size, and 16 bytes more
pub record IsInParts (bytes : List ℕ) (m : Metadata) : Type 0 where
  pub valid : IsMetadata m
  pub joined : bytes ≡ spelling m ++ stored_in m bytes ++ tag_in m bytes
  pub stored : length (stored_in m bytes) ≡ m.size
  pub tag : length (tag_in m bytes) ≡ 16
