-- What a sealed record says of itself, in front of the bytes of its value: 20 bytes in revision 1, 40 in revision 2.
use Rattle.std.specs.Prelude.{◌≡◌, ℕ, ◌<◌, ◌≤◌, ◌+◌, ◌^◌, ◌&&◌, ◌==◌, nat_le, min, if◌then◌else◌, Bool, IsTrue, List, ◌++◌, length, take, slice_range, Option, Some, None}
use Rattle.std.specs.Int.{w16, w32, w64, to_le_bytes, to_be_bytes, from_le_bytes, from_be_bytes}
use Rattle.std.specs.Str.{bytes_eq}
use Rattle.cipher_core.specs.Cmac.{zero_block}
use Rattle.kv_model.specs.Flags.{is_secure_flags}
use Rattle.secure_record.specs.declared.metadata.Revision.{Revision}
use Rattle.secure_record.specs.declared.metadata.Revision.TheVariants.{First, Second}
use Rattle.secure_record.specs.declared.metadata.Metadata.{Metadata}

abbrev pub revision_number : Revision → ℕ
revision_number First = 1
revision_number Second = 2

abbrev pub metadata_size : Revision → ℕ
metadata_size First = 20
metadata_size Second = 40

-- the CMAC that the record's own replaces: none, or this one
abbrev pub prior_bytes : Option (List ℕ) → List ℕ
prior_bytes None = to_le_bytes w32 0 ++ zero_block
prior_bytes (Some prior) = to_le_bytes w32 1 ++ prior

-- what both revisions begin with; the vector has its highest byte first
abbrev pub front : Metadata → List ℕ
front m =
    to_le_bytes w16 (metadata_size m.revision) ++ to_le_bytes w16 (revision_number m.revision) ++ to_le_bytes w32 m.size
    ++ to_le_bytes w32 m.flags ++ to_be_bytes w64 m.vector

-- revision 1 has no prior
abbrev pub spelling_in : Revision → Metadata → List ℕ
spelling_in First m = front m
spelling_in Second m = front m ++ prior_bytes m.prior

-- the bytes of the metadata
unfoldable pub spelling : Metadata → List ℕ
spelling m = spelling_in m.revision m

-- ---- the reading of metadata

-- what a head says at the places of the fields, if it is one of revision 1
abbrev pub first_in : List ℕ → Metadata
first_in head = record {
  revision = First;
  size = from_le_bytes w32 (slice_range head 4 8);
  flags = from_le_bytes w32 (slice_range head 8 12);
  vector = from_be_bytes w64 (slice_range head 12 20);
  prior = None;
}

abbrev pub prior_in : List ℕ → Option (List ℕ)
prior_in head = if from_le_bytes w32 (slice_range head 20 24) == 0 then None else Some (slice_range head 24 40)

-- the same of revision 2
abbrev pub second_in : List ℕ → Metadata
second_in head = record (first_in head) { revision = Second; prior = prior_in head }

-- the size of a record with this metadata: behind it stand the bytes of the value and a CMAC
abbrev pub record_size : Metadata → ℕ
record_size m = metadata_size m.revision + m.size + 16

-- the head begins with just this metadata, and it may stand in a record of this size
abbrev pub is_metadata : Metadata → List ℕ → ℕ → Bool
is_metadata m head size =
    bytes_eq (take (metadata_size m.revision) head) (spelling m) && nat_le m.size 65536 && is_secure_flags m.flags
    && size == record_size m

-- the head is the first 40 bytes of so many, or all where they are fewer
abbrev pub IsHead : List ℕ → ℕ → Type 0
IsHead head size = length head ≡ min 40 size

-- the metadata with which a record of this size begins, whose first 40 bytes are the head, or all where it is shorter
unfoldable pub metadata_of : List ℕ → ℕ → Option Metadata
metadata_of head size =
    if is_metadata (first_in head) head size then Some (first_in head)
    else if is_metadata (second_in head) head size then Some (second_in head) else None

-- a prior is 16 bytes, and revision 1 has none
abbrev pub HasPrior : Revision → Option (List ℕ) → Type 0
HasPrior revision None = Unit {0}
HasPrior revision (Some prior) = (revision ≡ Second) × (length prior ≡ 16)

-- metadata that a record may have
pub record IsMetadata (m : Metadata) : Type 0 where
  pub size : m.size ≤ 65536
  pub flags : IsTrue (is_secure_flags m.flags)
  pub vector : m.vector < 2 ^ 64
  pub prior : HasPrior m.revision m.prior
