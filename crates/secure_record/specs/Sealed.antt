-- Sealed records: how a value is put into one.
use Rattle.std.specs.Prelude.{ℕ, ◌==◌, if◌then◌else◌, List, ◌++◌, length, Option, None}
use Rattle.std.specs.Int.{w64, w128, to_be_bytes, from_be_bytes}
use Rattle.cipher_core.specs.Cmac.{cmac}
use Rattle.cipher_core.specs.Ctr.{ctr_text}
use Rattle.cipher_core.specs.Salt.{derived}
use Rattle.cipher_core.specs.declared.derivation.Salt.TheVariants.{Enc, Auth}
use Rattle.kv_model.specs.Flags.{is_confidential}
use Rattle.secure_record.specs.declared.metadata.Revision.TheVariants.{First, Second}
use Rattle.secure_record.specs.declared.metadata.Metadata.{Metadata}
use Rattle.secure_record.specs.Metadata.{spelling}

-- the first counter block: the vector, and behind it a number of 64 bits that counts blocks
unfoldable pub first_counter : ℕ → ℕ
first_counter vector = from_be_bytes w128 (to_be_bytes w64 vector ++ to_be_bytes w64 0)

-- the bytes of a value as they stand in the record: a confidential one in counter mode, and any other as it is
unfoldable pub stored : List ℕ → List ℕ → ℕ → ℕ → List ℕ → List ℕ
stored root key flags vector value =
    if is_confidential flags then ctr_text (derived root Enc key) (first_counter vector) 0 value else value

-- counter mode undoes itself, so the value comes of its stored bytes in the same way
abbrev pub opened : List ℕ → List ℕ → ℕ → ℕ → List ℕ → List ℕ
opened root key flags vector bytes = stored root key flags vector bytes

-- the CMAC of a record: over its metadata, the key that it is stored under, and the stored bytes
unfoldable pub record_tag : List ℕ → List ℕ → Metadata → List ℕ → List ℕ
record_tag root key m bytes = cmac (derived root Auth key) (spelling m ++ key ++ bytes)

-- the record of a value with this metadata
unfoldable pub sealed : List ℕ → List ℕ → Metadata → List ℕ → List ℕ
sealed root key m value =
    let bytes = stored root key m.flags m.vector value in
    spelling m ++ bytes ++ record_tag root key m bytes

-- ---- revision 2, in which each record is written

abbrev pub metadata2 : ℕ → ℕ → ℕ → Option (List ℕ) → Metadata
metadata2 size flags vector prior = record { revision = Second; size = size; flags = flags; vector = vector; prior = prior }

-- the vector is the number of the seal, and zero without flags
abbrev pub sealed_vector : ℕ → ℕ → ℕ
sealed_vector flags iv = if flags == 0 then 0 else iv

abbrev pub sealed_metadata : ℕ → ℕ → ℕ → Option (List ℕ) → Metadata
sealed_metadata size flags iv prior = metadata2 size flags (sealed_vector flags iv) prior

abbrev pub tag : List ℕ → List ℕ → ℕ → ℕ → Option (List ℕ) → List ℕ → List ℕ
tag root key flags vector prior bytes = record_tag root key (metadata2 (length bytes) flags vector prior) bytes

abbrev pub seal : List ℕ → List ℕ → ℕ → ℕ → Option (List ℕ) → List ℕ → List ℕ
seal root key flags iv prior value = sealed root key (sealed_metadata (length value) flags iv prior) value

-- ---- revision 1, which is read alone

abbrev pub metadata1 : ℕ → ℕ → ℕ → Metadata
metadata1 size flags vector = record { revision = First; size = size; flags = flags; vector = vector; prior = None }

-- the vector is zero unless the value is confidential
abbrev pub sealed_vector1 : ℕ → ℕ → ℕ
sealed_vector1 flags iv = if is_confidential flags then iv else 0

abbrev pub tag1 : List ℕ → List ℕ → ℕ → ℕ → List ℕ → List ℕ
tag1 root key flags vector bytes = record_tag root key (metadata1 (length bytes) flags vector) bytes

abbrev pub seal1 : List ℕ → List ℕ → ℕ → ℕ → List ℕ → List ℕ
seal1 root key flags iv value = sealed root key (metadata1 (length value) flags (sealed_vector1 flags iv)) value
