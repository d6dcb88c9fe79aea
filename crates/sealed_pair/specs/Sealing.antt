-- What a secure store keeps for a value: a sealed record in the primary map, and its tag in the rollback map where the
-- key is mirrored.
use Rattle.std.specs.Prelude.{ℕ, Bool, ◌||◌, ◌-◌, ◌%◌, if◌then◌else◌, List, [], length, drop, unwrap_or}
use Rattle.std.specs.FinMap.{insert, remove}
use Rattle.kv_model.specs.Constants.{Constants, Secure}
use Rattle.kv_model.specs.FlaggedMap.{Stored}
use Rattle.kv_model.specs.Flags.{is_write_once, is_confidential, is_replay_protected, is_mirrored}
use Rattle.kv_model.specs.StoreState.{Maps}
use Rattle.sealed_pair.specs.declared.limits.TheConstants.{TAG_SIZE}

-- what the constants of a run have for a secure store; those of a plain one have no room
abbrev pub secure_of : Constants → Secure
secure_of constants = unwrap_or constants.secure (record { root = []; prog = 1; room = 0 })

-- a set with any of the three flags takes a number, and its vector is that number
abbrev pub is_numbered : ℕ → Bool
is_numbered flags = is_write_once flags || is_confidential flags || is_replay_protected flags

-- both maps keep write-once beside a key, and no other flag
abbrev pub kept_flags : ℕ → ℕ
kept_flags flags = flags % 2

-- a sealed record ends with its tag
abbrev pub tag_of : List ℕ → List ℕ
tag_of bytes = drop (length bytes - TAG_SIZE) bytes

-- a sealed record as the primary map keeps it, and its tag as the rollback map does
abbrev pub record_entry : ℕ → List ℕ → Stored
record_entry flags bytes = record { flags = kept_flags flags; bytes = bytes }

abbrev pub tag_entry : ℕ → List ℕ → Stored
tag_entry flags bytes = record { flags = kept_flags flags; bytes = tag_of bytes }

-- the maps once a sealed record of these flags is stored
abbrev pub with_record : Maps → List ℕ → ℕ → List ℕ → Maps
with_record maps key flags bytes = record {
  primary = insert maps.primary key (record_entry flags bytes);
  rollback = if is_mirrored flags then insert maps.rollback key (tag_entry flags bytes) else maps.rollback;
}

abbrev pub without_key : Maps → List ℕ → Maps
without_key maps key = record { primary = remove maps.primary key; rollback = remove maps.rollback key }
