-- What a mount completes: a set that replaced a mirrored key and was cut between the two stores.
use Rattle.std.specs.Prelude.{◌≡◌, ℕ, ◌+◌, ◌≤◌, Bool, false, not, ◌&&◌, nat_le, if◌then◌else◌, List, length, take, map, Option, Some, None, is_some}
use Rattle.std.specs.Option.{option_map_or}
use Rattle.std.specs.Str.{bytes_eq}
use Rattle.std.specs.FinMap.{get, entries, from_sorted}
use Rattle.base_core.specs.Sizes.{record_size}
use Rattle.kv_model.specs.Constants.{Secure}
use Rattle.kv_model.specs.FlaggedMap.{Stored}
use Rattle.kv_model.specs.Flags.{is_write_once}
use Rattle.kv_model.specs.Sizes.{used}
use Rattle.kv_model.specs.StoreState.{Maps}
use Rattle.secure_record.specs.declared.metadata.Metadata.{Metadata}
use Rattle.secure_record.specs.Metadata.{metadata_of}
use Rattle.secure_record.specs.Unseal.{unseal}
use Rattle.sealed_pair.specs.declared.limits.TheConstants.{TAG_SIZE}
use Rattle.sealed_pair.specs.Sealing.{tag_entry}

-- the metadata of a record that was sealed for the key
abbrev pub metadata_in : List ℕ → List ℕ → List ℕ → Option Metadata
metadata_in root key bytes = if is_some (unseal root key bytes) then metadata_of (take 40 bytes) (length bytes) else None

-- the tag that a record replaces stands, and may be replaced
abbrev pub is_prior : Option (List ℕ) → Stored → Bool
is_prior None tag = false
is_prior (Some prior) tag = bytes_eq tag.bytes prior && not (is_write_once tag.flags)

-- a key's tag after healing: its record's own, in place of the one that the record replaces
abbrev pub healed_by : Bool → List ℕ → Option Metadata → Stored → Stored
healed_by fits bytes None tag = tag
healed_by fits bytes (Some m) tag = if is_prior m.prior tag && fits then tag_entry m.flags bytes else tag

module _ (secure : Secure) (maps : Maps) where
  -- what the rollback store's records and one more tag would take
  abbrev pub needed_for_tag : List ℕ → ℕ
  needed_for_tag key = used secure.prog maps.rollback + record_size secure.prog (length key) TAG_SIZE

  abbrev pub fits_tag : List ℕ → Bool
  fits_tag key = nat_le (needed_for_tag key) secure.room

  abbrev pub healed : List ℕ → Stored → Stored
  healed key tag =
      option_map_or (λ (s : Stored). healed_by (fits_tag key) s.bytes (metadata_in secure.root key s.bytes) tag) (get maps.primary key) tag

  abbrev pub healed_entry : List ℕ × Stored → List ℕ × Stored
  healed_entry entry = (entry.0, healed entry.0 entry.1)

  -- the tags of all keys healed; the primary map stays
  abbrev pub heal : Maps
  heal = record { primary = maps.primary; rollback = from_sorted (map healed_entry (entries maps.rollback)) }

  -- A tag that healing replaces: the key's record was sealed for it in revision 2, names as its prior just the tag that
  -- stands, this is not write-once, and there is room.
  pub record IsHealed (key : List ℕ) (old new : Stored) : Type 0 where
    pub stored : Stored
    pub metadata : Metadata
    pub found : get maps.primary key ≡ Some stored
    pub sealed : metadata_in secure.root key stored.bytes ≡ Some metadata
    pub prior : metadata.prior ≡ Some old.bytes
    pub free : is_write_once old.flags ≡ false
    pub room : needed_for_tag key ≤ secure.room
    pub completed : new ≡ tag_entry metadata.flags stored.bytes
