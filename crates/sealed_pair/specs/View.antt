-- What a key of a secure store is to its callers, by what the two stores hold.
use Rattle.std.specs.Prelude.{ℕ, Bool, false, if◌then◌else◌, List, Option, Some, None, is_some}
use Rattle.std.specs.Str.{bytes_eq}
use Rattle.std.specs.FinMap.{get}
use Rattle.kv_model.specs.FlaggedMap.{Stored}
use Rattle.kv_model.specs.Flags.{is_mirrored}
use Rattle.kv_model.specs.StoreState.{Maps}
use Rattle.secure_record.specs.Unseal.{Opened, unseal}
use Rattle.sealed_pair.specs.Sealing.{tag_of}

pub data View : Type 0 where
  Absent : View
  -- a value, and the flags that it was set with
  Held : ℕ → List ℕ → View
  -- the primary store holds what was not sealed for this key
  AuthFailed : View
  -- the two stores don't belong together
  RollbackFailed : View

-- the rollback store holds the tag of this record
abbrev pub holds_tag : List ℕ → Option Stored → Bool
holds_tag bytes None = false
holds_tag bytes (Some tag) = bytes_eq tag.bytes (tag_of bytes)

-- a mirrored record wants its tag in the rollback store, and any other nothing
abbrev pub view_opened : List ℕ → Option Stored → Opened → View
view_opened bytes tag opened =
    if is_mirrored opened.flags then (if holds_tag bytes tag then Held opened.flags opened.value else RollbackFailed)
    else if is_some tag then RollbackFailed else Held opened.flags opened.value

abbrev pub view_unsealed : List ℕ → Option Stored → Option Opened → View
view_unsealed bytes tag None = AuthFailed
view_unsealed bytes tag (Some opened) = view_opened bytes tag opened

module _ (root : List ℕ) where
  -- the view of a key, by what the primary and the rollback store have for it
  abbrev pub view_by : List ℕ → Option Stored → Option Stored → View
  view_by key None None = Absent
  view_by key None (Some tag) = RollbackFailed
  view_by key (Some stored) tag = view_unsealed stored.bytes tag (unseal root key stored.bytes)

  abbrev pub view_of : Maps → List ℕ → View
  view_of maps key = view_by key (get maps.primary key) (get maps.rollback key)
