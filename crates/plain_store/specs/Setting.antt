-- What a set is refused for before anything is written, and what it needs then.
use Rattle.std.specs.Prelude.{◌≡◌, ◌⊎◌, ℕ, Bool, true, false, not, if◌then◌else◌, nat_lt, List, length, Option, Some, None}
use Rattle.std.specs.Option.{ForSome}
use Rattle.base_core.specs.Sizes.{record_size}
use Rattle.flash_core.specs.Calls.{OnlyReads}
use Rattle.kv_model.specs.declared.error.KvError.{KvError}
use Rattle.kv_model.specs.declared.error.KvError.TheVariants.{InvalidFlags, InvalidKey, InvalidSize, Memory, WriteProtected}
use Rattle.kv_model.specs.declared.limits.TheConstants.{MAX_VALUE}
use Rattle.kv_model.specs.Flags.{is_plain_flags, is_write_once}
use Rattle.kv_model.specs.Keys.{is_key}
use Rattle.kv_model.specs.PlainStep.{flags_in}
use Rattle.kv_model.specs.Write.{Write}
use Rattle.ram_table.specs.declared.table.Place.{Place}
use Rattle.tdb_read.specs.Reads.{IsFound, IsReadRefusal, map_in}
use Rattle.tdb_read.specs.Views.{LogView}
use Rattle.tdb_write.specs.Changes.{HasSpaceFor, IsFull, IsReserved, SameButRoom}
use Rattle.plain_store.specs.Sets.{taken}
use Rattle.plain_store.specs.declared.active.ActiveSet.{ActiveSet}

-- the first of the refusals that need no read
abbrev pub early_refusal : Option ActiveSet → ℕ → List ℕ → ℕ → ℕ → Option KvError
early_refusal active who key size flags =
    if not (is_key key) then Some InvalidKey
    else if not (is_plain_flags flags) then Some InvalidFlags
    else if nat_lt MAX_VALUE size then Some InvalidSize
    else taken active who

-- None of them applies.
pub record IsAllowed (active : Option ActiveSet) (key : List ℕ) (size flags : ℕ) : Type 0 where
  pub valid : is_key key ≡ true
  pub plain : is_plain_flags flags ≡ true
  pub small : nat_lt MAX_VALUE size ≡ false
  pub free : active ≡ None

-- whether the key has a value that may be set once only
abbrev pub IsProtected : LogView → List ℕ → Bool → Type 0
IsProtected v key b = ForSome v.device.image (λ image. is_write_once (flags_in (map_in v.device.geometry v.log image) key) ≡ b)

-- what the record of a key and a value of this size takes
abbrev pub size_at : LogView → List ℕ → ℕ → ℕ
size_at v key size = record_size v.device.geometry.prog (length key) size

-- The device was only read, and in memory no more has changed than how many entries the tables can take.
pub record HasLookedUp (old new : LogView) : Type 0 where
  pub device : OnlyReads old.device new.device
  pub log : SameButRoom old.log new.log

-- A key may be set to a value of this size: it stands or would stand at this place, is not protected, and there is room.
pub record CanSet (v : LogView) (key : List ℕ) (size : ℕ) (place : Place) : Type 0 where
  pub found : IsFound v key place
  pub unprotected : IsProtected v key false
  pub space : HasSpaceFor v (size_at v key size)
  pub reserved : IsReserved v.log

-- it has a value that may be set once only, or the refusal has another cause
abbrev pub IsProtectedOr : LogView → LogView → List ℕ → KvError → Type 0
IsProtectedOr old new key e = ((e ≡ WriteProtected) × IsProtected old key true) ⊎ IsReadRefusal old.device new.device e

-- why a key may not be set: it is protected, a read failed, the map and the record don't fit, or there was no memory
abbrev pub IsSetRefusal : LogView → LogView → List ℕ → ℕ → KvError → Type 0
IsSetRefusal old new key size e =
    IsProtectedOr old new key e ⊎ ((IsProtected old key false × IsFull old (size_at old key size) e) ⊎ (e ≡ Memory))

-- the record by which a key has this value
abbrev pub write_of : List ℕ → List ℕ → ℕ → Write
write_of key value flags = record { flags = flags; key = key; value = value }
