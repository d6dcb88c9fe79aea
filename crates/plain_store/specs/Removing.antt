-- What a remove is refused for before anything is written, and what it needs then.
use Rattle.std.specs.Prelude.{◌≡◌, ◌⊎◌, Bool, true, false, not, if◌then◌else◌, List, ℕ, Option, is_none, MatchBool, Some, None}
use Rattle.std.specs.Option.{ForSome}
use Rattle.std.specs.FinMap as map
use Rattle.kv_model.specs.declared.error.KvError.{KvError}
use Rattle.kv_model.specs.declared.error.KvError.TheVariants.{InvalidKey, NotFound, WriteProtected}
use Rattle.kv_model.specs.FlaggedMap.{FlaggedMap}
use Rattle.kv_model.specs.Flags.{is_write_once}
use Rattle.kv_model.specs.Keys.{is_key}
use Rattle.kv_model.specs.LogStep.{SameButOther, removal}
use Rattle.kv_model.specs.Opening.{Log}
use Rattle.kv_model.specs.PlainStep.{flags_in}
use Rattle.ram_table.specs.declared.table.Place.{Place}
use Rattle.tdb_read.specs.Reads.{IsFound, IsReadRefusal, map_in}
use Rattle.tdb_read.specs.Views.{LogView}
use Rattle.tdb_write.specs.Changes.{LogStands}
use Rattle.tdb_write.specs.Copying.{IsRenewed, without}
use Rattle.tdb_write.specs.Writing.{IsAppended}
use Rattle.plain_store.specs.Begun.{must_collect}
use Rattle.plain_store.specs.Sets.{taken}
use Rattle.plain_store.specs.declared.active.ActiveSet.{ActiveSet}

-- the map lacks the key
abbrev pub IsMissing : LogView → List ℕ → Type 0
IsMissing v key = ForSome v.device.image (λ image. map.get (map_in v.device.geometry v.log image) key ≡ None)

-- The map has the key, with a value that may be set once only or not.
abbrev pub HasKeyOnce : FlaggedMap → List ℕ → Bool → Type 0
HasKeyOnce m key once = (is_none (map.get m key) ≡ false) × (is_write_once (flags_in m key) ≡ once)

abbrev pub IsThere : LogView → List ℕ → Bool → Type 0
IsThere v key once = ForSome v.device.image (λ image. HasKeyOnce (map_in v.device.geometry v.log image) key once)

-- A key may be removed: it stands at this place of the table, and its value may be set more than once.
pub record CanRemove (v : LogView) (key : List ℕ) (place : Place) : Type 0 where
  pub found : IsFound v key place
  pub there : place.found ≡ true
  pub replaceable : IsThere v key false

-- why a key may not be removed: it is missing, its value may be set once only, or a read failed
abbrev pub IsRemoveRefusal : LogView → LogView → List ℕ → KvError → Type 0
IsRemoveRefusal old new key e =
    ((e ≡ NotFound) × IsMissing old key) ⊎ (((e ≡ WriteProtected) × IsThere old key true) ⊎ IsReadRefusal old.device new.device e)

-- the first of a remove's refusals that need no read
abbrev pub remove_refusal : Option ActiveSet → ℕ → List ℕ → Option KvError
remove_refusal active who key = if not (is_key key) then Some InvalidKey else taken active who

-- None of them applies.
pub record IsFreeFor (active : Option ActiveSet) (key : List ℕ) : Type 0 where
  pub valid : is_key key ≡ true
  pub free : active ≡ None

-- What readying a remove does to the log: the other area has copies where it has to collect, and nothing is done where
-- it has not.
abbrev pub Readies : LogView → List ℕ → Log → Log → Type 0
Readies v key old new = MatchBool (must_collect v key) (SameButOther old new) (LogStands old new)

-- What a remove does to the log: a collection leaves the key out, or one record takes it out.
abbrev pub RemovesFrom : LogView → List ℕ → Log → Log → Type 0
RemovesFrom v key old new = MatchBool (must_collect v key) (IsRenewed v.log.hash_bits (without key) old new) (IsAppended (removal key) old new)
