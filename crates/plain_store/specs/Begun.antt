-- What holds of a set or a remove that was begun, so that it can be finished.
use Rattle.std.specs.Prelude.{◌≡◌, ℕ, ◌+◌, ◌||◌, nat_lt, not, true, false, Bool, IsTrue, List, length, Option, Some, None}
use Rattle.base_core.specs.Sizes.{record_size}
use Rattle.area_log.specs.Areas.{end_of}
use Rattle.inc_set.specs.declared.open_set.OpenSet.{OpenSet as Writer}
use Rattle.kv_model.specs.Flags.{is_plain_flags}
use Rattle.kv_model.specs.Keys.{is_key}
use Rattle.ram_table.specs.declared.table.Place.{Place}
use Rattle.tdb_read.specs.Reads.{IsFound}
use Rattle.tdb_read.specs.Views.{LogView, area_in}
use Rattle.tdb_write.specs.Changes.{IsReserved}
use Rattle.tdb_write.specs.Copying.{IsPrepared}
use Rattle.tdb_write.specs.Writing.{IsWriting}
use Rattle.plain_store.specs.declared.active.ActiveSet.{ActiveSet}
use Rattle.plain_store.specs.declared.active.Begun.{Begun}
use Rattle.plain_store.specs.declared.active.Begun.TheVariants.{Remove, Set}

-- A set stands at the log's end with the bytes that it was fed, its key's place is known, and there is room for an entry.
pub record IsSetBegun (v : LogView) (set : Writer) (place : Place) (fed : List ℕ) : Type 0 where
  pub writing : IsWriting v set fed
  pub flags : is_plain_flags set.flags ≡ true
  pub found : IsFound v set.key place
  pub reserved : IsReserved v.log

-- The remove of a key has to collect: the tail is dirty, or too short for its record.
abbrev pub must_collect : LogView → List ℕ → Bool
must_collect v key =
    not v.log.is_clean || nat_lt (end_of (area_in v.device.geometry v.log)) (v.log.end + record_size v.device.geometry.prog (length key) 0)

-- A remove has copied all other live records exactly where it has to collect.
abbrev pub IsReadied : LogView → List ℕ → Option ℕ → Type 0
IsReadied v key None = must_collect v key ≡ false
IsReadied v key (Some end) = (must_collect v key ≡ true) × IsPrepared v end key

-- The key of a remove is there, and the remove can be completed without a read.
pub record IsRemoveBegun (v : LogView) (key : List ℕ) (place : Place) (copied : Option ℕ) : Type 0 where
  pub valid : IsTrue (is_key key)
  pub found : IsFound v key place
  pub there : place.found ≡ true
  pub readied : IsReadied v key copied

abbrev pub IsBegunBy : LogView → Begun → Type 0
IsBegunBy v (Set set place fed) = IsSetBegun v set place fed.bytes
IsBegunBy v (Remove key place copied) = IsRemoveBegun v key place copied

abbrev pub IsBegun : LogView → ActiveSet → Type 0
IsBegun v active = IsBegunBy v active.begun
