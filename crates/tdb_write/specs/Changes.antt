-- What a call that writes does to a mounted log.
use Rattle.std.specs.Prelude.{◌≡◌, ◌⊎◌, ◌<◌, ℕ, ◌+◌, ◌≤◌, ◌||◌, not, nat_lt, List, [], ◌∷◌, length, Option, MatchBool}
use Rattle.std.specs.FinMap as map
use Rattle.std.specs.Option.{ForSome}
use Rattle.flash_core.specs.Runs.{Done, Ending, OutOfMemory, ReadFailed, Refused, RunsBy, UnlessFailed, WriteFailed}
use Rattle.flash_core.specs.Sizes.{area_size}
use Rattle.flash_core.specs.State.{DeviceCall, FlashState}
use Rattle.kv_model.specs.declared.error.KvError.{KvError}
use Rattle.kv_model.specs.declared.error.KvError.TheVariants.{MediaFull, WriteFault}
use Rattle.kv_model.specs.FlaggedMap.{FlaggedMap}
use Rattle.kv_model.specs.LogStep.{IsCollected, SameButOther, spent}
use Rattle.kv_model.specs.Opening.{Log}
use Rattle.kv_model.specs.Sizes.{room_of, used}
use Rattle.kv_model.specs.Write.{map_of}
use Rattle.record_core.specs.CutMoments.{CutStrictly, MountsToOne}
use Rattle.flash_core.specs.declared.geometry.Geometry.{Geometry}
use Rattle.ram_table.specs.declared.table.Place.{Place}
use Rattle.tdb_read.specs.Reads.{IsFound, IsReadRefusal, map_in}
use Rattle.tdb_read.specs.States.{log_in}
use Rattle.tdb_read.specs.Views.{IsReady, LogPart, LogView}

-- a moment at which a power cut leaves the log's map, or what a call makes of it, as far as chance goes
abbrev pub LeavesOneOf : LogView → (FlaggedMap → FlaggedMap) → List ℕ → Option DeviceCall → List ℕ → Type 0
LeavesOneOf v after image call now =
    CutStrictly v.device.geometry (MountsToOne v.device.geometry (map_in v.device.geometry v.log image) (after (map_in v.device.geometry v.log image))) call now

-- P of a call that was done, Q of one that was refused, and nothing where a write failed
abbrev pub ByEnding : Ending → Type 0 → Type 0 → Type 0
ByEnding Done P Q = P
ByEnding WriteFailed P Q = Unit {0}
ByEnding ReadFailed P Q = Q
ByEnding OutOfMemory P Q = Q
ByEnding Refused P Q = Q

-- What stays in memory whatever a call writes.
pub record KeepsCallers (old new : LogPart) : Type 0 where
  pub hash_bits : new.hash_bits ≡ old.hash_bits
  pub iterators : new.iterators ≡ old.iterators

-- A call has written. At each moment a power cut leaves the map before it or `after` of that; done, it has the second,
-- and the log has changed so; refused, map and log stand, but for the bytes of the other area, which a collection may
-- have used; and after a failed write the image has one of the two maps.
pub record Changes (old new : LogView) (after : FlaggedMap → FlaggedMap) (Step : Log → Log → Type 0) (ending : Ending) : Type 0 where
  pub runs : RunsBy old.device new.device (LeavesOneOf old after) ending
  pub callers : KeepsCallers old.log new.log
  pub ready : UnlessFailed ending (IsReady new)
  pub map_is : ForSome old.device.image (λ image. ForSome new.device.image (λ left.
      ByEnding ending (map_in old.device.geometry new.log left ≡ after (map_in old.device.geometry old.log image)) (Unit {0})))
  pub log_is : ForSome old.device.image (λ image. ForSome new.device.image (λ left.
      let before : Log = log_in old.device.geometry old.log image in
      let now : Log = log_in old.device.geometry new.log left in
      ByEnding ending (Step before now) (SameButOther before now)))

-- a map that stays
abbrev pub unchanged : FlaggedMap → FlaggedMap
unchanged m = m

-- a log that stays
abbrev pub LogStands : Log → Log → Type 0
LogStands old new = new ≡ old

-- The log is collected where its tail is dirty or has no room for a record of this size, and stands where it has.
abbrev pub MakesRoom : LogView → ℕ → Log → Log → Type 0
MakesRoom v size old new =
    MatchBool (not old.is_clean || nat_lt (room_of v.device.geometry.prog (area_size v.device.geometry)) (spent v.device.geometry.prog old.records + size))
    (IsCollected v.log.hash_bits (map_of old.records) [] old new)
    (new ≡ old)

-- the other area, of the next version, without a record
abbrev pub IsEmptied : Log → Log → Type 0
IsEmptied old new = IsCollected 0 map.empty [] old new

-- Why a call that collects was refused: a failed write, or a read below.
abbrev pub IsCopyRefusal : FlashState → FlashState → KvError → Type 0
IsCopyRefusal old new e = (e ≡ WriteFault) ⊎ IsReadRefusal old new e

-- The map's records and one more of this size fit in an area.
abbrev pub HasSpaceFor : LogView → ℕ → Type 0
HasSpaceFor v size = ForSome v.device.image (λ image.
    used v.device.geometry.prog (map_in v.device.geometry v.log image) + size ≤ room_of v.device.geometry.prog (area_size v.device.geometry))

-- They don't: the refusal has what they would take, and what an area has, which is less on any device.
pub record IsFull (v : LogView) (size : ℕ) (e : KvError) : Type 0 where
  pub need : ℕ
  pub is : e ≡ MediaFull need (room_of v.device.geometry.prog (area_size v.device.geometry))
  pub over : room_of v.device.geometry.prog (area_size v.device.geometry) < need
  pub told : ForSome v.device.image (λ image. need ≡ used v.device.geometry.prog (map_in v.device.geometry v.log image) + size)

-- Both tables have room for one entry more.
pub record IsReserved (log : LogPart) : Type 0 where
  pub table : 1 ≤ log.table.spare
  pub spare : length log.table.entries + 1 ≤ length log.spare.entries + log.spare.spare

-- nothing but how many more entries the tables can take has changed in memory
abbrev pub SameButRoom : LogPart → LogPart → Type 0
SameButRoom old new = new ≡ record old {
  table = record { entries = old.table.entries; spare = new.table.spare };
  spare = record { entries = old.spare.entries; spare = new.spare.spare };
}

-- Each key stands in the table where it stood.
abbrev pub KeepsPlaces : LogView → LogView → Type 0
KeepsPlaces old new = (key : List ℕ) (place : Place) → IsFound old key place → IsFound new key place
