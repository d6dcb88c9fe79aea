-- What the parts of a call that writes do to a log.
use Rattle.std.specs.Prelude.{◌≡◌, ℕ, [], ◌∷◌, length, MatchBool, Some, None}
use Rattle.inc_set.specs.Sets.{record_of}
use Rattle.kv_model.specs.FlaggedMap.{FlaggedMap}
use Rattle.kv_model.specs.LogStep.{IsCollected, appended, collects, removal}
use Rattle.kv_model.specs.Opening.{Log}
use Rattle.kv_model.specs.PlainStep.{finished_map}
use Rattle.kv_model.specs.Write.{Write, map_of}
use Rattle.tdb_read.specs.States.{constants_of}
use Rattle.tdb_read.specs.Views.{LogView}
use Rattle.tdb_write.specs.Changes.{LogStands}
use Rattle.tdb_write.specs.Copying.{IsRenewed, without}
use Rattle.tdb_write.specs.Writing.{IsAppended, IsFed}
use Rattle.plain_store.specs.Sets.{open_of}
use Rattle.plain_store.specs.declared.active.ActiveSet.{ActiveSet}
use Rattle.plain_store.specs.declared.active.Begun.{Begun}
use Rattle.plain_store.specs.declared.active.Begun.TheVariants.{Remove, Set}

-- what a feed of so many bytes does to the log: a remove takes none
abbrev pub AddsTo : LogView → Begun → ℕ → Log → Log → Type 0
AddsTo v (Set set place fed) more = IsFed v set more
AddsTo v (Remove key place copied) more = LogStands

-- the map once what is active is finished
abbrev pub finished_by : ActiveSet → FlaggedMap → FlaggedMap
finished_by active m = finished_map m (open_of active)

-- What a finish does to the log: the record of a set or of a remove stands behind it, or the copies are the log.
abbrev pub FinishesTo : LogView → Begun → Log → Log → Type 0
FinishesTo v (Set set place fed) = IsAppended (record_of set fed.bytes)
FinishesTo v (Remove key place None) = IsAppended (removal key)
FinishesTo v (Remove key place (Some end)) = IsRenewed v.log.hash_bits (without key)

-- What a set that is written at once does to the log: its record stands behind it, or behind the copies of the records
-- that count.
abbrev pub SetsRecord : LogView → Write → Log → Log → Type 0
SetsRecord v r old new = MatchBool (collects (constants_of v.device.geometry v.log) old r.key (length r.value))
    (IsCollected v.log.hash_bits (map_of old.records) (r ∷ []) old new)
    (new ≡ appended old r)
