-- What the calls of a plain store do to its log.
use Rattle.std.specs.Prelude.{◌≡◌, ◌≢◌, ℕ, Bool, true, not, ◌||◌, ◌&&◌, ◌+◌, ◌-◌, ◌%◌, ◌^◌, nat_lt, nat_le, if◌then◌else◌, List, [], ◌∷◌, ◌++◌, length, All, Option, MatchBool, Some, None}
use Rattle.std.specs.Option.{IfSome}
use Rattle.std.specs.FinMap as map
use Rattle.base_core.specs.Sizes.{record_size}
use Rattle.kv_model.specs.declared.error.KvError.TheVariants.{Corrupt, ReadFault}
use Rattle.kv_model.specs.declared.call.Reply.{Reply}
use Rattle.kv_model.specs.declared.call.Reply.TheVariants.{Done, Refused}
use Rattle.kv_model.specs.Flags.{remove_flags}
use Rattle.kv_model.specs.FlaggedMap.{FlaggedMap}
use Rattle.kv_model.specs.KeyOrder.{is_below}
use Rattle.kv_model.specs.Constants.{Constants}
use Rattle.kv_model.specs.Write.{Write, map_of}
use Rattle.kv_model.specs.StoreState.{StoreState, OpenSet}
use Rattle.kv_model.specs.Operations.{Operation, Set, Remove, RemoveStart, Start, Add, Finish, Reset}
use Rattle.kv_model.specs.Opening.{Log}

-- the bytes that records take
abbrev pub spent : ℕ → List Write → ℕ
spent prog [] = 0
spent prog (r ∷ rs) = record_size prog (length r.key) (length r.value) + spent prog rs

-- A log whose tail is dirty, or too short for the record of a key and a value of this size, is collected first.
abbrev pub collects : Constants → Log → List ℕ → ℕ → Bool
collects constants log key size =
    not log.is_clean || nat_lt constants.room (spent constants.prog log.records + record_size constants.prog (length key) size)

-- the keys of these records ascend in the key order
abbrev pub Ascend : ℕ → List Write → Type 0
Ascend hash_bits [] = Unit {0}
Ascend hash_bits (r ∷ []) = Unit {0}
Ascend hash_bits (r ∷ s ∷ rs) = (is_below hash_bits r.key s.key ≡ true) × Ascend hash_bits (s ∷ rs)

-- the records that a collection copies: one for each key of the map, in the order of the table
pub record AreLive (hash_bits : ℕ) (m : FlaggedMap) (records : List Write) : Type 0 where
  pub ascend : Ascend hash_bits records
  pub no_removes : All (λ (r : Write). r.flags ≢ remove_flags) records
  pub map_is : map_of records ≡ m

-- one record more at the end of the log
abbrev pub appended : Log → Write → Log
appended log r = record log { records = log.records ++ r ∷ []; is_clean = true }

-- the active area's part of a log stands, whatever the other area has
abbrev pub SameButOther : Log → Log → Type 0
SameButOther old new = new ≡ record old { other = new.other }

-- The other area is active, with the version raised by one: it has the live records of a map, and behind them these.
-- The area that was active is the other now, and may have any bytes.
abbrev pub IsCollected : ℕ → FlaggedMap → List Write → Log → Log → Type 0
IsCollected hash_bits m behind old new = (live : List Write) × AreLive hash_bits m live
    × (new ≡ record { active = 1 - old.active; version = (old.version + 1) % 2 ^ 16; records = live ++ behind; is_clean = true; other = new.other })

abbrev pub removal : List ℕ → Write
removal key = record { flags = remove_flags; key = key; value = [] }

module _ (constants : Constants) (state : StoreState) (old new : Log) where
  -- a collection leaves the key out, or one record takes it out
  abbrev Removes : List ℕ → Type 0
  Removes key = MatchBool (collects constants old key 0)
      (IsCollected constants.hash_bits (map.remove state.primary key) [] old new)
      (new ≡ appended old (removal key))

  abbrev Finishes : OpenSet → Type 0
  Finishes set = MatchBool set.is_remove
      (Removes set.key)
      (new ≡ appended old (record { flags = set.flags; key = set.key; value = set.bytes }))

  -- The first whole program unit that an incremental set programs makes the tail dirty; no unit is programmed before
  -- a byte is added.
  abbrev fed_clean : OpenSet → ℕ → Bool
  fed_clean set more =
      let fed = length set.bytes + more in
      old.is_clean && (nat_le fed 0 || nat_lt (length set.key + fed) constants.prog)

  -- what a call does that is done
  abbrev pub LogSteps : Operation → Type 0
  LogSteps (Set key value flags) =
      let r : Write = record { flags = flags; key = key; value = value } in
      MatchBool (collects constants old key (length value))
      (IsCollected constants.hash_bits state.primary (r ∷ []) old new)
      (new ≡ appended old r)
  LogSteps (Remove key) = Removes key
  -- where the finish of a remove is to collect, the live records are copied as it is begun
  LogSteps (RemoveStart key) = MatchBool (collects constants old key 0) (SameButOther old new) (new ≡ old)
  LogSteps (Start key size flags) = MatchBool (collects constants old key size)
      (IsCollected constants.hash_bits state.primary [] old new)
      (new ≡ old)
  LogSteps (Add value) = IfSome state.open_set (λ (set : OpenSet). new ≡ record old { is_clean = fed_clean set (length value) })
  LogSteps Finish = IfSome state.open_set Finishes
  LogSteps Reset = new ≡ record { active = 1 - old.active; version = (old.version + 1) % 2 ^ 16; records = []; is_clean = true; other = new.other }
  LogSteps operation = new ≡ old

  -- What a call does with this reply, where no write failed: nothing where it is refused or gives something. A read that
  -- failed and a record that doesn't match may end a collection, which has begun in the other area.
  abbrev pub LogFollows : Operation → Reply → Type 0
  LogFollows operation Done = LogSteps operation
  LogFollows operation (Refused ReadFault) = SameButOther old new
  LogFollows operation (Refused (Corrupt stored computed)) = SameButOther old new
  LogFollows operation reply = new ≡ old
