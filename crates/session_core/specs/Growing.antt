-- How the log of a plain store grows by a history that wants no collection.
use Rattle.std.specs.Prelude.{◌≡◌, ℕ, ◌≤◌, Bool, true, false, ◌&&◌, List, [], ◌∷◌, ◌++◌, count_by, is_some, Some, None, MatchOption}
use Rattle.kv_model.specs.declared.call.Call.{Call}
use Rattle.kv_model.specs.declared.call.Call.TheVariants.{Start, Finish, Reset}
use Rattle.kv_model.specs.declared.call.Entry.{Entry}
use Rattle.kv_model.specs.declared.call.Reply.{Reply}
use Rattle.kv_model.specs.declared.call.Reply.TheVariants.{Done}
use Rattle.kv_model.specs.Constants.{Constants}
use Rattle.kv_model.specs.History.{Follows}
use Rattle.kv_model.specs.Kv.{KvState, UnlessFailedWrite, kind_of}
use Rattle.kv_model.specs.LogStep.{LogFollows, spent}
use Rattle.kv_model.specs.Opening.{Log}
use Rattle.kv_model.specs.Operations.{operation_of}
use Rattle.kv_model.specs.StoreState.{StoreState}
use Rattle.kv_model.specs.Write.{Write}
use Rattle.kv_model.specs.Writes.{writes}
use Rattle.flash_sim.specs.ChipState.{ChipState}
use Rattle.session_core.specs.Backing.{session_rules}
use Rattle.session_core.specs.Telling.{HasLog}

abbrev pub is_start : Call → Bool
is_start (Start key size flags) = true
is_start call = false

abbrev pub is_finish : Call → Bool
is_finish Finish = true
is_finish call = false

abbrev pub is_reset : Call → Bool
is_reset Reset = true
is_reset call = false

abbrev pub is_done : Reply → Bool
is_done Done = true
is_done reply = false

-- how many calls of this kind were done
abbrev pub done_in : (Call → Bool) → List Entry → ℕ
done_in kind entries = count_by (λ (entry : Entry). kind entry.call && is_done entry.reply) entries

-- The log's tail is clean, no reset is done, each set that is begun is finished, and the records of the log and those of
-- the history fit together behind a master record in one area.
pub record WantsNoCollection (constants : Constants) (log : Log) (entries : List Entry) : Type 0 where
  pub clean : log.is_clean ≡ true
  pub resets : done_in is_reset entries ≡ 0
  pub finishes : done_in is_finish entries ≡ done_in is_start entries
  pub fits : spent constants.prog (log.records ++ writes None entries) ≤ constants.room

-- the log with these records behind its own
abbrev pub grown : Log → List Write → Log
grown log records = record log { records = log.records ++ records; is_clean = true }

-- what a store tells that tells its state and its log
pub record Told : Type 0 where
  pub state : StoreState
  pub log : Log

pub record IsTold (s : KvState) (told : Told) : Type 0 where
  pub state : s.known.state ≡ Some told.state
  pub log : s.known.log ≡ Some told.log

-- With no set active at entry, a log that wants no collection grows by the records of these calls, and nothing else
-- becomes of it: the chip holds that log.
abbrev pub GrowsBy : KvState → ChipState → KvState → List Entry → Type 0
GrowsBy old chip new entries = (before : Told) → IsTold old before → before.state.open_set ≡ None
    → WantsNoCollection old.known.constants before.log entries → HasLog chip new (grown before.log (writes None entries))

-- ---- entry by entry

-- a mount of a store that runs leaves the log, and a call does with it what calls of a plain store do
abbrev pub LogGoes : Constants → Told → Entry → Log → Type 0
LogGoes constants old entry new = MatchOption (operation_of entry.call)
    (is_some old.state.doubt ≡ false → new ≡ old.log)
    (λ operation. UnlessFailedWrite (kind_of entry.reply) (LogFollows constants old.state old.log new operation entry.reply))

-- entries lead from one state and its log to others
abbrev pub RunsLog : Constants → Told → List Entry → Told → Type 0
RunsLog constants old [] new = new ≡ old
RunsLog constants old (entry ∷ entries) new = (mid : Told) × Follows (session_rules constants) old.state entry mid.state
    × LogGoes constants old entry mid.log × RunsLog constants mid entries new

-- a store that tells both tells both behind these entries, which lead there
abbrev pub LogGoesOn : KvState → KvState → List Entry → Type 0
LogGoesOn old new entries = (before : Told) → IsTold old before
    → (after : Told) × IsTold new after × RunsLog old.known.constants before entries after
