-- What contracts see of a store, and what a call of it does.
use Rattle.std.specs.Prelude.{◌≡◌, ◌≢◌, ◌⊎◌, ℕ, ◌≤◌, Bool, true, false, not, List, [], IsTrue, Option, Some, None, is_some, Contains, MatchOption}
use Rattle.std.specs.Option.{ForSome}
use Rattle.base_core.specs.Counts.{Rose}
use Rattle.kv_model.specs.declared.error.KvError.{KvError}
use Rattle.kv_model.specs.declared.error.KvError.TheVariants.{ReadFault, WriteFault, Corrupt, Memory}
use Rattle.kv_model.specs.declared.call.Reply.{Reply}
use Rattle.kv_model.specs.declared.call.Reply.TheVariants.{Refused}
use Rattle.kv_model.specs.FlaggedMap.{FlaggedMap}
use Rattle.kv_model.specs.Constants.{Constants}
use Rattle.kv_model.specs.StoreState.{Maps, StoreState, maps_of}
use Rattle.kv_model.specs.Operations.{Operation, Get, Part, Info, Set, Remove, RemoveStart, Start, Add, Finish, Abort, OpenIterator, Next, CloseIterator, Reset}
use Rattle.kv_model.specs.Opening.{Log, Opening}
use Rattle.kv_model.specs.Rules.{Rules, Outcome, FailsReading, FailsWriting, cuts, step}
use Rattle.kv_model.specs.LogStep.{LogFollows}

-- ---- what contracts see of a store

-- The maps to which a store may mount after a power cut at some moment, of one device. The clock doesn't fall.
pub record Clock : Type 1 where
  pub moment : ℕ
  pub left_since : ℕ → FlaggedMap → Type 0

-- what a store tells of power cuts: of its primary device and of its rollback device
pub record Crash : Type 1 where
  pub tells_moments : Bool
  pub primary : Clock
  pub rollback : Clock
  -- the maps to which its images of now may mount
  pub stands : Maps → Type 0

pub record KvState : Type 1 where
  pub known : Opening
  pub crash : Crash

-- What holds of each store, where it tells its state: its images mount to the maps of a running store, and to a pair
-- that a power cut in the call in doubt may leave of a stopped one.
pub record IsLawful (rules_by : Constants → Rules) (s : KvState) : Type 0 where
  pub sound_is_steady : s.known.sound ≡ true → s.known.steady ≡ true
  pub stands : ForSome s.known.state (λ state. (maps : Maps) → s.crash.stands maps → MatchOption state.doubt
      (maps ≡ maps_of state)
      (λ doubt. Contains (cuts (rules_by s.known.constants) state doubt.who doubt.operation) maps))

-- ---- one call

-- a call with its caller and its reply
pub record Answered : Type 0 where
  pub who : ℕ
  pub operation : Operation
  pub reply : Reply

abbrev pub answered : ℕ → Operation → Reply → Answered
answered who operation reply = record { who = who; operation = operation; reply = reply }

-- how a call ended
pub data Kind : Type 0 where
  -- by the rules
  Ruled : Kind
  -- a device failed to read, or to write
  FailedRead : Kind
  FailedWrite : Kind
  -- a record was not what was written
  Mismatched : Kind
  -- there was no memory
  Wanted : Kind

abbrev pub kind_of : Reply → Kind
kind_of (Refused ReadFault) = FailedRead
kind_of (Refused WriteFault) = FailedWrite
kind_of (Refused (Corrupt stored computed)) = Mismatched
kind_of (Refused Memory) = Wanted
kind_of reply = Ruled

-- the calls that read a device, those that write one, and those that take memory
abbrev pub reads : Operation → Bool
reads (Add value) = false
reads Finish = false
reads Abort = false
reads (OpenIterator n prefix) = false
reads (CloseIterator n) = false
reads Reset = false
reads operation = true

abbrev pub writes : Operation → Bool
writes (Set key value flags) = true
writes (Start key size flags) = true
writes (Remove key) = true
writes (RemoveStart key) = true
writes (Add value) = true
writes Finish = true
writes Reset = true
writes operation = false

abbrev pub takes_memory : Operation → Bool
takes_memory (Set key value flags) = true
takes_memory (Start key size flags) = true
takes_memory (OpenIterator n prefix) = true
takes_memory operation = false

-- how a call may end
abbrev pub may_end : Operation → Kind → Bool
may_end operation Ruled = true
may_end operation FailedRead = reads operation
may_end operation FailedWrite = writes operation
may_end operation Mismatched = reads operation
may_end operation Wanted = takes_memory operation

-- What every call keeps: constants, labels and what is told stand, counts don't fall, and a sound store stays sound.
pub record Keeps (old new : KvState) : Type 0 where
  pub constants : new.known.constants ≡ old.known.constants
  pub labels : new.known.labels ≡ old.known.labels
  pub tells_state : is_some new.known.state ≡ is_some old.known.state
  pub tells_log : is_some new.known.log ≡ is_some old.known.log
  pub tells_moments : new.crash.tells_moments ≡ old.crash.tells_moments
  pub read_faults : old.known.read_faults ≤ new.known.read_faults
  pub write_faults : old.known.write_faults ≤ new.known.write_faults
  pub sound : old.known.sound ≡ true → new.known.sound ≡ true

-- A fault comes only where its count rose: none of a read on steady devices, and none on sound ones. A record that does
-- not match has two values that differ, and a store that tells its state has none.
abbrev pub IsCause : Opening → Opening → Reply → Type 0
IsCause old new (Refused ReadFault) = Rose old.read_faults new.read_faults × (old.steady ≡ false)
IsCause old new (Refused WriteFault) = Rose old.write_faults new.write_faults × (old.sound ≡ false)
IsCause old new (Refused (Corrupt stored computed)) = (stored ≢ computed) × (old.state ≡ None)
IsCause old new reply = Unit {0}

-- The state that a call leaves, by how it ended: the store's own step, or a read or a write that failed in its place.
abbrev pub LeadsTo : Rules → StoreState → Answered → StoreState → Kind → Type 0
LeadsTo rules old call new Ruled = step rules old call.who call.operation ≡ record { state = new; reply = call.reply }
LeadsTo rules old call new FailedRead = FailsReading rules old call.who call.operation (record { state = new; reply = call.reply })
LeadsTo rules old call new FailedWrite = FailsWriting rules old call.who call.operation (record { state = new; reply = call.reply })
LeadsTo rules old call new Mismatched = ⊥
LeadsTo rules old call new Wanted = new ≡ old

-- P, unless a write failed
abbrev pub UnlessFailedWrite : Kind → Type 0 → Type 0
UnlessFailedWrite FailedWrite P = Unit {0}
UnlessFailedWrite kind P = P

-- each map that a clock tells anew is one of these two
pub record TellsOnly (old new : Clock) (before after : FlaggedMap) : Type 0 where
  pub moment : old.moment ≤ new.moment
  pub told : (t : ℕ) (map : FlaggedMap) → t ≤ old.moment → new.left_since t map → old.left_since t map ⊎ ((map ≡ before) ⊎ (map ≡ after))

-- What a call has done, by the rules of a store.
pub record Does (rules_by : Constants → Rules) (old new : KvState) (call : Answered) : Type 0 where
  pub keeps : Keeps old new
  pub cause : IsCause old.known new.known call.reply
  pub steady : old.known.steady ≡ true → UnlessFailedWrite (kind_of call.reply) (new.known.steady ≡ true)
  -- where the state is told, it follows by the rules
  pub leads : ForSome old.known.state (λ before. ForSome new.known.state (λ after.
      LeadsTo (rules_by old.known.constants) before call after (kind_of call.reply)))
  -- where the log is told too, it grows as the call says; after a failed write nothing is said of it
  pub log : ForSome old.known.state (λ before. ForSome old.known.log (λ log. ForSome new.known.log (λ later.
      UnlessFailedWrite (kind_of call.reply) (LogFollows old.known.constants before log later call.operation call.reply))))
  -- where moments are told, a power cut leaves the maps before the call or those after it, of each device
  pub cuts : IsTrue old.crash.tells_moments → ForSome old.known.state (λ before.
      let after = (step (rules_by old.known.constants) before call.who call.operation).state in
      TellsOnly old.crash.primary new.crash.primary before.primary after.primary
      × TellsOnly old.crash.rollback new.crash.rollback before.rollback after.rollback)

-- The same of a call of the interface, of which only some may want memory, read or write.
pub record Answers (rules_by : Constants → Rules) (old new : KvState) (call : Answered) : Type 0 where
  pub does : Does rules_by old new call
  pub may_end : IsTrue (may_end call.operation (kind_of call.reply))
