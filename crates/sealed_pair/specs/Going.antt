-- What calls that write make of one of the two stores.
use Rattle.std.specs.Prelude.{◌≡◌, ℕ, true, IsTrue, Option, Some, Result, Ok, Err}
use Rattle.kv_model.specs.declared.error.KvError.{KvError}
use Rattle.kv_model.specs.declared.error.KvError.TheVariants.{ReadFault, WriteFault}
use Rattle.kv_model.specs.declared.call.Reply.TheVariants.{Done, Refused}
use Rattle.kv_model.specs.Constants.{Constants}
use Rattle.kv_model.specs.FlaggedMap.{FlaggedMap}
use Rattle.kv_model.specs.StoreState.{StoreState}
use Rattle.kv_model.specs.Operations.{Operation}
use Rattle.kv_model.specs.Rules.{Rules, failed_write, step}
use Rattle.kv_model.specs.PlainStep.{plain_rules}
use Rattle.kv_model.specs.Kv.{IsCause, Keeps, Kind, KvState, TellsOnly, UnlessFailedWrite, kind_of, may_end, Ruled, FailedRead, FailedWrite, Mismatched, Wanted}
use Rattle.sealed_pair.specs.Running.{IsOpen}
use Rattle.sealed_pair.specs.Shares.{NoShare, Share}

-- what holds of the state of a plain store that runs with its share of the active set, where it tells one
abbrev pub WhereOpen : Share → (Constants → Rules) → KvState → (StoreState → Type 0) → Type 0
WhereOpen share rules_by s P = (state : StoreState) → IsOpen share rules_by s state → P state

-- the same with no active set
abbrev pub WhereStill : (Constants → Rules) → KvState → (StoreState → Type 0) → Type 0
WhereStill = WhereOpen NoShare

-- Calls that were done, from the first to the last state: the told state is `now`, and a power cut left the map of the
-- first or the one that is the goal.
pub record HasGone (share : Share) (rules_by : Constants → Rules) (old new : KvState) (now : StoreState → StoreState) (goal : StoreState → FlaggedMap) : Type 0 where
  pub keeps : Keeps old new
  pub steady : old.known.steady ≡ true → new.known.steady ≡ true
  pub told : WhereOpen share rules_by old (λ state. new.known.state ≡ Some (now state))
  pub moments : IsTrue old.crash.tells_moments
      → WhereOpen share rules_by old (λ state. TellsOnly old.crash.primary new.crash.primary state.primary (goal state))

-- What a plain store tells after a call that its rules grant, and that failed: a failed write stopped it, else it stands.
abbrev pub FailsAs : Option StoreState → KvError → StoreState → StoreState → Kind → Type 0
FailsAs told error now stopped Ruled = ⊥
FailsAs told error now stopped FailedRead = (error ≡ ReadFault) × (told ≡ Some now)
FailsAs told error now stopped FailedWrite = (error ≡ WriteFault) × (told ≡ Some stopped)
FailsAs told error now stopped Mismatched = ⊥
FailsAs told error now stopped Wanted = told ≡ Some now

-- a call that failed, behind calls that were done
pub record Fails : Type 0 where
  pub who : ℕ
  pub operation : Operation
  pub error : KvError

pub record HasFailed (share : Share) (rules_by : Constants → Rules) (old new : KvState) (now : StoreState → StoreState) (goal : StoreState → FlaggedMap) (f : Fails) : Type 0 where
  pub keeps : Keeps old new
  pub cause : IsCause old.known new.known (Refused f.error)
  pub may_end : IsTrue (may_end f.operation (kind_of (Refused f.error)))
  pub steady : old.known.steady ≡ true → UnlessFailedWrite (kind_of (Refused f.error)) (new.known.steady ≡ true)
  pub told : WhereOpen share rules_by old (λ state.
      FailsAs new.known.state f.error (now state) (failed_write (plain_rules old.known.constants) (now state) f.who f.operation) (kind_of (Refused f.error)))
  pub moments : IsTrue old.crash.tells_moments
      → WhereOpen share rules_by old (λ state. TellsOnly old.crash.primary new.crash.primary state.primary (goal state))

-- a call on a store with this share of the active set: who makes it, which it is, and the state that it leaves
pub record Work : Type 0 where
  pub share : Share
  pub who : ℕ
  pub operation : Operation
  pub after : StoreState → StoreState

-- the map that it leaves
abbrev pub map_after : Work → StoreState → FlaggedMap
map_after work state = (work.after state).primary

-- A call that the rules grant and that failed.
pub record Failed (rules_by : Constants → Rules) (work : Work) (old new : KvState) (error : KvError) : Type 0 where
  pub grants : WhereOpen work.share rules_by old (λ state.
      step (plain_rules old.known.constants) state work.who work.operation ≡ record { state = work.after state; reply = Done })
  pub failed : HasFailed work.share rules_by old new (λ state. state) (map_after work) (record { who = work.who; operation = work.operation; error = error })

-- what a store does of a call; of one in which it has no part, this is done at once
abbrev pub Tries : (Constants → Rules) → Work → KvState → KvState → Result Unit KvError → Type 0
Tries rules_by work old new (Ok done) = HasGone work.share rules_by old new work.after (map_after work)
Tries rules_by work old new (Err error) = Failed rules_by work old new error
