-- What a call that writes does to the two stores of a secure store, as a call of both as one.
use Rattle.std.specs.Prelude.{◌≡◌, ◌⊎◌, ℕ, true, IsTrue, List, Some, None, Contains}
use Rattle.kv_model.specs.declared.error.KvError.TheVariants.{WriteFault}
use Rattle.kv_model.specs.declared.call.Reply.TheVariants.{Refused}
use Rattle.kv_model.specs.Checks.{may_fail_writing}
use Rattle.kv_model.specs.Constants.{Constants}
use Rattle.kv_model.specs.StoreState.{Maps, StoreState}
use Rattle.kv_model.specs.Rules.{Rules, cuts, step}
use Rattle.kv_model.specs.PlainStep.{plain_rules}
use Rattle.kv_model.specs.Kv.{Answered, IsCause, Keeps, KvState, LeadsTo, TellsOnly, UnlessFailedWrite, kind_of, may_end}
use Rattle.sealed_pair.specs.Pair.{Joining, PairStands, pair, pair_constants}
use Rattle.sealed_pair.specs.SecureStep.{secure_rules}
use Rattle.sealed_pair.specs.Shares.{Holds, NoShare, Share}
use Rattle.sealed_pair.specs.Store.{Own, idle_own, joined, joined_by}

-- a plain store that tells this state, runs, and has its share of the active set
pub record IsOpen (share : Share) (rules_by : Constants → Rules) (s : KvState) (state : StoreState) : Type 0 where
  pub rules : rules_by ≡ plain_rules
  pub told : s.known.state ≡ Some state
  pub running : state.doubt ≡ None
  pub holds : Holds share state

-- the same with no active set
abbrev pub IsIdle : (Constants → Rules) → KvState → StoreState → Type 0
IsIdle = IsOpen NoShare

-- the two stores of a secure store, with their rules and their shares of the active set, its root key and what it has itself
pub record Parts : Type 1 where
  pub root : List ℕ
  pub own : Own
  pub above : Constants → Rules
  pub primary : KvState
  pub share_above : Share
  pub below : Constants → Rules
  pub rollback : KvState
  pub share_below : Share

-- those of a secure store without an active set
abbrev pub parts : List ℕ → ℕ → (Constants → Rules) → KvState → (Constants → Rules) → KvState → Parts
parts root number above primary below rollback = record {
  root = root;
  own = idle_own number;
  above = above;
  primary = primary;
  share_above = NoShare;
  below = below;
  rollback = rollback;
  share_below = NoShare;
}

-- the state of both as one, where they tell these
abbrev pub one_of : Parts → Joining
one_of p = joined_by p.own

abbrev pub as_one : Joining → Parts → KvState
as_one joining p = pair p.root joining p.primary p.rollback

abbrev pub rules_of : Parts → Rules
rules_of p = secure_rules (pair_constants p.root p.primary.known.constants p.rollback.known.constants)

-- a plain store that ran with one share runs with another
abbrev pub StaysOpen : Share → Share → (Constants → Rules) → KvState → KvState → Type 0
StaysOpen share later rules_by old new = (state : StoreState) → IsOpen share rules_by old state → (now : StoreState) × IsOpen later rules_by new now

-- a plain store that ran without an active set still does
abbrev pub StaysIdle : (Constants → Rules) → KvState → KvState → Type 0
StaysIdle = StaysOpen NoShare NoShare

-- what holds of the states of the two, where both tell one and have their shares
abbrev pub WhereRun : Parts → (StoreState → StoreState → Type 0) → Type 0
WhereRun p P = (above below : StoreState) → IsOpen p.share_above p.above p.primary above → IsOpen p.share_below p.below p.rollback below → P above below

-- both tell a state again in which they run with their shares, and the state of both as one is this
pub record BothRun (p : Parts) (state : StoreState) : Type 0 where
  pub above : StoreState
  pub below : StoreState
  pub primary : IsOpen p.share_above p.above p.primary above
  pub rollback : IsOpen p.share_below p.below p.rollback below
  pub one : state ≡ one_of p above below

-- whatever their images mount to is a pair that a cut of the call may leave
abbrev pub LeavesCut : Parts → Parts → StoreState → Answered → Type 0
LeavesCut old new before call = (maps : Maps) → PairStands new.root (joined 0) new.primary new.rollback maps
    → Contains (cuts (rules_of old) before call.who call.operation) maps

-- A call that a failed write stopped: it may have failed to write, and what stands is a pair that a cut leaves.
pub record HasStopped (old new : Parts) (before : StoreState) (call : Answered) : Type 0 where
  pub error : call.reply ≡ Refused WriteFault
  pub fails : IsTrue (may_fail_writing ((rules_of old).checks before call.who call.operation))
  pub cut : LeavesCut old new before call

-- a call that was done or refused: both stores run, and their state follows by the rules
pub record HasEnded (old new : Parts) (before : StoreState) (call : Answered) : Type 0 where
  pub after : StoreState
  pub both : BothRun new after
  pub leads : LeadsTo (rules_of old) before call after (kind_of call.reply)

-- the clocks of the two tell the maps before the call or those after it
abbrev pub TellsOnlyBoth : Parts → Parts → StoreState → StoreState → Type 0
TellsOnlyBoth old new before after = TellsOnly old.primary.crash.primary new.primary.crash.primary before.primary after.primary
    × TellsOnly old.rollback.crash.primary new.rollback.crash.primary before.rollback after.rollback

-- What a call on two stores has done, as a call of the secure store.
pub record HasRun (old new : Parts) (call : Answered) : Type 0 where
  pub above : Keeps old.primary new.primary
  pub below : Keeps old.rollback new.rollback
  pub cause : (before after : Joining) → IsCause (as_one before old).known (as_one after new).known call.reply
  pub may_end : IsTrue (may_end call.operation (kind_of call.reply))
  pub steady : old.primary.known.steady ≡ true → old.rollback.known.steady ≡ true
      → UnlessFailedWrite (kind_of call.reply) ((new.primary.known.steady ≡ true) × (new.rollback.known.steady ≡ true))
  pub stays : UnlessFailedWrite (kind_of call.reply)
      (StaysOpen old.share_above new.share_above old.above old.primary new.primary
      × StaysOpen old.share_below new.share_below old.below old.rollback new.rollback)
  pub ends : WhereRun old (λ above below.
      HasStopped old new (one_of old above below) call ⊎ HasEnded old new (one_of old above below) call)
  pub cuts : IsTrue old.primary.crash.tells_moments → IsTrue old.rollback.crash.tells_moments → WhereRun old (λ above below.
      TellsOnlyBoth old new (one_of old above below)
      (step (rules_of old) (one_of old above below) call.who call.operation).state)
