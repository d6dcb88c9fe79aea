-- What a secure store tells once a write failed: the state in which the call in doubt began, with that call.
use Rattle.std.specs.Prelude.{◌≡◌, ◌≢◌, ◌⊎◌, ℕ, true, List, Option, Some, None, is_some, unwrap_or, MatchOption, Contains, Result, Ok, Err}
use Rattle.std.specs.Option.{ForSome, IfSome}
use Rattle.std.specs.FinMap.{empty}
use Rattle.kv_model.specs.declared.error.KvError.{KvError}
use Rattle.kv_model.specs.declared.error.KvError.TheVariants.{Stopped, WriteFault}
use Rattle.kv_model.specs.Constants.{Constants}
use Rattle.kv_model.specs.StoreState.{Doubt, Maps, StoreState, fresh_state}
use Rattle.kv_model.specs.Operations.{Operation}
use Rattle.kv_model.specs.Rules.{cuts, failed_write}
use Rattle.kv_model.specs.Kv.{KvState}
use Rattle.secure_store.specs.declared.stop.Stop.{Stop}
use Rattle.secure_store.specs.declared.stop.Stop.TheVariants.{InCall, InRecover}
use Rattle.sealed_pair.specs.Pair.{PairStands, pair, pair_constants}
use Rattle.sealed_pair.specs.SecureStep.{secure_rules}
use Rattle.sealed_pair.specs.Store.{Own, joined, joined_by}

-- the state of a store in which a write of this call fails
abbrev pub doubted : KvState → ℕ → Operation → StoreState
doubted s who operation =
    failed_write (secure_rules s.known.constants) (unwrap_or s.known.state (fresh_state empty empty 0)) who operation

-- what is noted of a store that was stopped in a call
abbrev pub noted_in : Option Stop → Option StoreState
noted_in None = None
noted_in (Some (InCall noted)) = Some noted.state
noted_in (Some InRecover) = None

-- the same store, which tells no state
abbrev pub untold : KvState → KvState
untold s = record s { known = record s.known { state = None } }

-- The two stores as one. One that was stopped in a call tells what was noted, and one that was stopped in a recover
-- tells no state.
abbrev pub told_by : List ℕ → Own → Option Stop → KvState → KvState → KvState
told_by root own None = pair root (joined_by own)
told_by root own (Some (InCall noted)) = pair root (λ primary rollback. noted.state)
told_by root own (Some InRecover) = λ primary rollback. untold (pair root (joined_by own) primary rollback)

-- the maps of both stores are those that a cut in the call in doubt may leave
abbrev pub IsCutIn : Constants → StoreState → Maps → Type 0
IsCutIn constants noted maps =
    MatchOption noted.doubt ⊥ (λ (d : Doubt). Contains (cuts (secure_rules constants) noted d.who d.operation) maps)

-- Of a store that was stopped a call is in doubt, and its two stores, where they tell their states, mount to what a cut
-- in that call may leave.
pub record IsStopped (root : List ℕ) (primary rollback : KvState) (noted : StoreState) : Type 0 where
  pub in_doubt : is_some noted.doubt ≡ true
  pub cut : ForSome primary.known.state (λ (above : StoreState). ForSome rollback.known.state (λ (below : StoreState).
      (maps : Maps) → PairStands root (joined 0) primary rollback maps
      → IsCutIn (pair_constants root primary.known.constants rollback.known.constants) noted maps))

abbrev pub WhereStopped : List ℕ → Option StoreState → KvState → KvState → Type 0
WhereStopped root noted primary rollback = IfSome noted (IsStopped root primary rollback)

-- a store that was stopped answers so, and stays stopped
abbrev pub StaysStopped : {T : Type 0} → Option Stop → Option Stop → Result T KvError → Type 0
StaysStopped old new result = is_some old ≡ true → (result ≡ Err Stopped) × (new ≡ old)

-- a failed write stops a store, and nothing else does
abbrev pub StopsOnFault : {T : Type 0} → Option Stop → Option Stop → Result T KvError → Type 0
StopsOnFault old new (Ok value) = new ≡ old
StopsOnFault old new (Err error) = ((error ≡ WriteFault) × (is_some new ≡ true)) ⊎ ((error ≢ WriteFault) × (new ≡ old))
