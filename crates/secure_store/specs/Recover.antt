-- What a recover leaves of a secure store.
use Rattle.std.specs.Prelude.{◌≡◌, ◌≢◌, ◌⊎◌, ℕ, true, IsTrue, Option, Some, None, is_some, MatchOption, Result, Ok, Err}
use Rattle.std.specs.Option.{ForSome}
use Rattle.std.specs.FinMap.{empty}
use Rattle.kv_model.specs.declared.error.KvError.{KvError}
use Rattle.kv_model.specs.declared.error.KvError.TheVariants.{Stopped, WriteFault}
use Rattle.kv_model.specs.Constants.{Constants}
use Rattle.kv_model.specs.FlaggedMap.{FlaggedMap}
use Rattle.kv_model.specs.Given.{done_or}
use Rattle.kv_model.specs.Kv.{IsCause, Keeps, KvState, TellsOnly, UnlessFailedWrite, kind_of}
use Rattle.kv_model.specs.StoreState.{Doubt, Maps, StoreState, maps_of}
use Rattle.sealed_pair.specs.Recovering.{TellsAmong}
use Rattle.sealed_pair.specs.SecureStep.{secure_rules}
use Rattle.sealed_pair.specs.Walking.{HasChanged, IsBetween, IsReadOrWant}
use Rattle.secure_store.specs.declared.stop.Stop.{Stop}
use Rattle.secure_store.specs.declared.stop.Stop.TheVariants.{InRecover}
use Rattle.secure_store.specs.Doubts.{untold}

-- a recover in which a write failed stops the store
abbrev pub StopsAfter : Result ℕ KvError → Option Stop → Type 0
StopsAfter (Ok count) stop = stop ≡ None
StopsAfter (Err error) stop = ((error ≡ WriteFault) × (stop ≡ Some InRecover)) ⊎ ((error ≢ WriteFault) × (stop ≡ None))

-- a store that has no iterator, where it tells its state
abbrev pub HasNoIterators : KvState → Type 0
HasNoIterators s = ForSome s.known.state (λ (state : StoreState). state.iterators ≡ empty)

-- the rollback map once it is healed
abbrev pub healed_in : Constants → StoreState → FlaggedMap
healed_in constants state = ((secure_rules constants).heal (maps_of state)).rollback

-- A write failed, the store tells nothing any more, and the images mount to a rollback map of which each tag is the one
-- before or the healed one; or the store tells such a map.
abbrev pub BreaksOff : KvState → StoreState → FlaggedMap → KvError → Type 0
BreaksOff new before goal error =
    ((error ≡ WriteFault) × (new.known.state ≡ None)
    × ((maps : Maps) → new.crash.stands maps → (maps.primary ≡ before.primary) × IsBetween before.rollback goal maps.rollback))
    ⊎ (IsReadOrWant error × ((map : FlaggedMap) × IsBetween before.rollback goal map × (new.known.state ≡ Some (record before { rollback = map }))))

-- the rollback map of a running store is healed, and so many entries changed
abbrev pub Heals : KvState → StoreState → FlaggedMap → Result ℕ KvError → Type 0
Heals new before goal (Ok count) = (new.known.state ≡ Some (record before { rollback = goal })) × HasChanged before.rollback goal count
Heals new before goal (Err error) = BreaksOff new before goal error

-- a store that was stopped answers so
abbrev pub Recovers : Constants → KvState → StoreState → Result ℕ KvError → Type 0
Recovers constants new before result = MatchOption before.doubt (Heals new before (healed_in constants before) result)
    (λ (doubt : Doubt). (result ≡ Err Stopped) × (new.known.state ≡ Some before))

-- What a recover has done. What it keeps it keeps also where the store tells nothing any more.
pub record HasRecovered (old new : KvState) (result : Result ℕ KvError) : Type 0 where
  pub keeps : Keeps (untold old) (untold new)
  pub tells : UnlessFailedWrite (kind_of (done_or result)) (is_some new.known.state ≡ is_some old.known.state)
  pub cause : IsCause old.known new.known (done_or result)
  pub steady : old.known.steady ≡ true → UnlessFailedWrite (kind_of (done_or result)) (new.known.steady ≡ true)
  pub told : ForSome old.known.state (λ (before : StoreState). Recovers old.known.constants new before result)
  pub moments : IsTrue old.crash.tells_moments → ForSome old.known.state (λ (before : StoreState).
      TellsOnly old.crash.primary new.crash.primary before.primary before.primary
      × TellsAmong old.crash.rollback new.crash.rollback (IsBetween before.rollback (healed_in old.known.constants before)))
