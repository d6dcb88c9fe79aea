-- What contracts see of a plain store over a device.
use Rattle.std.specs.Prelude.{◌≡◌, ℕ, ◌≤◌, [], IsTrue, Contains, Option, Some, None, MatchOption, unwrap_or}
use Rattle.std.specs.Option.{ForSome, option_map}
use Rattle.flash_core.specs.State.{DeviceCall, FlashState}
use Rattle.kv_model.specs.Kv.{Answered, Answers, KvState}
use Rattle.kv_model.specs.Operations.{Operation}
use Rattle.kv_model.specs.PlainStep.{plain_rules}
use Rattle.kv_model.specs.Rules.{cuts}
use Rattle.kv_model.specs.StoreState.{Doubt, Maps, OpenSet, StoreState}
use Rattle.store_note.specs.declared.noted.Noted.{Noted}
use Rattle.tdb_read.specs.States.{IsUnlikely, MapsStand, constants_of, kv_state, state_in}
use Rattle.tdb_read.specs.Views.{IsReady, LogView, view_of}
use Rattle.plain_store.specs.Begun.{IsBegun}
use Rattle.plain_store.specs.Sets.{set_in}
use Rattle.plain_store.specs.declared.active.ActiveSet.{ActiveSet}
use Rattle.plain_store.specs.declared.plain.PlainStore.{PlainStore}

pub record StoreView : Type 1 where
  pub log : LogView
  pub active : Option ActiveSet
  -- the state that was noted when a failed write stopped the store; none while it runs
  pub note : Option StoreState

-- The maps to which the image of a stopped store may mount, where no torn record is there by chance inside the call
-- that the device tells as torn, if it tells one.
pub record StoppedMaps (v : LogView) (maps : Maps) : Type 0 where
  pub tells : IsTrue v.device.tells_torn
  pub unlikely : (call : DeviceCall) → v.device.torn ≡ Some call → ForSome v.device.image (IsUnlikely v.device.geometry (Some call))
  pub stands : MapsStand v.device.geometry v.device maps

-- A store that runs is its log with the active set beside it. One that was stopped has the state that was noted.
abbrev pub state_by : LogView → Option OpenSet → Option StoreState → KvState
state_by v set None = kv_state v set
state_by v set (Some state) = record {
  known = record (kv_state v set).known { state = option_map (λ image. state) v.device.image };
  crash = record (kv_state v set).crash { stands = StoppedMaps v };
}

abbrev pub state_of : StoreView → KvState
state_of v = state_by v.log (set_in v.active) v.note

-- Of a store that runs: its log stands, and what was begun can be finished.
pub record IsRunning (v : LogView) (active : Option ActiveSet) : Type 0 where
  pub ready : IsReady v
  pub begun : ForSome active (IsBegun v)

-- Of a store that was stopped: what was noted has a call in doubt, and the image mounts to maps that a power cut in
-- that call may leave, as far as chance goes.
pub record IsStopped (v : LogView) (state : StoreState) : Type 0 where
  pub hash_bits : v.log.hash_bits ≤ 32
  pub doubt : Doubt
  pub is : state.doubt ≡ Some doubt
  -- a plain store takes no number
  pub number : ForSome v.device.image (λ image. state.next_vector ≡ 1)
  pub stands : ForSome v.device.image (λ image. (maps : Maps) → StoppedMaps v maps
      → Contains (cuts (plain_rules (constants_of v.device.geometry v.log)) state doubt.who doubt.operation) maps)

-- What a plain store keeps at every moment.
abbrev pub IsStore : StoreView → Type 0
IsStore v = MatchOption v.note (IsRunning v.log v.active) (IsStopped v.log)

-- A call was one of a plain store.
abbrev pub Calls : StoreView → StoreView → Answered → Type 0
Calls old new call = Answers plain_rules (state_of old) (state_of new) call

-- the state that a note has
abbrev pub noted_in : Option Noted → Option StoreState
noted_in stopped = option_map (λ (noted : Noted). noted.state) stopped

abbrev pub store_view : {F : Type 0} → (F → FlashState) → PlainStore F → StoreView
store_view state store = record {
  log = view_of state store.log;
  active = store.active;
  note = noted_in store.stopped;
}

-- a state with this call in doubt
abbrev pub in_doubt : StoreState → ℕ → Operation → StoreState
in_doubt state who operation = record state { doubt = Some (record { who = who; operation = operation }) }

module _ {F : Type 0} (state : F → FlashState) where
  -- the state of a store that runs over a told image
  abbrev pub state_told : PlainStore F → StoreState
  state_told store = state_in (state store.log.flash).geometry (view_of state store.log).log (set_in store.active)
      (unwrap_or (state store.log.flash).image [])

  abbrev pub Is : PlainStore F → Type 0
  Is store = IsStore (store_view state store)

  abbrev pub CallsBy : PlainStore F → PlainStore F → Answered → Type 0
  CallsBy old new call = Calls (store_view state old) (store_view state new) call
