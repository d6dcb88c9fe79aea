-- Histories of a secure store over many runs, from empty stores on. A run begins with a mount and a first vector number,
-- goes on by calls, and ends anywhere: between calls, or in one that a power cut or a failed write stopped.
use Rattle.std.specs.Prelude.{◌≡◌, ℕ, ◌<◌, ◌≤◌, ◌^◌, List, [], ◌∷◌, Contains, MatchOption}
use Rattle.std.specs.FinMap.{empty}
use Rattle.kv_model.specs.declared.call.Reply.{Reply}
use Rattle.kv_model.specs.Constants.{Constants}
use Rattle.kv_model.specs.History.{last_state}
use Rattle.kv_model.specs.Operations.{Operation}
use Rattle.kv_model.specs.Rules.{Steps, cuts}
use Rattle.kv_model.specs.StoreState.{Doubt, Maps, StoreState, fresh_state, maps_of}
use Rattle.sealed_pair.specs.Heal.{heal}
use Rattle.sealed_pair.specs.Sealing.{secure_of}
use Rattle.sealed_pair.specs.SecureStep.{secure_rules}

pub data Event : Type 0 where
  -- a call with its caller and its reply; one that a power cut stops is a write that failed
  Called : ℕ → Operation → Reply → Event
  -- a run: the maps that its mount finds, and its first number
  Began : Maps → ℕ → Event

-- what a mount finds: the maps of a running store, and of a stopped one those that its call in doubt left
abbrev pub Finds : Constants → StoreState → Maps → Type 0
Finds constants old maps =
    MatchOption old.doubt (maps ≡ maps_of old) (λ (d : Doubt). Contains (cuts (secure_rules constants) old d.who d.operation) maps)

-- what a run begins with: the maps that the mount heals, no set, no iterator
abbrev pub begun : Constants → Maps → ℕ → StoreState
begun constants maps number =
    fresh_state (heal (secure_of constants) maps).primary (heal (secure_of constants) maps).rollback number

-- A run begins with a number that is not below the next one of the run before: its numbers are fresh.
pub record Begins (constants : Constants) (old : StoreState) (maps : Maps) (number : ℕ) (new : StoreState) : Type 0 where
  pub finds : Finds constants old maps
  pub fresh : old.next_vector ≤ number
  pub fits : number < 2 ^ 64
  pub begun_so : new ≡ begun constants maps number

-- an event leads from a state to another
abbrev pub Follows : Constants → StoreState → Event → StoreState → Type 0
Follows constants old (Called who operation reply) new =
    Steps (secure_rules constants) old who operation (record { state = new; reply = reply })
Follows constants old (Began maps number) new = Begins constants old maps number new

-- some event leads there
pub record HasEvent (constants : Constants) (old new : StoreState) : Type 0 where
  pub event : Event
  pub follows : Follows constants old event new

-- each event follows from the state that those before it leave; these are the states behind the events, in order
abbrev pub PassesThrough : Constants → StoreState → List Event → List StoreState → Type 0
PassesThrough constants old [] [] = Unit {0}
PassesThrough constants old (event ∷ events) (new ∷ states) = Follows constants old event new × PassesThrough constants new events states
PassesThrough constants old events states = ⊥

pub record History : Type 0 where
  pub constants : Constants
  -- the first number of the first run
  pub number : ℕ
  pub events : List Event
  -- the states behind the events
  pub states : List StoreState

abbrev pub root_of : History → List ℕ
root_of h = (secure_of h.constants).root

abbrev pub first_state : History → StoreState
first_state h = fresh_state empty empty h.number

abbrev pub all_states : History → List StoreState
all_states h = first_state h ∷ h.states

abbrev pub present : History → StoreState
present h = last_state (first_state h) h.states

-- the history of a store that was used so
pub record IsHistory (h : History) : Type 0 where
  pub fits : h.number < 2 ^ 64
  pub passes : PassesThrough h.constants (first_state h) h.events h.states
