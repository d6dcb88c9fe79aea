-- What a store brings of its own, and what follows from that for every store: the step of a call, the state in which a
-- failed write leaves it, the maps to which a power cut may lead, and the mount.
use Rattle.std.specs.Prelude.{◌≡◌, ◌⊎◌, ℕ, Bool, true, false, ◌+◌, ◌-◌, if◌then◌else◌, IsTrue, nat_lt, List, [], ◌∷◌, ◌++◌, length, take, drop, Option, Some, None, is_some, MatchOption, Contains}
use Rattle.std.specs.Option.{option_map_or}
use Rattle.std.specs.FinMap as map
use Rattle.kv_model.specs.declared.error.KvError.{KvError}
use Rattle.kv_model.specs.declared.error.KvError.TheVariants.{ReadFault, WriteFault, InvalidSize, Stopped}
use Rattle.kv_model.specs.declared.call.Reply.{Reply}
use Rattle.kv_model.specs.declared.call.Reply.TheVariants.{Value, Facts, Refused}
use Rattle.kv_model.specs.FlaggedMap.{Stored}
use Rattle.kv_model.specs.StoreState.{Maps, StoreState, Doubt, maps_of}
use Rattle.kv_model.specs.Operations.{Operation, Get, Part, Info, Finish}
use Rattle.kv_model.specs.Checks.{Check, Refuses, first_refusal, may_fail_reading, may_fail_writing}

pub record Outcome : Type 0 where
  pub state : StoreState
  pub reply : Reply

abbrev pub is_refusal : Reply → Bool
is_refusal (Refused error) = true
is_refusal reply = false

-- What a store brings of its own.
pub record Rules : Type 0 where
  -- the refusals of a call in their order
  pub checks : StoreState → ℕ → Operation → List Check
  -- what the call does where nothing refuses it
  pub effect : StoreState → ℕ → Operation → Outcome
  -- whether the call takes a vector number, which sets and starts alone do
  pub takes_number : Operation → Bool
  -- what a mount makes of the maps that it finds
  pub heal : Maps → Maps

-- What the rules of a store have in common: what a call does where nothing refuses it is no refusal, and a get, a part
-- and an info read one value alike.
pub record AreRules (rules : Rules) : Type 0 where
  pub grants : (state : StoreState) (who : ℕ) (operation : Operation) → is_refusal (rules.effect state who operation).reply ≡ false
  -- the flags and the value that are read for a key that a read finds
  pub held : StoreState → List ℕ → Stored
  pub get_checks : (state : StoreState) (who : ℕ) (key : List ℕ) → rules.checks state who (Get key) ≡ rules.checks state who (Info key)
  pub part_checks : (state : StoreState) (who : ℕ) (key : List ℕ) (offset count : ℕ) → rules.checks state who (Part key offset count)
      ≡ rules.checks state who (Info key) ++ Refuses (nat_lt (length (held state key).bytes) offset) InvalidSize ∷ []
  pub get_reply : (state : StoreState) (who : ℕ) (key : List ℕ) → rules.effect state who (Get key) ≡ record { state = state; reply = Value (held state key).bytes }
  pub part_reply : (state : StoreState) (who : ℕ) (key : List ℕ) (offset count : ℕ)
      → rules.effect state who (Part key offset count) ≡ record { state = state; reply = Value (take count (drop offset (held state key).bytes)) }
  pub info_reply : (state : StoreState) (who : ℕ) (key : List ℕ) → rules.effect state who (Info key)
      ≡ record { state = state; reply = Facts (length (held state key).bytes) (record { bits = (held state key).flags }) }

abbrev pub refuses : StoreState → KvError → Outcome
refuses state error = record { state = state; reply = Refused error }

-- a refusal leaves the state, but for a finish with bytes missing, which ends the set
abbrev pub after_refusal : StoreState → Operation → KvError → StoreState
after_refusal state Finish InvalidSize = record state { open_set = None }
after_refusal state operation refusal = state

-- the next number once one was taken, and once it was given back
abbrev pub number_taken : Bool → ℕ → ℕ
number_taken takes next = if takes then next + 1 else next

abbrev pub number_given_back : Bool → ℕ → ℕ
number_given_back takes next = if takes then next - 1 else next

-- the state after a mount that finds these maps: no set, no iterator, and no doubt
abbrev pub mounted : StoreState → Maps → StoreState
mounted state maps = record state { primary = maps.primary; rollback = maps.rollback; open_set = None; iterators = map.empty; doubt = None }

module _ (rules : Rules) where
  abbrev pub refused_or : StoreState → ℕ → Operation → Option KvError → Outcome
  refused_or state who operation (Some refusal) = refuses (after_refusal state operation refusal) refusal
  refused_or state who operation None = rules.effect state who operation

  -- One call: a store that was stopped answers so until it is mounted; else the first refusal that applies, or the effect.
  abbrev pub step : StoreState → ℕ → Operation → Outcome
  step state who operation =
      if is_some state.doubt then refuses state Stopped
      else refused_or state who operation (first_refusal (rules.checks state who operation))

  -- the state in which a failed write leaves a store: stopped, with this call in doubt, and its number taken
  abbrev pub failed_write : StoreState → ℕ → Operation → StoreState
  failed_write state who operation = record state {
    next_vector = number_taken (rules.takes_number operation) state.next_vector;
    doubt = Some (record { who = who; operation = operation });
  }

  -- the state in which the call in doubt began; of a running store, its own
  abbrev pub before_doubt : StoreState → StoreState
  before_doubt state = record state {
    next_vector = option_map_or (λ (d : Doubt). number_given_back (rules.takes_number d.operation) state.next_vector) state.doubt state.next_vector;
    doubt = None;
  }

  -- The maps that a power cut in a call may leave: those before it, those after it, or those after it in the primary
  -- store alone.
  abbrev pub cuts : StoreState → ℕ → Operation → List Maps
  cuts state who operation =
      let old = before_doubt state in
      let new = (step old who operation).state in
      maps_of old ∷ record { primary = new.primary; rollback = old.rollback } ∷ maps_of new ∷ []

  -- the device fails where it is read, which changes nothing
  abbrev pub FailsReading : StoreState → ℕ → Operation → Outcome → Type 0
  FailsReading old who operation outcome =
      (old.doubt ≡ None) × IsTrue (may_fail_reading (rules.checks old who operation)) × (outcome ≡ refuses old ReadFault)

  -- the device fails where it is written, which stops the store
  abbrev pub FailsWriting : StoreState → ℕ → Operation → Outcome → Type 0
  FailsWriting old who operation outcome =
      (old.doubt ≡ None) × IsTrue (may_fail_writing (rules.checks old who operation))
      × (outcome ≡ refuses (failed_write old who operation) WriteFault)

  -- One call and its reply: the store's step, or in its place a read or a write that failed.
  abbrev pub Steps : StoreState → ℕ → Operation → Outcome → Type 0
  Steps old who operation outcome =
      (outcome ≡ step old who operation) ⊎ (FailsReading old who operation outcome ⊎ FailsWriting old who operation outcome)

  -- A mount finds the maps of a running store, or those that a power cut in the call in doubt may leave, and heals them.
  abbrev pub Mounts : StoreState → StoreState → Type 0
  Mounts old new = MatchOption old.doubt
      (new ≡ mounted old (rules.heal (maps_of old)))
      (λ doubt. (maps : Maps) × Contains (cuts old doubt.who doubt.operation) maps × (new ≡ mounted old (rules.heal maps)))
