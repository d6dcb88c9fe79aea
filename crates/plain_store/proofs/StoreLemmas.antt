-- Calls of a plain store that write nothing.
use Rattle.std.proofs.Common.{◌≡◌, ℕ, Bool, true, false, List, ◌==◌, refl, sym, ◌∙◌, ap, subst}
use Rattle.std.specs.Prelude.{Option, Some, None, is_some, MatchOption}
use Rattle.std.specs.Option.{ForSome, option_map}
use Rattle.kv_model.specs.declared.call.Reply.TheVariants.{Done, Refused}
use Rattle.kv_model.specs.declared.error.KvError.TheVariants.{NoSet, Stopped}
use Rattle.kv_model.specs.Kv.{Answered, Answers, Ruled, answered, kind_of}
use Rattle.kv_model.specs.LogStep.{LogFollows}
use Rattle.kv_model.specs.Opening.{Log}
use Rattle.kv_model.specs.Operations.{Abort, Operation}
use Rattle.kv_model.specs.PlainStep.{plain_rules, plain_step}
use Rattle.kv_model.specs.Rows.{owns_set}
use Rattle.kv_model.specs.StoreState.{OpenSet, StoreState}
use Rattle.tdb_read.specs.States.{AnswersAs, constants_of, kv_state, state_in}
use Rattle.tdb_read.specs.Views.{HasRead, IsReady, LogView}
use Rattle.plain_store.specs.Sets.{opened_by, owns, set_in}
use Rattle.plain_store.specs.Stores.{Calls, IsRunning, IsStopped, IsStore, StoreView, state_by}
use Rattle.plain_store.specs.declared.active.ActiveSet.{ActiveSet}
use Rattle.plain_store.specs.declared.active.Begun.{Begun}
use Rattle.plain_store.specs.declared.active.Begun.TheVariants.{Remove, Set}
use Rattle.plain_store.proofs.BegunLemmas.{still_begun}
use Rattle.plain_store.proofs.CallLemmas.{abort_refused, abort_step, some_is, steps_alone, stopped_step}

abbrev pub view_at : LogView → Option ActiveSet → Option StoreState → StoreView
view_at log active note = record { log = log; active = active; note = note }

pub running_of : (v : LogView) (active : Option ActiveSet) (note : Option StoreState) → note ≡ None → IsStore (view_at v active note) → IsRunning v active
running_of v active noted runs is = subst (λ (n : Option StoreState). MatchOption n (IsRunning v active) (IsStopped v)) runs is

pub is_running : (v : LogView) (active : Option ActiveSet) (note : Option StoreState) → note ≡ None → IsRunning v active → IsStore (view_at v active note)
is_running v active noted runs is = subst (λ (n : Option StoreState). MatchOption n (IsRunning v active) (IsStopped v)) (sym runs) is

-- both of what was mapped over one option
over_one : {X Y : Type 0} (f h : X → Y) (o : Option X) (R : Y → Y → Type 0) → ((x : X) → o ≡ Some x → R (f x) (h x))
    → ForSome (option_map f o) (λ b. ForSome (option_map h o) (λ a. R b a))
over_one f h None R holds = λ b b_is. absurd (cc)
over_one f h (Some x) R holds = λ b b_is a a_is. subst (R b) (some_is a_is) (subst (λ y. R y (h x)) (some_is b_is) (holds x refl))

is_some_both : {X Y : Type 0} (f h : X → Y) (o : Option X) → is_some (option_map f o) ≡ is_some (option_map h o)
is_some_both f h None = refl
is_some_both f h (Some x) = refl

-- ---- a store that was stopped

module _ (v : LogView) (active : Option ActiveSet) (who : ℕ) (operation : Operation) where
  stopped_as : (state : StoreState) → IsStopped v state
      → Calls (view_at v active (Some state)) (view_at v active (Some state)) (answered who operation (Refused Stopped))
  stopped_as state is =
      steps_alone (state_by v (set_in active) (Some state)) (option_map (λ image. state) v.device.image) (option_map (λ image. state) v.device.image)
      (answered who operation (Refused Stopped)) refl refl
      (over_one (λ image. state) (λ image. state) v.device.image
      (λ b a. plain_step (constants_of v.device.geometry v.log) b who operation ≡ record { state = a; reply = Refused Stopped })
      (λ image told. stopped_step (constants_of v.device.geometry v.log) state who operation (ap is_some is.is)))
      (λ b l. refl)

  -- each call of a store that was stopped is refused so
  pub stopped_call : (note : Option StoreState) → is_some note ≡ true → IsStore (view_at v active note)
      → Calls (view_at v active note) (view_at v active note) (answered who operation (Refused Stopped))
  stopped_call None stopped is = absurd (cc)
  stopped_call (Some state) stopped is = stopped_as state is

-- ---- a call that reads

module _ (old new : LogView) (active : Option ActiveSet) (note : Option StoreState) (runs : note ≡ None) (read : HasRead old new) where
  pub read_call : (call : Answered) → AnswersAs old new call → Calls (view_at old active note) (view_at new active note) call
  read_call call answers =
      subst (λ (n : Option StoreState). Answers plain_rules (state_by old (set_in active) n) (state_by new (set_in active) n) call) (sym runs)
      (answers (set_in active))

  pub read_is : IsStore (view_at old active note) → IsReady new → IsStore (view_at new active note)
  read_is is ready = is_running new active note runs
      (record { ready = ready; begun = still_begun old new read active (running_of old active note runs is).begun })

-- ---- a set that is aborted

pub owner_is : (owner : ℕ) (begun : Begun) → (opened_by owner begun).owner ≡ owner
owner_is owner (Set set place fed) = refl
owner_is owner (Remove key place copied) = refl

module _ (v : LogView) (active : Option ActiveSet) (who : ℕ) where
  abbrev state : Option OpenSet → List ℕ → StoreState
  state set image = state_in v.device.geometry v.log set image

  pub owned : (b : Bool) → owns active who ≡ b → (image : List ℕ) → owns_set (state (set_in active) image) who ≡ b
  owned b is image = by_set active is
    where
      by_set : (a : Option ActiveSet) → owns a who ≡ b → owns_set (state (set_in a) image) who ≡ b
      by_set None is = is
      by_set (Some a) is = ap (λ (owner : ℕ). owner == who) (owner_is a.owner a.begun) ∙ is

  module _ (note : Option StoreState) (runs : note ≡ None) where
    abbrev Is : Option ActiveSet → Answered → Type 0
    Is next call = Calls (view_at v active note) (view_at v next note) call

    both : (next : Option ActiveSet) (call : Answered)
        → Answers plain_rules (kv_state v (set_in active)) (kv_state v (set_in next)) call → Is next call
    both next call answers = subst (λ (n : Option StoreState). Answers plain_rules (state_by v (set_in active) n) (state_by v (set_in next) n) call) (sym runs) answers

    pub aborted : owns active who ≡ true → Is None (answered who Abort Done)
    aborted owner = both None (answered who Abort Done)
        (steps_alone (kv_state v (set_in active)) (option_map (state (set_in active)) v.device.image) (option_map (state None) v.device.image)
        (answered who Abort Done) (is_some_both (state None) (state (set_in active)) v.device.image) refl
        (over_one (state (set_in active)) (state None) v.device.image
        (λ b a. plain_step (constants_of v.device.geometry v.log) b who Abort ≡ record { state = a; reply = Done })
        (λ image told. abort_step (constants_of v.device.geometry v.log) (state (set_in active) image) who refl (owned true owner image)))
        (λ b l. refl))

    -- a step that refuses and leaves the state
    pub refused_so : (call : Answered) (ruled : kind_of call.reply ≡ Ruled)
        → ((image : List ℕ) → v.device.image ≡ Some image → plain_step (constants_of v.device.geometry v.log) (state (set_in active) image) call.who call.operation
        ≡ record { state = state (set_in active) image; reply = call.reply })
        → ((b : StoreState) (l : Log) → LogFollows (constants_of v.device.geometry v.log) b l l call.operation call.reply)
        → Is active call
    refused_so call ruled steps follows = both active call
        (steps_alone (kv_state v (set_in active)) (option_map (state (set_in active)) v.device.image) (option_map (state (set_in active)) v.device.image)
        call refl ruled
        (over_one (state (set_in active)) (state (set_in active)) v.device.image
        (λ b a. plain_step (constants_of v.device.geometry v.log) b call.who call.operation ≡ record { state = a; reply = call.reply }) steps)
        follows)

    pub abort_none : owns active who ≡ false → Is active (answered who Abort (Refused NoSet))
    abort_none none = refused_so (answered who Abort (Refused NoSet)) refl
        (λ image told. abort_refused (constants_of v.device.geometry v.log) (state (set_in active) image) who refl (owned false none image))
        (λ b l. refl)
