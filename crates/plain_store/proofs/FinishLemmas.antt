-- The finish of what is active.
use Rattle.std.proofs.Common.{◌≡◌, ℕ, ◌+◌, ◌≤◌, ◌==◌, true, false, nat_lt, List, [], length, inr, refl, sym, ◌∙◌, ap, subst, arith}
use Rattle.std.specs.Prelude.{IsTrue, Option, Some, None, unwrap_or, is_some}
use Rattle.std.specs.Option.{ForSome}
use Rattle.std.proofs.lemmas.Bool.Decides.{nat_tests}
use Rattle.flash_core.specs.Runs.{Done, Ending, WriteFailed}
use Rattle.kv_model.specs.declared.call.Reply.{Reply}
use Rattle.kv_model.specs.declared.call.Reply.TheVariants as reply
use Rattle.kv_model.specs.declared.error.KvError.{KvError}
use Rattle.kv_model.specs.declared.error.KvError.TheVariants.{WriteFault}
use Rattle.kv_model.specs.Checks.{may_fail_writing}
use Rattle.kv_model.specs.Constants.{Constants}
use Rattle.kv_model.specs.Kv.{Answers, answered}
use Rattle.kv_model.specs.LogStep.{LogSteps}
use Rattle.kv_model.specs.Opening.{Log}
use Rattle.kv_model.specs.Operations.{Finish}
use Rattle.kv_model.specs.PlainStep.{finished_map, plain_checks, plain_rules, plain_step}
use Rattle.kv_model.specs.Rules.{Outcome}
use Rattle.kv_model.specs.StoreState.{OpenSet, StoreState}
use Rattle.tdb_read.specs.States.{constants_of, kv_state, log_in, state_in}
use Rattle.tdb_read.specs.Views.{IsReady, LogView}
use Rattle.tdb_write.specs.Changes.{Changes}
use Rattle.plain_store.specs.Moments.{CutsStrictly}
use Rattle.plain_store.specs.Sets.{open_of, owns, set_in}
use Rattle.plain_store.specs.Steps.{FinishesTo, finished_by}
use Rattle.plain_store.specs.Stores.{IsRunning, IsStopped, IsStore, in_doubt, state_by}
use Rattle.plain_store.specs.declared.active.ActiveSet.{ActiveSet}
use Rattle.plain_store.proofs.MomentLemmas.{written}
use Rattle.plain_store.proofs.PartLemmas.{finish_follows}
use Rattle.plain_store.proofs.StoreLemmas.{owner_is, running_of, view_at}
use Rattle.plain_store.proofs.WriteLemmas.{done, failed, only_refl, stopped}

module _ (constants : Constants) (state : StoreState) (who : ℕ) (running : state.doubt ≡ None) (set : OpenSet) (open_is : state.open_set ≡ Some set)
    (mine : (set.owner == who) ≡ true) (whole : nat_lt (length set.bytes) set.size ≡ false) where
  pub finish_step : plain_step constants state who Finish ≡ record { state = record state { primary = finished_map state.primary set; open_set = None }; reply = reply.Done }
  finish_step = simp (running, open_is, mine, whole)

  pub finish_writes : IsTrue (may_fail_writing (plain_checks constants state who Finish))
  finish_writes = simp (open_is, mine, whole)

not_over : (most n : ℕ) → n ≤ most → nat_lt most n ≡ false
not_over most n is = grind (arith, nat_tests)

module _ (v : LogView) (ready : IsReady v) (active : ActiveSet) (who : ℕ) (mine : (active.owner == who) ≡ true)
    (whole : nat_lt (length (open_of active).bytes) (open_of active).size ≡ false) (w : LogView) (ending : Ending)
    (changes : Changes v w (finished_by active) (FinishesTo v active.begun) ending) where
  abbrev set : OpenSet
  set = open_of active

  abbrev constants : Constants
  constants = constants_of v.device.geometry v.log

  abbrev before : List ℕ → StoreState
  before image = state_in v.device.geometry v.log (Some set) image

  its_owner : (set.owner == who) ≡ true
  its_owner = ap (λ (o : ℕ). o == who) (owner_is active.owner active.begun) ∙ mine

  steps : (image : List ℕ) → plain_step constants (before image) who Finish ≡ record { state = record (before image) { primary = finished_map (before image).primary set; open_set = None }; reply = reply.Done }
  steps image = finish_step constants (before image) who refl set refl its_owner whole

  pub finished : ending ≡ Done
      → ((image : List ℕ) → v.device.image ≡ Some image → (l : Log) → FinishesTo v active.begun (log_in v.device.geometry v.log image) l
      → LogSteps constants (before image) (log_in v.device.geometry v.log image) l Finish)
      → Answers plain_rules (kv_state v (Some set)) (kv_state w None) (answered who Finish reply.Done)
  finished is follows = done v v w ready (only_refl v) (finished_by active) (FinishesTo v active.begun) ending changes is (Some set) None who Finish
      (λ image left told now. steps image)
      (λ image left told now. follows image told (log_in w.device.geometry w.log left))

  module _ (is : ending ≡ WriteFailed) (note : StoreState) (noted : note ≡ in_doubt (state_in v.device.geometry v.log (Some set) (unwrap_or v.device.image [])) who Finish) where
    note_is : (image : List ℕ) → v.device.image ≡ Some image → note ≡ record (before image) { doubt = Some (record { who = who; operation = Finish }) }
    note_is image told = noted ∙ ap (λ (o : Option (List ℕ)). in_doubt (before (unwrap_or o [])) who Finish) told

    pub finish_failed : (next : Option OpenSet) → Answers plain_rules (kv_state v (Some set)) (state_by w next (Some note)) (answered who Finish (reply.Refused WriteFault))
    finish_failed next = failed v v w ready (only_refl v) (finished_by active) (FinishesTo v active.begun) ending changes is (Some set) who Finish
        (λ image told. inr (sym (ap (λ (o : Outcome). o.state.primary) (steps image)))) note note_is next refl
        (λ image told. finish_writes constants (before image) who refl set refl its_owner whole)

    pub finish_stopped : IsStopped w note
    finish_stopped = stopped v v w ready (only_refl v) (finished_by active) (FinishesTo v active.begun) ending changes is (Some set) who Finish
        (λ image told. inr (sym (ap (λ (o : Outcome). o.state.primary) (steps image)))) note note_is ready.safe.hash_bits (ap (λ (s : StoreState). s.doubt) noted)

-- ---- over a whole store

module _ (v w : LogView) (active : Option ActiveSet) (note : Option StoreState) (runs : note ≡ None) (store : IsStore (view_at v active note))
    (its : ActiveSet) (its_is : active ≡ Some its) (who : ℕ) (mine : owns active who ≡ true)
    (left : ℕ) (left_is : ForSome (set_in active) (λ (s : OpenSet). length s.bytes + left ≡ s.size)) (none_left : left ≤ 0)
    (ending : Ending) (changes : Changes v w (finished_by its) (FinishesTo v its.begun) ending) where
  running : IsRunning v active
  running = running_of v active note runs store

  its_mine : (its.owner == who) ≡ true
  its_mine = sym (ap (λ (a : Option ActiveSet). owns a who) its_is) ∙ mine

  its_whole : nat_lt (length (open_of its).bytes) (open_of its).size ≡ false
  its_whole = not_over (length (open_of its).bytes) (open_of its).size (omega (arith, left_is (open_of its) (ap set_in its_is), none_left))

  abbrev Is : Option OpenSet → Option StoreState → Reply → Type 0
  Is next later given = Answers plain_rules (state_by v (set_in active) note) (state_by w next later) (answered who Finish given)

  from_parts : (next : Option OpenSet) (later : Option StoreState) (given : Reply)
      → Answers plain_rules (kv_state v (Some (open_of its))) (state_by w next later) (answered who Finish given) → Is next later given
  from_parts next later given is = subst (λ (n : Option StoreState). Answers plain_rules (state_by v (set_in active) n) (state_by w next later) (answered who Finish given)) (sym runs)
      (subst (λ (a : Option ActiveSet). Answers plain_rules (kv_state v (set_in a)) (state_by w next later) (answered who Finish given)) (sym its_is) is)

  pub finish_done : ending ≡ Done → (next : Option ActiveSet) → next ≡ None → Is (set_in next) note reply.Done
  finish_done is next none = subst (λ (a : Option ActiveSet). Is (set_in a) note reply.Done) (sym none)
      (subst (λ (n : Option StoreState). Is None n reply.Done) (sym runs)
      (from_parts None None reply.Done
      (finished v running.ready its who its_mine its_whole w ending changes is
      (λ image told l step. finish_follows v running.ready image told its (running.begun its its_is) l step))))

  module _ (is_failed : ending ≡ WriteFailed) (state : StoreState)
      (noted : state ≡ in_doubt (state_in v.device.geometry v.log (set_in active) (unwrap_or v.device.image [])) who Finish) where
    its_note : state ≡ in_doubt (state_in v.device.geometry v.log (Some (open_of its)) (unwrap_or v.device.image [])) who Finish
    its_note = noted ∙ ap (λ (a : Option ActiveSet). in_doubt (state_in v.device.geometry v.log (set_in a) (unwrap_or v.device.image [])) who Finish) its_is

    pub finish_doubted : (next : Option OpenSet) (e : KvError) → e ≡ WriteFault → Is next (Some state) (reply.Refused e)
    finish_doubted next e fault = subst (λ (x : KvError). Is next (Some state) (reply.Refused x)) (sym fault)
        (from_parts next (Some state) (reply.Refused WriteFault)
        (finish_failed v running.ready its who its_mine its_whole w ending changes is_failed state its_note next))

    pub finish_stop : IsStopped w state
    finish_stop = finish_stopped v running.ready its who its_mine its_whole w ending changes is_failed state its_note

  -- each moment of it
  pub finish_cuts : (next : Option ActiveSet) (later : Option StoreState) → (is_some later ≡ true → ending ≡ WriteFailed) → CutsStrictly (view_at v active note) (view_at w next later) who Finish
  finish_cuts = written v v w (only_refl v) (finished_by its) (FinishesTo v its.begun) ending changes active note who Finish
      (λ image told. inr (sym (ap (λ (o : Option OpenSet). (plain_step (constants_of v.device.geometry v.log) (state_in v.device.geometry v.log o image) who Finish).state.primary) (ap set_in its_is)
      ∙ ap (λ (o : Outcome). o.state.primary) (steps v running.ready its who its_mine its_whole w ending changes image))))
