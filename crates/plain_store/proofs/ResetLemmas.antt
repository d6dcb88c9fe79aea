-- A reset of a store that runs.
use Rattle.std.proofs.Common.{◌≡◌, ℕ, ◌+◌, ◌-◌, ◌%◌, ◌^◌, true, List, [], ◌∷◌, ◌++◌, inr, refl, sym, ◌∙◌, ap, subst, arith}
use Rattle.std.specs.Prelude.{IsTrue, Option, Some, None, is_some, unwrap_or}
use Rattle.std.specs.FinMap as map
use Rattle.flash_core.specs.Runs.{Done, Ending, WriteFailed}
use Rattle.kv_model.specs.declared.call.Reply.{Reply}
use Rattle.kv_model.specs.declared.call.Reply.TheVariants as reply
use Rattle.kv_model.specs.declared.error.KvError.{KvError}
use Rattle.kv_model.specs.declared.error.KvError.TheVariants.{WriteFault}
use Rattle.kv_model.specs.Checks.{may_fail_writing}
use Rattle.kv_model.specs.Constants.{Constants}
use Rattle.kv_model.specs.Kv.{Answers, answered}
use Rattle.kv_model.specs.LogStep.{AreLive, LogSteps}
use Rattle.kv_model.specs.Opening.{Log}
use Rattle.kv_model.specs.Operations.{Reset}
use Rattle.kv_model.specs.PlainStep.{plain_checks, plain_rules, plain_step}
use Rattle.kv_model.specs.Rules.{Outcome}
use Rattle.kv_model.specs.StoreState.{OpenSet, StoreState}
use Rattle.kv_model.specs.Write.{Write}
use Rattle.kv_model.proofs.UsedLemmas.{used-empty}
use Rattle.record_core.proofs.LogLemmas.{extent-positive}
use Rattle.tdb_read.specs.States.{constants_of, kv_state, log_in, state_in}
use Rattle.tdb_read.specs.Views.{IsReady, LogView}
use Rattle.tdb_write.specs.Changes.{Changes, IsEmptied}
use Rattle.tdb_write.specs.Copying.{emptied}
use Rattle.tdb_write.proofs.LiveLemmas.{live_spent}
use Rattle.plain_store.specs.Moments.{CutsStrictly}
use Rattle.plain_store.specs.Sets.{set_in}
use Rattle.plain_store.specs.Stores.{IsStopped, IsStore, in_doubt, state_by}
use Rattle.plain_store.specs.declared.active.ActiveSet.{ActiveSet}
use Rattle.plain_store.proofs.MomentLemmas.{written}
use Rattle.plain_store.proofs.StoreLemmas.{running_of, view_at}
use Rattle.plain_store.proofs.WriteLemmas.{done, failed, only_refl, stopped}

-- ---- steps

module _ (constants : Constants) (state : StoreState) (who : ℕ) (running : state.doubt ≡ None) (free : state.open_set ≡ None) where
  pub reset_step : plain_step constants state who Reset ≡ record { state = record state { primary = map.empty; rollback = map.empty }; reply = reply.Done }
  reset_step = simp (running, free)

  pub reset_writes : IsTrue (may_fail_writing (plain_checks constants state who Reset))
  reset_writes = simp free

-- an empty map has no live records
no_live : (live : List Write) → AreLive 0 map.empty live → live ≡ []
no_live [] is = refl
no_live (r ∷ rs) is = absurd (omega (arith, live_spent 1 0 map.empty (r ∷ rs) is, used-empty 1, extent-positive 1 (omega arith) r))

emptied_log : (constants : Constants) (state : StoreState) (a b : Log) → IsEmptied a b → LogSteps constants state a b Reset
emptied_log constants state a b is = subst (λ (live : List Write). b ≡ record { active = 1 - a.active; version = (a.version + 1) % 2 ^ 16; records = live ++ []; is_clean = true; other = b.other }) (no_live is.0 is.1) is.2

-- ---- a reset, over a whole store

module _ (v w : LogView) (active : Option ActiveSet) (note : Option StoreState) (runs : note ≡ None) (store : IsStore (view_at v active note))
    (free : active ≡ None) (who : ℕ) (ending : Ending) (changes : Changes v w emptied IsEmptied ending) where
  ready : IsReady v
  ready = (running_of v active note runs store).ready

  abbrev constants : Constants
  constants = constants_of v.device.geometry v.log

  abbrev before : List ℕ → StoreState
  before image = state_in v.device.geometry v.log None image

  abbrev Is : Option OpenSet → Option StoreState → Reply → Type 0
  Is next later given = Answers plain_rules (state_by v (set_in active) note) (state_by w next later) (answered who Reset given)

  from_parts : (next : Option OpenSet) (later : Option StoreState) (given : Reply)
      → Answers plain_rules (kv_state v None) (state_by w next later) (answered who Reset given) → Is next later given
  from_parts next later given is = subst (λ (n : Option StoreState). Answers plain_rules (state_by v (set_in active) n) (state_by w next later) (answered who Reset given)) (sym runs)
      (subst (λ (a : Option ActiveSet). Answers plain_rules (kv_state v (set_in a)) (state_by w next later) (answered who Reset given)) (sym free) is)

  pub reset_done : ending ≡ Done → Is (set_in active) note reply.Done
  reset_done is = subst (λ (n : Option StoreState). Is (set_in active) n reply.Done) (sym runs)
      (subst (λ (a : Option ActiveSet). Is (set_in a) None reply.Done) (sym free)
      (from_parts None None reply.Done
      (done v v w ready (only_refl v) emptied IsEmptied ending changes is None None who Reset
      (λ image left told now. reset_step constants (before image) who refl refl)
      (λ image left told now step. emptied_log constants (before image) (log_in v.device.geometry v.log image) (log_in w.device.geometry w.log left) step))))

  module _ (is : ending ≡ WriteFailed) (state : StoreState)
      (noted : state ≡ in_doubt (state_in v.device.geometry v.log (set_in active) (unwrap_or v.device.image [])) who Reset) where
    note_is : (image : List ℕ) → v.device.image ≡ Some image → state ≡ record (before image) { doubt = Some (record { who = who; operation = Reset }) }
    note_is image told = noted ∙ ap (λ (o : Option (List ℕ)). in_doubt (state_in v.device.geometry v.log (set_in active) (unwrap_or o [])) who Reset) told
        ∙ ap (λ (a : Option ActiveSet). in_doubt (state_in v.device.geometry v.log (set_in a) image) who Reset) free

    pub reset_doubted : (next : Option OpenSet) (e : KvError) → e ≡ WriteFault → Is next (Some state) (reply.Refused e)
    reset_doubted next e fault = subst (λ (x : KvError). Is next (Some state) (reply.Refused x)) (sym fault)
        (from_parts next (Some state) (reply.Refused WriteFault)
        (failed v v w ready (only_refl v) emptied IsEmptied ending changes is None who Reset
        (λ image told. inr (sym (ap (λ (o : Outcome). o.state.primary) (reset_step constants (before image) who refl refl)))) state note_is next refl
        (λ image told. reset_writes constants (before image) who refl refl)))

    pub reset_stop : IsStopped w state
    reset_stop = stopped v v w ready (only_refl v) emptied IsEmptied ending changes is None who Reset
        (λ image told. inr (sym (ap (λ (o : Outcome). o.state.primary) (reset_step constants (before image) who refl refl)))) state note_is
        ready.safe.hash_bits (ap (λ (s : StoreState). s.doubt) noted)

  -- each moment of it
  pub reset_cuts : (next : Option ActiveSet) (later : Option StoreState) → (is_some later ≡ true → ending ≡ WriteFailed) → CutsStrictly (view_at v active note) (view_at w next later) who Reset
  reset_cuts = written v v w (only_refl v) emptied IsEmptied ending changes active note who Reset
      (λ image told. inr (sym (ap (λ (o : Outcome). o.state.primary) (reset_step constants (state_in v.device.geometry v.log (set_in active) image) who refl (ap set_in free)))))
