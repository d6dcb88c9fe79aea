-- A reset of both stores.
use Rattle.std.proofs.Common.{◌≡◌, ℕ, refl, subst, inl, inr}
use Rattle.std.specs.Prelude.{List}
use Rattle.std.specs.FinMap.{empty}
use mathlib.Core.Bool.{false≢true}
use Rattle.kv_model.specs.declared.error.KvError.{KvError}
use Rattle.kv_model.specs.declared.call.Reply.TheVariants.{Done, Refused}
use Rattle.kv_model.specs.Constants.{Constants}
use Rattle.kv_model.specs.StoreState.{StoreState}
use Rattle.kv_model.specs.Operations.{Reset}
use Rattle.kv_model.specs.PlainStep.{plain_rules}
use Rattle.kv_model.specs.Rules.{Outcome, Rules, step}
use Rattle.kv_model.specs.Kv.{Answers, IsLawful, KvState, answered}
use Rattle.sealed_pair.specs.Going.{HasGone}
use Rattle.sealed_pair.specs.Running.{HasRun, parts}
use Rattle.sealed_pair.specs.Shares.{NoShare}
use Rattle.sealed_pair.specs.Store.{idle_own}
use Rattle.sealed_pair.proofs.GoingLemmas.{IsEither, gone_fails, gone_more, gone_none}
use Rattle.sealed_pair.proofs.RunningLemmas.{IsStill, Prepares, run_above_fails, run_below_fails, run_done, runs_of}

-- a plain store once it is reset
abbrev emptied : StoreState → StoreState
emptied state = record state { primary = empty; rollback = empty }

plain_resets : (constants : Constants) (state : StoreState) (who : ℕ) → IsStill state
    → step (plain_rules constants) state who Reset ≡ record { state = emptied state; reply = Done }
plain_resets constants state who still = simp (still.running, still.holds) refl

no_reset_prepares : Prepares Reset → ⊥
no_reset_prepares (inl may) = false≢true may
no_reset_prepares (inr may) = false≢true may

module _ (root : List ℕ) (number : ℕ) (by_above by_below : Constants → Rules) (u u' r : KvState) (who : ℕ) where
  either_now : (s : StoreState) → IsEither s.primary s.primary empty
  either_now s = inl refl

  either_empty : (s : StoreState) → IsEither (emptied s).primary s.primary empty
  either_empty s = inr refl

  -- ---- the primary store refuses

  pub reset_above_fails : IsLawful by_above u' → IsLawful by_below r → (e : KvError) → Answers by_above u u' (answered who Reset (Refused e))
      → HasRun (parts root number by_above u by_below r) (parts root number by_above u' by_below r) (answered who Reset (Refused e))
  reset_above_fails lawful_above lawful_below e answers =
      run_above_fails (parts root number by_above u by_below r) who Reset (λ s. empty) (λ s. empty) (λ above below idle idle_too. (refl, refl)) (idle_own number) u' NoShare r NoShare
      (record { who = who; operation = Reset; error = e }) (λ kind may. may) (λ may. absurd (false≢true may)) (λ above below idle idle_too. refl)
      lawful_above lawful_below (λ s. s) (λ s. s) (λ prepares above below idle idle_too. refl)
      (gone_fails by_above u u u' (λ s. s) emptied (λ s. empty) who Reset (gone_none by_above u (λ s. empty)) (λ s idle. plain_resets u.known.constants s who (runs_of idle))
      (λ s idle. either_now s) (λ s idle. either_empty s) e answers)
      (gone_none by_below r (λ s. empty))
      (λ s idle. idle.running) (λ prepares s idle. runs_of idle) (λ s idle. runs_of idle)
      (λ above below idle idle_too x either.
      elim (subst (λ (o : Outcome). IsEither x above.primary o.state.primary) (plain_resets u.known.constants above who (runs_of idle)) either) [
        | inl same ↦ inl (same, refl)
        | inr none ↦ inr (inl (none, refl))
      ])

module _ (root : List ℕ) (number : ℕ) (by_above by_below : Constants → Rules) (u u' r r' : KvState) (who : ℕ) (done : Answers by_above u u' (answered who Reset Done)) where
  gone_above : HasGone NoShare by_above u u' emptied (λ s. empty)
  gone_above =
      gone_more by_above u u u' (λ s. s) emptied (λ s. empty) who Reset (gone_none by_above u (λ s. empty)) (λ s idle. plain_resets u.known.constants s who (runs_of idle))
      (λ s idle. inl refl) (λ s idle. inr refl) done

  -- ---- the rollback store refuses

  pub reset_below_fails : IsLawful by_above u' → IsLawful by_below r' → (e : KvError) → Answers by_below r r' (answered who Reset (Refused e))
      → HasRun (parts root number by_above u by_below r) (parts root number by_above u' by_below r') (answered who Reset (Refused e))
  reset_below_fails lawful_above lawful_below e answers =
      run_below_fails (parts root number by_above u by_below r) who Reset (λ s. empty) (λ s. empty) (λ above below idle idle_too. (refl, refl)) (idle_own number) u' NoShare r' NoShare
      (record { who = who; operation = Reset; error = e }) (λ kind may. may) (λ may. absurd (false≢true may)) (λ above below idle idle_too. refl)
      lawful_above lawful_below emptied (λ s. s) (λ prepares. absurd (no_reset_prepares prepares))
      gone_above
      (gone_fails by_below r r r' (λ s. s) emptied (λ s. empty) who Reset (gone_none by_below r (λ s. empty)) (λ s idle. plain_resets r.known.constants s who (runs_of idle))
      (λ s idle. inl refl) (λ s idle. inr refl) e answers)
      (λ s idle. idle.running) (λ s idle. record { running = idle.running; holds = idle.holds }) (λ prepares s idle. runs_of idle)
      (λ above below idle idle_too y either.
      elim (subst (λ (o : Outcome). IsEither y below.primary o.state.primary) (plain_resets r.known.constants below who (runs_of idle_too)) either) [
        | inl same ↦ inr (inl (refl, same))
        | inr none ↦ inr (inr (refl, none))
      ])

  -- ---- both are reset

  pub reset_done : Answers by_below r r' (answered who Reset Done)
      → HasRun (parts root number by_above u by_below r) (parts root number by_above u' by_below r') (answered who Reset Done)
  reset_done answers =
      run_done (parts root number by_above u by_below r) who Reset (λ s. empty) (λ s. empty) (λ above below idle idle_too. (refl, refl)) (idle_own number) u' NoShare r' NoShare emptied emptied
      gone_above
      (gone_more by_below r r r' (λ s. s) emptied (λ s. empty) who Reset (gone_none by_below r (λ s. empty)) (λ s idle. plain_resets r.known.constants s who (runs_of idle))
      (λ s idle. inl refl) (λ s idle. inr refl) answers)
      (λ s idle. record { running = idle.running; holds = idle.holds }) (λ s idle. record { running = idle.running; holds = idle.holds })
      (λ above below idle idle_too. refl)
