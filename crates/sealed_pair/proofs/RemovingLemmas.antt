-- A remove of a key that both stores hold, or one of them.
use Rattle.std.proofs.Common.{◌≡◌, ℕ, true, List, Some, None, refl, sym, ◌∙◌, ap, subst, inl, inr, arith}
use Rattle.std.specs.Prelude.{◌==◌, IsTrue}
use Rattle.std.proofs.lemmas.Bool.Decides.{nat_tests}
use Rattle.std.specs.FinMap.{remove}
use mathlib.Core.Bool.{false≢true}
use Rattle.kv_model.specs.declared.error.KvError.{KvError}
use Rattle.kv_model.specs.declared.call.Reply.{Reply}
use Rattle.kv_model.specs.declared.call.Reply.TheVariants.{Done, Refused}
use Rattle.kv_model.specs.Checks.{may_fail_reading, may_fail_writing}
use Rattle.kv_model.specs.Constants.{Constants}
use Rattle.kv_model.specs.FlaggedMap.{FlaggedMap}
use Rattle.kv_model.specs.Keys.{is_key}
use Rattle.kv_model.specs.StoreState.{StoreState, begun_remove}
use Rattle.kv_model.specs.Operations.{Abort, Finish, Remove, RemoveStart}
use Rattle.kv_model.specs.PlainStep.{plain_rules}
use Rattle.kv_model.specs.Rules.{Outcome, Rules, step}
use Rattle.kv_model.specs.Kv.{Answers, IsLawful, Kind, KvState, answered, may_end, Ruled, FailedRead, FailedWrite, Mismatched, Wanted}
use Rattle.sealed_pair.specs.Going.{HasGone, WhereStill}
use Rattle.sealed_pair.specs.Pair.{pair_constants}
use Rattle.sealed_pair.specs.Removing.{MayLose}
use Rattle.sealed_pair.specs.Running.{HasRun, IsIdle, Parts, WhereRun, parts, rules_of}
use Rattle.sealed_pair.specs.SecureStep.{secure_rules}
use Rattle.sealed_pair.specs.Shares.{NoShare}
use Rattle.sealed_pair.specs.Store.{idle_own, joined}
use Rattle.sealed_pair.proofs.GoingLemmas.{IsEither, gone_ends, gone_fails, gone_more, gone_none}
use Rattle.sealed_pair.proofs.RunningLemmas.{AreGoals, IsStill, Prepares, run_above_fails, run_below_fails, run_done, runs_of}

pub same_who : (n : ℕ) → (n == n) ≡ true
same_who n = grind (arith, nat_tests)

pub no_finish_prepares : Prepares Finish → ⊥
no_finish_prepares (inl may) = false≢true may
no_finish_prepares (inr may) = false≢true may

module _ (key : List ℕ) (good : is_key key ≡ true) (who : ℕ) where
  -- a plain store that has begun to remove the key, that gave it up, and that has lost the key
  abbrev marked : StoreState → StoreState
  marked s = record s { open_set = Some (begun_remove who key) }

  abbrev unmarked : StoreState → StoreState
  unmarked s = record s { open_set = None }

  abbrev lost : StoreState → StoreState
  lost s = record s { primary = remove s.primary key; open_set = None }

  abbrev goal : StoreState → FlaggedMap
  goal s = remove s.primary key

  pub begins : (c : Constants) (s : StoreState) → IsStill s → MayLose key s → step (plain_rules c) s who (RemoveStart key) ≡ record { state = marked s; reply = Done }
  begins c s still may = simp (still.running, still.holds, good, may.there, may.free) refl

  finishes : (c : Constants) (s : StoreState) → IsStill s → step (plain_rules c) (marked s) who Finish ≡ record { state = lost s; reply = Done }
  finishes c s still = simp (still.running, same_who who) refl

  aborts : (c : Constants) (s : StoreState) → IsStill s → step (plain_rules c) (marked s) who Abort ≡ record { state = unmarked s; reply = Done }
  aborts c s still = simp (still.running, same_who who) refl

  secure_removes : (c : Constants) (n : ℕ) (above below : StoreState) → MayLose key above → MayLose key below
      → step (secure_rules c) (joined n above below) who (Remove key) ≡ record { state = joined n (lost above) (lost below); reply = Done }
  secure_removes c n above below one two = simp (good, one.there, two.there, one.free, two.free) refl

  secure_may_write : (c : Constants) (n : ℕ) (above below : StoreState) → MayLose key above → MayLose key below
      → IsTrue (may_fail_writing ((secure_rules c).checks (joined n above below) who (Remove key)))
  secure_may_write c n above below one two = simp (good, one.there, two.there, one.free, two.free) refl

  pub secure_may_read : (c : Constants) (n : ℕ) (above below : StoreState) → IsTrue (may_fail_reading ((secure_rules c).checks (joined n above below) who (Remove key)))
  secure_may_read c n above below = simp good refl

  start_kinds : (kind : Kind) → IsTrue (may_end (RemoveStart key) kind) → IsTrue (may_end (Remove key) kind)
  start_kinds Ruled may = may
  start_kinds FailedRead may = may
  start_kinds FailedWrite may = may
  start_kinds Mismatched may = may
  start_kinds Wanted may = may

  finish_kinds : (kind : Kind) → IsTrue (may_end Finish kind) → IsTrue (may_end (Remove key) kind)
  finish_kinds Ruled may = may
  finish_kinds FailedRead may = absurd (false≢true may)
  finish_kinds FailedWrite may = may
  finish_kinds Mismatched may = absurd (false≢true may)
  finish_kinds Wanted may = absurd (false≢true may)

  lost_still : (s : StoreState) → IsStill s → IsStill (lost s)
  lost_still s still = record { running = still.running; holds = refl }

  unmarked_still : (s : StoreState) → IsStill s → IsStill (unmarked s)
  unmarked_still s still = record { running = still.running; holds = refl }

  -- ---- one of the stores, step by step

  module _ (by : Constants → Rules) (s s₁ : KvState) (may : WhereStill by s (MayLose key)) (begun : Answers by s s₁ (answered who (RemoveStart key) Done)) where
    gone_begun : HasGone NoShare by s s₁ marked goal
    gone_begun = gone_more by s s s₁ (λ x. x) marked goal who (RemoveStart key) (gone_none by s goal) (λ x idle. begins s.known.constants x (runs_of idle) (may x idle))
        (λ x idle. inl refl) (λ x idle. inl refl) begun

    gone_aborted : (s₂ : KvState) (reply : Reply) → Answers by s₁ s₂ (answered who Abort reply) → HasGone NoShare by s s₂ unmarked goal
    gone_aborted s₂ reply answers = gone_ends by s s₁ s₂ marked unmarked goal who gone_begun (λ x idle. aborts s₁.known.constants x (runs_of idle)) (λ x idle. inl refl) (λ x idle. inl refl) reply answers

    gone_lost : (s₂ : KvState) → Answers by s₁ s₂ (answered who Finish Done) → HasGone NoShare by s s₂ lost goal
    gone_lost s₂ answers = gone_more by s s₁ s₂ marked lost goal who Finish gone_begun (λ x idle. finishes s₁.known.constants x (runs_of idle)) (λ x idle. inl refl) (λ x idle. inr refl) answers

  -- ---- both stores

  module _ (root : List ℕ) (n : ℕ) (by_above by_below : Constants → Rules) (u r : KvState)
      (may : WhereStill by_above u (MayLose key)) (may_too : WhereStill by_below r (MayLose key)) where
    abbrev old : Parts
    old = parts root n by_above u by_below r

    removes : (above below : StoreState) → IsIdle by_above u above → IsIdle by_below r below
        → step (rules_of old) (joined n above below) who (Remove key) ≡ record { state = joined n (lost above) (lost below); reply = Done }
    removes above below idle idle_too = secure_removes (pair_constants root u.known.constants r.known.constants) n above below (may above idle) (may_too below idle_too)

    goals : WhereRun old (AreGoals (parts root n by_above u by_below r) who (Remove key) goal goal)
    goals above below idle idle_too = (
      ap (λ (o : Outcome). o.state.primary) (removes above below idle idle_too),
      ap (λ (o : Outcome). o.state.rollback) (removes above below idle idle_too),
    )

    writes : WhereRun old (λ above below. IsTrue (may_fail_writing ((rules_of old).checks (joined n above below) who (Remove key))))
    writes above below idle idle_too = secure_may_write (pair_constants root u.known.constants r.known.constants) n above below (may above idle) (may_too below idle_too)

    -- the primary store does not begin
    pub remove_not_begun : (u₁ : KvState) → IsLawful by_above u₁ → IsLawful by_below r → (e : KvError) → Answers by_above u u₁ (answered who (RemoveStart key) (Refused e))
        → HasRun old (parts root n by_above u₁ by_below r) (answered who (Remove key) (Refused e))
    remove_not_begun u₁ lawful_above lawful_below e answers =
        run_above_fails (parts root n by_above u by_below r) who (Remove key) goal goal goals (idle_own n) u₁ NoShare r NoShare (record { who = who; operation = RemoveStart key; error = e }) start_kinds
        (λ reads above below idle idle_too. secure_may_read (pair_constants root u.known.constants r.known.constants) n above below) writes lawful_above lawful_below (λ s. s) (λ s. s) (λ prepares above below idle idle_too. refl)
        (gone_fails by_above u u u₁ (λ s. s) marked goal who (RemoveStart key) (gone_none by_above u goal) (λ s idle. begins u.known.constants s (runs_of idle) (may s idle))
        (λ s idle. inl refl) (λ s idle. inl refl) e answers)
        (gone_none by_below r goal) (λ s idle. idle.running) (λ prepares s idle. runs_of idle) (λ s idle. runs_of idle)
        (λ above below idle idle_too x either.
        elim (subst (λ (o : Outcome). IsEither x above.primary o.state.primary) (begins u.known.constants above (runs_of idle) (may above idle)) either) [
          | inl same ↦ inl (same, refl)
          | inr same ↦ inl (same, refl)
        ])

    -- the rollback store does not begin, and the primary store gives it up
    pub remove_given_up : (u₁ u₂ r₁ : KvState) → Answers by_above u u₁ (answered who (RemoveStart key) Done) → (reply : Reply) → Answers by_above u₁ u₂ (answered who Abort reply)
        → IsLawful by_above u₂ → IsLawful by_below r₁ → (e : KvError) → Answers by_below r r₁ (answered who (RemoveStart key) (Refused e))
        → HasRun old (parts root n by_above u₂ by_below r₁) (answered who (Remove key) (Refused e))
    remove_given_up u₁ u₂ r₁ begun reply aborted lawful_above lawful_below e answers =
        run_below_fails (parts root n by_above u by_below r) who (Remove key) goal goal goals (idle_own n) u₂ NoShare r₁ NoShare (record { who = who; operation = RemoveStart key; error = e }) start_kinds
        (λ reads above below idle idle_too. secure_may_read (pair_constants root u.known.constants r.known.constants) n above below) writes lawful_above lawful_below unmarked (λ s. s) (λ prepares above below idle idle_too. refl)
        (gone_aborted by_above u u₁ may begun u₂ reply aborted)
        (gone_fails by_below r r r₁ (λ s. s) marked goal who (RemoveStart key) (gone_none by_below r goal) (λ s idle. begins r.known.constants s (runs_of idle) (may_too s idle))
        (λ s idle. inl refl) (λ s idle. inl refl) e answers)
        (λ s idle. idle.running) (λ s idle. unmarked_still s (runs_of idle)) (λ prepares s idle. runs_of idle)
        (λ above below idle idle_too y either.
        elim (subst (λ (o : Outcome). IsEither y below.primary o.state.primary) (begins r.known.constants below (runs_of idle_too) (may_too below idle_too)) either) [
          | inl same ↦ inl (refl, same)
          | inr same ↦ inl (refl, same)
        ])

    module _ (u₁ r₁ : KvState) (begun : Answers by_above u u₁ (answered who (RemoveStart key) Done)) (begun_too : Answers by_below r r₁ (answered who (RemoveStart key) Done)) where
      -- the primary store fails to finish
      pub remove_not_finished : (u₂ r₂ : KvState) (reply : Reply) → Answers by_below r₁ r₂ (answered who Abort reply) → IsLawful by_above u₂ → IsLawful by_below r₂ → (e : KvError)
          → Answers by_above u₁ u₂ (answered who Finish (Refused e)) → HasRun old (parts root n by_above u₂ by_below r₂) (answered who (Remove key) (Refused e))
      remove_not_finished u₂ r₂ reply aborted lawful_above lawful_below e answers =
          run_above_fails (parts root n by_above u by_below r) who (Remove key) goal goal goals (idle_own n) u₂ NoShare r₂ NoShare (record { who = who; operation = Finish; error = e }) finish_kinds
          (λ reads above below idle idle_too. secure_may_read (pair_constants root u.known.constants r.known.constants) n above below) writes lawful_above lawful_below marked unmarked (λ prepares. absurd (no_finish_prepares prepares))
          (gone_fails by_above u u₁ u₂ marked lost goal who Finish (gone_begun by_above u u₁ may begun) (λ s idle. finishes u₁.known.constants s (runs_of idle))
          (λ s idle. inl refl) (λ s idle. inr refl) e answers)
          (gone_aborted by_below r r₁ may_too begun_too r₂ reply aborted)
          (λ s idle. idle.running) (λ prepares. absurd (no_finish_prepares prepares)) (λ s idle. unmarked_still s (runs_of idle))
          (λ above below idle idle_too x either.
          elim (subst (λ (o : Outcome). IsEither x above.primary o.state.primary) (finishes u.known.constants above (runs_of idle)) either) [
            | inl same ↦ inl (same, refl)
            | inr gone ↦ inr (inl (gone ∙ sym (goals above below idle idle_too).0, refl))
          ])

      module _ (u₂ : KvState) (finished : Answers by_above u₁ u₂ (answered who Finish Done)) where
        -- the rollback store fails to finish
        pub remove_half_finished : (r₂ : KvState) → IsLawful by_above u₂ → IsLawful by_below r₂ → (e : KvError)
            → Answers by_below r₁ r₂ (answered who Finish (Refused e)) → HasRun old (parts root n by_above u₂ by_below r₂) (answered who (Remove key) (Refused e))
        remove_half_finished r₂ lawful_above lawful_below e answers =
            run_below_fails (parts root n by_above u by_below r) who (Remove key) goal goal goals (idle_own n) u₂ NoShare r₂ NoShare (record { who = who; operation = Finish; error = e }) finish_kinds
            (λ reads above below idle idle_too. secure_may_read (pair_constants root u.known.constants r.known.constants) n above below) writes lawful_above lawful_below lost marked (λ prepares. absurd (no_finish_prepares prepares))
            (gone_lost by_above u u₁ may begun u₂ finished)
            (gone_fails by_below r r₁ r₂ marked lost goal who Finish (gone_begun by_below r r₁ may_too begun_too) (λ s idle. finishes r₁.known.constants s (runs_of idle))
            (λ s idle. inl refl) (λ s idle. inr refl) e answers)
            (λ s idle. idle.running) (λ s idle. lost_still s (runs_of idle)) (λ prepares. absurd (no_finish_prepares prepares))
            (λ above below idle idle_too y either.
            elim (subst (λ (o : Outcome). IsEither y below.primary o.state.primary) (finishes r.known.constants below (runs_of idle_too)) either) [
              | inl same ↦ inr (inl (sym (goals above below idle idle_too).0, same))
              | inr gone ↦ inr (inr (sym (goals above below idle idle_too).0, gone ∙ sym (goals above below idle idle_too).1))
            ])

        -- both have lost the key
        pub remove_finished : (r₂ : KvState) → Answers by_below r₁ r₂ (answered who Finish Done) → HasRun old (parts root n by_above u₂ by_below r₂) (answered who (Remove key) Done)
        remove_finished r₂ answers =
            run_done (parts root n by_above u by_below r) who (Remove key) goal goal goals (idle_own n) u₂ NoShare r₂ NoShare lost lost (gone_lost by_above u u₁ may begun u₂ finished)
            (gone_lost by_below r r₁ may_too begun_too r₂ answers) (λ s idle. lost_still s (runs_of idle)) (λ s idle. lost_still s (runs_of idle)) removes
