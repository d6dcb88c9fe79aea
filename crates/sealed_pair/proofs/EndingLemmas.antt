-- The end of a remove that was begun: it is finished or given up.
use Rattle.std.proofs.Common.{◌≡◌, ℕ, Bool, true, false, List, [], Option, Some, None, refl, sym, ◌∙◌, ap, subst}
use Rattle.std.specs.Prelude.{◌==◌, if◌then◌else◌, IsTrue}
use mathlib.Core.Bool.{false≢true}
use Rattle.kv_model.specs.declared.error.KvError.{KvError}
use Rattle.kv_model.specs.declared.call.Reply.{Reply}
use Rattle.kv_model.specs.declared.call.Reply.TheVariants.{Done, Refused}
use Rattle.kv_model.specs.Checks.{may_fail_writing}
use Rattle.kv_model.specs.Constants.{Constants}
use Rattle.kv_model.specs.FlaggedMap.{FlaggedMap}
use Rattle.kv_model.specs.Flags.{is_mirrored}
use Rattle.kv_model.specs.StoreState.{OpenSet, StoreState, begun_remove, begun_set}
use Rattle.kv_model.specs.Operations.{Operation, Abort, Finish}
use Rattle.kv_model.specs.Rules.{Outcome, Rules, step}
use Rattle.kv_model.specs.Kv.{Answered, Answers, IsLawful, KvState, answered}
use Rattle.sealed_pair.specs.declared.active.Active.{Active}
use Rattle.sealed_pair.specs.declared.active.Begun.{Begun}
use Rattle.sealed_pair.specs.declared.active.Begun.TheVariants.{Remove, Set}
use Rattle.sealed_pair.specs.Active.{opened_by, share_in_primary, share_in_rollback, share_of_remove}
use Rattle.sealed_pair.specs.Begun.{active_remove, finishes_remove, parts_in, with_key_gone}
use Rattle.sealed_pair.specs.Going.{Failed, HasGone, Work, map_after}
use Rattle.sealed_pair.specs.declared.limits.TheConstants.{TAG_SIZE}
use Rattle.sealed_pair.specs.Pair.{pair_constants}
use Rattle.sealed_pair.specs.Running.{HasRun, IsOpen, Parts, WhereRun, one_of, parts, rules_of}
use Rattle.sealed_pair.specs.Sealing.{kept_flags}
use Rattle.sealed_pair.specs.SecureStep.{secure_rules}
use Rattle.sealed_pair.specs.Shares.{NoShare, Share, share_of}
use Rattle.sealed_pair.specs.Store.{Own, idle_own, joined, joined_by}
use Rattle.sealed_pair.proofs.BegunLemmas.{IsOwned, gone_given_up}
use Rattle.sealed_pair.proofs.GoingLemmas.{gone_none}
use Rattle.sealed_pair.proofs.RemovingLemmas.{no_finish_prepares, same_who}
use Rattle.sealed_pair.proofs.RunningLemmas.{AreGoals, Runs, run_done, runs_of}
use Rattle.sealed_pair.proofs.TryingLemmas.{IsGranted, tried_above_fails, tried_below_fails, tried_done, working}

owned_by : (key : List ℕ) (who : ℕ) (begun : Bool) → IsOwned (share_of_remove who key begun) who
owned_by key who true = refl
owned_by key who false = tt

module _ (key : List ℕ) (who : ℕ) (above_begun below_begun : Bool) where
  abbrev share : Bool → Share
  share begun = share_of_remove who key begun

  abbrev its : Bool → Work
  its begun = finishes_remove who key (share begun)

  abbrev set_own : ℕ → Own
  set_own n = record { number = n; set = Some (begun_remove who key) }

  finish_step : (c : Constants) (n : ℕ) (above below : StoreState)
      → step (secure_rules c) (joined_by (set_own n) above below) who Finish ≡ record { state = joined n (with_key_gone key above) (with_key_gone key below); reply = Done }
  finish_step c n above below = simp (same_who who) refl

  finish_writes : (c : Constants) (n : ℕ) (above below : StoreState) → IsTrue (may_fail_writing ((secure_rules c).checks (joined_by (set_own n) above below) who Finish))
  finish_writes c n above below = simp (same_who who) refl

  gone_runs : {begun : Share} {by : Constants → Rules} {s : KvState} (state : StoreState) → IsOpen begun by s state → Runs NoShare (with_key_gone key state)
  gone_runs state at = record { running = at.running; holds = refl }

  module _ (root : List ℕ) (n : ℕ) (by_above by_below : Constants → Rules) (u r : KvState) where
    abbrev old : Parts
    old = parts_in root n (active_remove who key above_begun below_begun) by_above u by_below r

    granted : WhereRun (working root (set_own n) by_above by_below u r who Finish (its above_begun) (its below_begun))
        (IsGranted root (set_own n) by_above by_below u r who Finish (its above_begun) (its below_begun) (idle_own n))
    granted above below at at_too = finish_step (pair_constants root u.known.constants r.known.constants) n above below

    writes : WhereRun (working root (set_own n) by_above by_below u r who Finish (its above_begun) (its below_begun))
        (λ above below. IsTrue (may_fail_writing ((secure_rules (pair_constants root u.known.constants r.known.constants)).checks (joined_by (set_own n) above below) who Finish)))
    writes above below at at_too = finish_writes (pair_constants root u.known.constants r.known.constants) n above below

    module _ (u' r' : KvState) where
      pub finish_done : HasGone (share above_begun) by_above u u' (with_key_gone key) (map_after (its above_begun))
          → HasGone (share below_begun) by_below r r' (with_key_gone key) (map_after (its below_begun))
          → HasRun old (parts root n by_above u' by_below r') (answered who Finish Done)
      finish_done gone gone_too =
          tried_done root (set_own n) by_above by_below u r who Finish (its above_begun) (its below_begun) (idle_own n) granted u' NoShare r' NoShare gone gone_too gone_runs gone_runs

      -- the primary store fails, and the rollback store gives it up
      pub finish_above_fails : IsLawful by_above u' → IsLawful by_below r' → (e : KvError) → Failed by_above (its above_begun) u u' e → (reply : Reply) → Answers by_below r r' (answered who Abort reply)
          → HasRun old (parts root n by_above u' by_below r') (answered who Finish (Refused e))
      finish_above_fails lawful lawful_too e failed reply aborted =
          tried_above_fails root (set_own n) by_above by_below u r who Finish (its above_begun) (its below_begun) (idle_own n) granted (λ may. absurd (false≢true may)) writes
          (idle_own n) u' NoShare r' NoShare lawful lawful_too e (λ kind may. may) failed (λ s. record s { open_set = None })
          (gone_given_up (share below_begun) (share below_begun) by_below r r r' (λ s. s) (map_after (its below_begun)) who (gone_none by_below r (map_after (its below_begun))) (λ below at. runs_of at)
          (owned_by key who below_begun) (λ below at. refl) reply aborted)
          (λ below at. refl) (λ prepares. absurd (no_finish_prepares prepares)) (λ prepares. absurd (no_finish_prepares prepares)) (λ below at. record { running = at.running; holds = refl })

      -- the rollback store fails
      pub finish_below_fails : HasGone (share above_begun) by_above u u' (with_key_gone key) (map_after (its above_begun)) → IsLawful by_above u' → IsLawful by_below r' → (e : KvError)
          → Failed by_below (its below_begun) r r' e → HasRun old (parts root n by_above u' by_below r') (answered who Finish (Refused e))
      finish_below_fails gone lawful lawful_too e failed =
          tried_below_fails root (set_own n) by_above by_below u r who Finish (its above_begun) (its below_begun) (idle_own n) granted (λ may. absurd (false≢true may)) writes
          (idle_own n) u' NoShare r' NoShare lawful lawful_too e (λ kind may. may) (with_key_gone key) gone (λ above at. refl) failed
          (λ prepares. absurd (no_finish_prepares prepares)) gone_runs (λ prepares. absurd (no_finish_prepares prepares))

-- ---- given up

owned_above : (root : List ℕ) (n who : ℕ) (begun : Begun) (is_begun : Bool) → IsOwned (share_in_primary root n who begun is_begun) who
owned_above root n who (Remove key) is_begun = owned_by key who is_begun
owned_above root n who (Set set) is_begun = refl

owned_if : (who : ℕ) (set : OpenSet) (b : Bool) → set.owner ≡ who → IsOwned (share_of (if b then Some set else None)) who
owned_if who set true own = own
owned_if who set false own = tt

owned_below : (who : ℕ) (begun : Begun) (is_begun : Bool) → IsOwned (share_in_rollback who begun is_begun) who
owned_below who (Remove key) is_begun = owned_by key who is_begun
owned_below who (Set set) is_begun = owned_if who (record (begun_set who set.key (kept_flags set.flags.bits) TAG_SIZE None) { bytes = [] }) (is_mirrored set.flags.bits) refl

owner_of : (who : ℕ) (begun : Begun) → (opened_by who begun).owner ≡ who
owner_of who (Remove key) = refl
owner_of who (Set set) = refl

module _ (root : List ℕ) (n : ℕ) (by_above by_below : Constants → Rules) (u u' r r' : KvState) (who : ℕ) (begun : Begun) (above_begun below_begun : Bool) where
  abbrev its_active : Option Active
  its_active = Some (record { owner = who; begun = begun; above = above_begun; below = below_begun })

  abbrev with_set : Parts
  with_set = parts_in root n its_active by_above u by_below r

  abort_step : (c : Constants) (set : OpenSet) (above below : StoreState) → (set.owner == who) ≡ true
      → step (secure_rules c) (joined_by (record { number = n; set = Some set }) above below) who Abort ≡ record { state = joined n above below; reply = Done }
  abort_step c set above below own = simp own refl

  aborts : WhereRun with_set (λ above below. step (rules_of with_set) (one_of with_set above below) who Abort ≡ record { state = joined n above below; reply = Done })
  aborts above below at at_too =
      abort_step (pair_constants root u.known.constants r.known.constants) (opened_by who begun) above below (ap (λ (o : ℕ). o == who) (owner_of who begun) ∙ same_who who)

  abbrev stays : StoreState → FlaggedMap
  stays s = s.primary

  abbrev unset : StoreState → StoreState
  unset s = record s { open_set = None }

  goals : WhereRun with_set (AreGoals with_set who Abort stays stays)
  goals above below at at_too = (ap (λ (o : Outcome). o.state.primary) (aborts above below at at_too), ap (λ (o : Outcome). o.state.rollback) (aborts above below at at_too))

  abort_done : (reply reply_too : Reply) → Answers by_above u u' (answered who Abort reply) → Answers by_below r r' (answered who Abort reply_too)
      → HasRun with_set (parts root n by_above u' by_below r') (answered who Abort Done)
  abort_done reply reply_too answers answers_too =
      run_done with_set who Abort stays stays goals (idle_own n) u' NoShare r' NoShare unset unset
      (gone_given_up (share_in_primary root n who begun above_begun) (share_in_primary root n who begun above_begun) by_above u u u' (λ s. s) stays who (gone_none by_above u stays) (λ above at. runs_of at) (owned_above root n who begun above_begun) (λ above at. refl) reply answers)
      (gone_given_up (share_in_rollback who begun below_begun) (share_in_rollback who begun below_begun) by_below r r r' (λ s. s) stays who (gone_none by_below r stays) (λ below at. runs_of at) (owned_below who begun below_begun) (λ below at. refl) reply_too answers_too)
      (λ above at. record { running = at.running; holds = refl }) (λ below at. record { running = at.running; holds = refl }) aborts

pub aborted_any : (root : List ℕ) (n : ℕ) (by_above by_below : Constants → Rules) (u u' r r' : KvState) (who : ℕ) (active : Active) → active.owner ≡ who → (reply reply_too : Reply)
    → Answers by_above u u' (answered who Abort reply) → Answers by_below r r' (answered who Abort reply_too)
    → HasRun (parts_in root n (Some active) by_above u by_below r) (parts root n by_above u' by_below r') (answered who Abort Done)
aborted_any root n by_above by_below u u' r r' who active own reply reply_too answers answers_too =
    subst (λ (o : ℕ). HasRun (parts_in root n (Some (record { owner = o; begun = active.begun; above = active.above; below = active.below })) by_above u by_below r)
    (parts root n by_above u' by_below r') (answered who Abort Done)) (sym own)
    (abort_done root n by_above by_below u u' r r' who active.begun active.above active.below reply reply_too answers answers_too)

-- ---- once what was begun is taken

module _ (root : List ℕ) (n : ℕ) (by_above by_below : Constants → Rules) (u r u' r' : KvState) (call : Answered) (before next : Option Active) (active : Active)
    (taken : before ≡ Some active) (gone : next ≡ None) where
  pub ended_by : HasRun (parts_in root n (Some active) by_above u by_below r) (parts root n by_above u' by_below r') call
      → HasRun (parts_in root n before by_above u by_below r) (parts_in root n next by_above u' by_below r') call
  ended_by run =
      subst (λ (a : Option Active). HasRun (parts_in root n a by_above u by_below r) (parts_in root n next by_above u' by_below r') call) (sym taken)
      (subst (λ (a : Option Active). HasRun (parts_in root n (Some active) by_above u by_below r) (parts_in root n a by_above u' by_below r') call) (sym gone) run)

  -- of the caller who began it
  pub finished_by : (who : ℕ) (operation : Operation) (reply : Reply) → active.owner ≡ who → call ≡ answered who operation reply
      → HasRun (parts_in root n (Some active) by_above u by_below r) (parts root n by_above u' by_below r') (answered active.owner operation reply)
      → HasRun (parts_in root n before by_above u by_below r) (parts_in root n next by_above u' by_below r') call
  finished_by who operation reply own is run =
      ended_by (subst (λ (c : Answered). HasRun (parts_in root n (Some active) by_above u by_below r) (parts root n by_above u' by_below r') c)
      (ap (λ (o : ℕ). answered o operation reply) own ∙ sym is) run)

-- what goes on, of the caller who began it
pub went_on : (root : List ℕ) (n : ℕ) (by_above by_below : Constants → Rules) (u r : KvState) (before : Option Active) (active : Active) (new : Parts) (who : ℕ) (operation : Operation) (reply : Reply)
    → before ≡ Some active → active.owner ≡ who → HasRun (parts_in root n (Some active) by_above u by_below r) new (answered active.owner operation reply)
    → HasRun (parts_in root n before by_above u by_below r) new (answered who operation reply)
went_on root n by_above by_below u r before active new who operation reply taken own run =
    subst (λ (a : Option Active). HasRun (parts_in root n a by_above u by_below r) new (answered who operation reply)) (sym taken)
    (subst (λ (o : ℕ). HasRun (parts_in root n (Some active) by_above u by_below r) new (answered o operation reply)) own run)
