-- A remove that is begun in each store that has the key.
use Rattle.std.proofs.Common.{◌≡◌, ℕ, Bool, true, false, List, Option, Some, None, refl, subst}
use Rattle.std.specs.Prelude.{◌&&◌, IsTrue, is_none, is_some}
use mathlib.Core.Bool.{true≢false}
use Rattle.kv_model.specs.declared.error.KvError.{KvError}
use Rattle.kv_model.specs.declared.flags.Flags.{Flags}
use Rattle.kv_model.specs.declared.call.Reply.{Reply}
use Rattle.kv_model.specs.declared.call.Reply.TheVariants.{Done, Refused}
use Rattle.kv_model.specs.Checks.{may_fail_writing}
use Rattle.kv_model.specs.Constants.{Constants}
use Rattle.kv_model.specs.Keys.{is_key}
use Rattle.kv_model.specs.StoreState.{StoreState, begun_remove}
use Rattle.kv_model.specs.Operations.{Abort, RemoveStart}
use Rattle.kv_model.specs.Rules.{Rules, step}
use Rattle.kv_model.specs.Kv.{Answers, IsLawful, KvState, answered}
use Rattle.sealed_pair.specs.Active.{share_of_remove}
use Rattle.sealed_pair.specs.Begun.{active_remove, begins_remove, parts_in, with_share}
use Rattle.sealed_pair.specs.Going.{Failed, HasGone, WhereStill, Work, map_after}
use Rattle.sealed_pair.specs.Pair.{pair_constants}
use Rattle.sealed_pair.specs.Removing.{HeldAs}
use Rattle.sealed_pair.specs.Running.{HasRun, IsIdle, Parts, WhereRun, parts}
use Rattle.sealed_pair.specs.SecureStep.{secure_rules}
use Rattle.sealed_pair.specs.Shares.{NoShare, Share}
use Rattle.sealed_pair.specs.Store.{Own, idle_own, joined, joined_by}
use Rattle.sealed_pair.proofs.BegunLemmas.{IsOwned, gone_given_up}
use Rattle.sealed_pair.proofs.GoingLemmas.{gone_none}
use Rattle.sealed_pair.proofs.RemovingLemmas.{secure_may_read}
use Rattle.sealed_pair.proofs.RunningLemmas.{Runs, runs_of}
use Rattle.sealed_pair.proofs.TryingLemmas.{IsGranted, tried_above_fails, tried_below_fails, tried_done, working}

module _ (key : List ℕ) (good : is_key key ≡ true) (who : ℕ) where
  abbrev share : Option Flags → Share
  share held = share_of_remove who key (is_some held)

  abbrev its : Option Flags → Work
  its held = begins_remove who key (share held)

  abbrev set_own : ℕ → Own
  set_own n = record { number = n; set = Some (begun_remove who key) }

  -- by which of the stores hold the key
  begin_step : (c : Constants) (n : ℕ) (above below : StoreState) (f g : Option Flags) → HeldAs key f above → HeldAs key g below → (is_none f && is_none g) ≡ false
      → step (secure_rules c) (joined n above below) who (RemoveStart key) ≡ record { state = joined_by (set_own n) above below; reply = Done }
  begin_step c n above below None None one two some = absurd (true≢false some)
  begin_step c n above below None (Some g) one two some = simp (good, one, two.there, two.free) refl
  begin_step c n above below (Some f) None one two some = simp (good, one.there, two, one.free) refl
  begin_step c n above below (Some f) (Some g) one two some = simp (good, one.there, two.there, one.free, two.free) refl

  begin_writes : (c : Constants) (n : ℕ) (above below : StoreState) (f g : Option Flags) → HeldAs key f above → HeldAs key g below → (is_none f && is_none g) ≡ false
      → IsTrue (may_fail_writing ((secure_rules c).checks (joined n above below) who (RemoveStart key)))
  begin_writes c n above below None None one two some = absurd (true≢false some)
  begin_writes c n above below None (Some g) one two some = simp (good, one, two.there, two.free) refl
  begin_writes c n above below (Some f) None one two some = simp (good, one.there, two, one.free) refl
  begin_writes c n above below (Some f) (Some g) one two some = simp (good, one.there, two.there, one.free, two.free) refl

  begun_runs : {by : Constants → Rules} {s : KvState} (held : Option Flags) (state : StoreState) → IsIdle by s state → HeldAs key held state → Runs (share held) (with_share (share held) state)
  begun_runs None state at holds = record { running = at.running; holds = (refl, holds) }
  begun_runs (Some flags) state at holds = record { running = at.running; holds = refl }

  is_owned : (held : Option Flags) → IsOwned (share held) who
  is_owned None = tt
  is_owned (Some flags) = refl

  module _ (root : List ℕ) (n : ℕ) (by_above by_below : Constants → Rules) (u r : KvState) (f g : Option Flags)
      (holds : WhereStill by_above u (HeldAs key f)) (holds_too : WhereStill by_below r (HeldAs key g)) (some : (is_none f && is_none g) ≡ false) where
    granted : WhereRun (working root (idle_own n) by_above by_below u r who (RemoveStart key) (its f) (its g)) (IsGranted root (idle_own n) by_above by_below u r who (RemoveStart key) (its f) (its g) (set_own n))
    granted above below at at_too =
        begin_step (pair_constants root u.known.constants r.known.constants) n above below f g (holds above at) (holds_too below at_too) some

    writes : WhereRun (working root (idle_own n) by_above by_below u r who (RemoveStart key) (its f) (its g))
        (λ above below. IsTrue (may_fail_writing ((secure_rules (pair_constants root u.known.constants r.known.constants)).checks (joined n above below) who (RemoveStart key))))
    writes above below at at_too =
        begin_writes (pair_constants root u.known.constants r.known.constants) n above below f g (holds above at) (holds_too below at_too) some

    pub begin_done : (u' r' : KvState) → HasGone NoShare by_above u u' (with_share (share f)) (map_after (its f)) → HasGone NoShare by_below r r' (with_share (share g)) (map_after (its g))
        → HasRun (parts root n by_above u by_below r) (parts_in root n (active_remove who key (is_some f) (is_some g)) by_above u' by_below r') (answered who (RemoveStart key) Done)
    begin_done u' r' gone gone_too =
        tried_done root (idle_own n) by_above by_below u r who (RemoveStart key) (its f) (its g) (set_own n) granted u' (share f) r' (share g) gone gone_too
        (λ above at. begun_runs f above at (holds above at)) (λ below at. begun_runs g below at (holds_too below at))

    -- the primary store does not begin
    pub begin_above_fails : (u' : KvState) → IsLawful by_above u' → IsLawful by_below r → (e : KvError) → Failed by_above (its f) u u' e
        → HasRun (parts root n by_above u by_below r) (parts root n by_above u' by_below r) (answered who (RemoveStart key) (Refused e))
    begin_above_fails u' lawful lawful_too e failed =
        tried_above_fails root (idle_own n) by_above by_below u r who (RemoveStart key) (its f) (its g) (set_own n) granted
        (λ may above below at at_too. secure_may_read key good who (pair_constants root u.known.constants r.known.constants) n above below) writes
        (idle_own n) u' NoShare r NoShare lawful lawful_too e (λ kind may. may) failed (λ s. s) (gone_none by_below r (map_after (its g))) (λ below at. refl)
        (λ prepares above below at at_too. refl) (λ prepares above at. runs_of at) (λ below at. runs_of at)

    -- the rollback store does not begin, and the primary store gives it up
    pub begin_below_fails : (u' u'' r' : KvState) → HasGone NoShare by_above u u' (with_share (share f)) (map_after (its f)) → (reply : Reply) → Answers by_above u' u'' (answered who Abort reply)
        → IsLawful by_above u'' → IsLawful by_below r' → (e : KvError) → Failed by_below (its g) r r' e
        → HasRun (parts root n by_above u by_below r) (parts root n by_above u'' by_below r') (answered who (RemoveStart key) (Refused e))
    begin_below_fails u' u'' r' gone reply aborted lawful lawful_too e failed =
        tried_below_fails root (idle_own n) by_above by_below u r who (RemoveStart key) (its f) (its g) (set_own n) granted
        (λ may above below at at_too. secure_may_read key good who (pair_constants root u.known.constants r.known.constants) n above below) writes
        (idle_own n) u'' NoShare r' NoShare lawful lawful_too e (λ kind may. may) (λ s. record s { open_set = None })
        (gone_given_up NoShare (share f) by_above u u' u'' (with_share (share f)) (map_after (its f)) who gone (λ above at. begun_runs f above at (holds above at)) (is_owned f)
        (λ above at. refl) reply aborted)
        (λ above at. refl) failed (λ prepares above below at at_too. refl) (λ above at. record { running = at.running; holds = refl }) (λ prepares below at. runs_of at)

-- a run that begins, with its key and where that is held read in another way
pub begun_as : (old : Parts) (root : List ℕ) (n : ℕ) (by_above by_below : Constants → Rules) (u r : KvState) (who : ℕ) (k key : List ℕ) (a above b below : Bool) → k ≡ key → a ≡ above → b ≡ below
    → HasRun old (parts_in root n (active_remove who k a b) by_above u by_below r) (answered who (RemoveStart k) Done)
    → HasRun old (parts_in root n (active_remove who key above below) by_above u by_below r) (answered who (RemoveStart key) Done)
begun_as old root n by_above by_below u r who k key a above b below same same_above same_below run =
    subst (λ (l : List ℕ). HasRun old (parts_in root n (active_remove who l above below) by_above u by_below r) (answered who (RemoveStart l) Done)) same
    (subst (λ (x : Bool). HasRun old (parts_in root n (active_remove who k x below) by_above u by_below r) (answered who (RemoveStart k) Done)) same_above
    (subst (λ (y : Bool). HasRun old (parts_in root n (active_remove who k a y) by_above u by_below r) (answered who (RemoveStart k) Done)) same_below run))

pub refused_as : (old new : Parts) (who : ℕ) (k key : List ℕ) (e : KvError) → k ≡ key → HasRun old new (answered who (RemoveStart k) (Refused e))
    → HasRun old new (answered who (RemoveStart key) (Refused e))
refused_as old new who k key e same run = subst (λ (l : List ℕ). HasRun old new (answered who (RemoveStart l) (Refused e))) same run
