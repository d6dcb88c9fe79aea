-- Reads of both stores, and a call behind them.
use Rattle.std.proofs.Common.{◌≡◌, ℕ, Bool, true, List, refl, sym, ◌∙◌, ap₂, subst, inl, inr}
use Rattle.std.specs.Prelude.{◌&&◌, IsTrue, Contains}
use Rattle.kv_model.specs.declared.error.KvError.{KvError}
use Rattle.kv_model.specs.declared.call.Reply.TheVariants.{Refused}
use Rattle.kv_model.specs.Checks.{may_fail_writing}
use Rattle.kv_model.specs.Constants.{Constants}
use Rattle.kv_model.specs.FlaggedMap.{FlaggedMap}
use Rattle.kv_model.specs.StoreState.{StoreState}
use Rattle.kv_model.specs.Operations.{Operation}
use Rattle.kv_model.specs.Rules.{Rules, cuts, step}
use Rattle.kv_model.specs.Kv.{Answered, Clock, IsCause, Keeps, Kind, KvState, LeadsTo, TellsOnly, UnlessFailedWrite, answered, kind_of, may_end, Ruled, FailedRead, FailedWrite, Mismatched, Wanted}
use Rattle.kv_model.proofs.PerformLemmas.{Keeps-trans}
use Rattle.sealed_pair.specs.Going.{HasGone}
use Rattle.sealed_pair.specs.Pair.{Joining, pair, pair_constants}
use Rattle.sealed_pair.specs.Reading.{HasRead}
use Rattle.sealed_pair.specs.Running.{HasEnded, HasRun, HasStopped, IsIdle, Parts, StaysIdle, StaysOpen, TellsOnlyBoth, WhereRun, parts, rules_of}
use Rattle.sealed_pair.specs.SecureStep.{secure_rules}
use Rattle.sealed_pair.specs.Shares.{NoShare, Share}
use Rattle.sealed_pair.specs.Store.{joined}
use Rattle.sealed_pair.proofs.PairLemmas.{carries_since, cause_all, first_of, keeps_both, second_of}
use Rattle.sealed_pair.proofs.GoingLemmas.{tells_more}
use Rattle.sealed_pair.proofs.RunningLemmas.{open_by, runs_of}

-- a clock that tells one map tells only that and another
pub tells_either : {old new : Clock} (m other : FlaggedMap) → TellsOnly old new m m → TellsOnly old new m other
tells_either m other tells = record {
  moment = tells.moment;
  told = λ t map early later. elim (tells.told t map early later) [
    | inl earlier ↦ inl earlier
    | inr (inl is) ↦ inr (inl is)
    | inr (inr is) ↦ inr (inl is)
  ];
}

-- a store that was read stands where it stood
pub read_gone : {by : Constants → Rules} {s s' : KvState} (goal : StoreState → FlaggedMap) → HasRead s s' → HasGone NoShare by s s' (λ state. state) goal
read_gone goal read = record {
  keeps = read.keeps;
  steady = read.steady;
  told = λ state idle. read.state ∙ idle.told;
  moments = λ tells state idle. tells_either state.primary (goal state) (read.moments tells state idle.told);
}

pub read_idle : {by : Constants → Rules} {s s' : KvState} {state : StoreState} → HasRead s s' → IsIdle by s state → IsIdle by s' state
read_idle {state = state} read idle = open_by idle (read.state ∙ idle.told) (runs_of idle)

unless_always : (P : Type 0) (kind : Kind) → P → UnlessFailedWrite kind P
unless_always P Ruled p = p
unless_always P FailedRead p = p
unless_always P FailedWrite p = tt
unless_always P Mismatched p = p
unless_always P Wanted p = p

unless_map : (P Q : Type 0) (kind : Kind) → (P → Q) → UnlessFailedWrite kind P → UnlessFailedWrite kind Q
unless_map P Q Ruled f p = f p
unless_map P Q FailedRead f p = f p
unless_map P Q FailedWrite f p = tt
unless_map P Q Mismatched f p = f p
unless_map P Q Wanted f p = f p

module _ (root : List ℕ) (number : ℕ) (by_above by_below : Constants → Rules) (u u' r r' : KvState) (one : HasRead u u') (two : HasRead r r') where
  abbrev here : Parts
  here = parts root number by_above u by_below r

  abbrev there : Parts
  there = parts root number by_above u' by_below r'

  tells_both : (above below after : StoreState) → IsIdle by_above u above → IsIdle by_below r below → IsTrue u.crash.tells_moments → IsTrue r.crash.tells_moments
      → TellsOnlyBoth here there (joined number above below) after
  tells_both above below after idle idle_too tells tells_too = (
    tells_either above.primary after.primary (one.moments tells above idle.told),
    tells_either below.primary after.rollback (two.moments tells_too below idle_too.told),
  )

  -- a call that was refused once the stores were read, if at all
  pub run_refused : (who : ℕ) (operation : Operation) (e : KvError)
      → ((before after : Joining) → IsCause (pair root before u r).known (pair root after u' r').known (Refused e))
      → IsTrue (may_end operation (kind_of (Refused e)))
      → WhereRun here (λ above below. LeadsTo (rules_of here) (joined number above below) (answered who operation (Refused e)) (joined number above below) (kind_of (Refused e)))
      → HasRun here there (answered who operation (Refused e))
  run_refused who operation e cause may leads = record {
    above = one.keeps;
    below = two.keeps;
    cause = cause;
    may_end = may;
    steady = λ steady steady_too. unless_always ((u'.known.steady ≡ true) × (r'.known.steady ≡ true)) (kind_of (Refused e)) (one.steady steady, two.steady steady_too);
    stays = unless_always (StaysIdle by_above u u' × StaysIdle by_below r r') (kind_of (Refused e))
        ((λ state idle. (state, read_idle one idle)), (λ state idle. (state, read_idle two idle)));
    ends = λ above below idle idle_too. inr (record {
      after = joined number above below;
      both = record { above = above; below = below; primary = read_idle one idle; rollback = read_idle two idle_too; one = refl };
      leads = leads above below idle idle_too;
    });
    cuts = λ tells tells_too above below idle idle_too.
        tells_both above below (step (rules_of here) (joined number above below) who operation).state idle idle_too tells tells_too;
  }

  -- ---- a call behind the reads

  same_constants : pair_constants root u'.known.constants r'.known.constants ≡ pair_constants root u.known.constants r.known.constants
  same_constants = ap₂ (pair_constants root) one.keeps.constants two.keeps.constants

  stays_since : {later : Share} {by : Constants → Rules} {s s' t : KvState} → HasRead s s' → StaysOpen NoShare later by s' t → StaysOpen NoShare later by s t
  stays_since read stays state idle = stays state (read_idle read idle)

  module _ (new : Parts) (call : Answered) where
    stopped_since : (above below : StoreState) → HasStopped there new (joined number above below) call → HasStopped here new (joined number above below) call
    stopped_since above below stopped = record {
      error = stopped.error;
      fails = subst (λ (c : Constants). IsTrue (may_fail_writing ((secure_rules c).checks (joined number above below) call.who call.operation))) same_constants stopped.fails;
      cut = λ maps stands. subst (λ (c : Constants). Contains (cuts (secure_rules c) (joined number above below) call.who call.operation) maps) same_constants (stopped.cut maps stands);
    }

    ended_since : (above below : StoreState) → HasEnded there new (joined number above below) call → HasEnded here new (joined number above below) call
    ended_since above below ended = record {
      after = ended.after;
      both = ended.both;
      leads = subst (λ (c : Constants). LeadsTo (secure_rules c) (joined number above below) call ended.after (kind_of call.reply)) same_constants ended.leads;
    }

  joined_reads : (before : Joining) → Keeps (pair root before u r) (pair root before u' r')
  joined_reads before = keeps_both root u u' r r' before before one.keeps two.keeps

  joined_steady : (before : Joining) → (pair root before u r).known.steady ≡ true → (pair root before u' r').known.steady ≡ true
  joined_steady before steady =
      ap₂ (λ (x y : Bool). x && y) (one.steady (first_of u.known.steady r.known.steady steady)) (two.steady (second_of u.known.steady r.known.steady steady))

  pub run_since : (new : Parts) (call : Answered) → HasRun there new call → HasRun here new call
  run_since new call run = record {
    above = Keeps-trans one.keeps run.above;
    below = Keeps-trans two.keeps run.below;
    cause = λ before after. cause_all (carries_since (pair root before u r) (pair root before u' r') (pair root after new.primary new.rollback) (joined_reads before) (joined_steady before)) call.reply (run.cause before after);
    may_end = run.may_end;
    steady = λ steady steady_too. run.steady (one.steady steady) (two.steady steady_too);
    stays = unless_map (StaysOpen NoShare new.share_above by_above u' new.primary × StaysOpen NoShare new.share_below by_below r' new.rollback)
        (StaysOpen NoShare new.share_above by_above u new.primary × StaysOpen NoShare new.share_below by_below r new.rollback) (kind_of call.reply)
        (λ stays. (stays_since one stays.0, stays_since two stays.1)) run.stays;
    ends = λ above below idle idle_too. elim (run.ends above below (read_idle one idle) (read_idle two idle_too)) [
      | inl stopped ↦ inl (stopped_since new call above below stopped)
      | inr ended ↦ inr (ended_since new call above below ended)
    ];
    cuts = λ tells tells_too above below idle idle_too.
        let again = run.cuts (subst IsTrue (sym one.keeps.tells_moments) tells) (subst IsTrue (sym two.keeps.tells_moments) tells_too) above below (read_idle one idle) (read_idle two idle_too) in
        let State : Constants → StoreState = λ c. (step (secure_rules c) (joined number above below) call.who call.operation).state in
        let whole = subst (λ (c : Constants). TellsOnly u'.crash.primary new.primary.crash.primary above.primary (State c).primary × TellsOnly r'.crash.primary new.rollback.crash.primary below.primary (State c).rollback)
        same_constants again in
        let after = State (pair_constants root u.known.constants r.known.constants) in
        let first = tells_both above below after idle idle_too tells tells_too in
        (tells_more first.0 whole.0 (inl refl) (inr refl), tells_more first.1 whole.1 (inl refl) (inr refl));
  }

  pub run_behind : (later : ℕ) (u'' r'' : KvState) (call : Answered) → HasRun there (parts root later by_above u'' by_below r'') call
      → HasRun here (parts root later by_above u'' by_below r'') call
  run_behind later u'' r'' call run = run_since (parts root later by_above u'' by_below r'') call run
