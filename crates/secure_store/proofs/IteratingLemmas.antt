-- A call on the primary store's iterators, as a call of the secure store.
use Rattle.std.proofs.Common.{◌≡◌, ℕ, Bool, List, Option, Some, None, refl, sym, ◌∙◌, ap, subst}
use Rattle.std.specs.Prelude.{if◌then◌else◌, is_some, is_none, true, IsTrue}
use mathlib.Core.Bool.{false≢true}
use Rattle.kv_model.specs.declared.error.KvError.{KvError}
use Rattle.kv_model.specs.declared.call.Reply.{Reply}
use Rattle.kv_model.specs.Constants.{Constants}
use Rattle.std.specs.FinMap.{get}
use Rattle.kv_model.specs.FlaggedMap.{FlaggedMap}
use Rattle.kv_model.specs.StoreState.{StoreState}
use Rattle.kv_model.specs.Operations.{Operation, CloseIterator, Next, OpenIterator}
use Rattle.kv_model.specs.PlainStep.{plain_rules}
use Rattle.kv_model.specs.Rows.{advanced, position_of}
use Rattle.kv_model.specs.NextKey.{next_key}
use Rattle.kv_model.specs.Rules.{Outcome, Rules, refused_or, refuses, step}
use Rattle.kv_model.specs.declared.error.KvError.TheVariants.{Stopped}
use Rattle.kv_model.specs.Kv.{Answers, Kind, KvState, LeadsTo, TellsOnly, answered, kind_of, may_end, Ruled, FailedRead, FailedWrite, Mismatched, Wanted}
use Rattle.kv_model.specs.Checks.{Check, first_refusal, may_fail_reading}
use Rattle.sealed_pair.specs.Pair.{pair, pair_constants}
use Rattle.sealed_pair.specs.SecureStep.{secure_rules}
use Rattle.secure_store.specs.declared.stop.Stop.{Stop}
use Rattle.secure_store.specs.Doubts.{told_by}
use Rattle.sealed_pair.specs.Shares.{Holds, Share, NoShare, HasSet, LacksKey}
use Rattle.sealed_pair.specs.Store.{IsPlainStore, IsPlainWhile, Own, joined_by}
use Rattle.sealed_pair.proofs.PairLemmas.{carries_above, cause_all, first_of, keeps_both, read_none, same_told, second_of, told_both, unless_both}
use Rattle.sealed_pair.proofs.ReadingLemmas.{some_of}
use Rattle.secure_store.proofs.SettleLemmas.{running_answers, runs_plain}
use Rattle.sealed_pair.proofs.StoreReadLemmas.{none_of}

-- the calls on iterators, which are the same to a plain store and to a secure one
pub data Iterating : Type 0 where
  Opens : ℕ → List ℕ → Iterating
  Gives : ℕ → Iterating
  Closes : ℕ → Iterating

abbrev pub operation_by : Iterating → Operation
operation_by (Opens n prefix) = OpenIterator n prefix
operation_by (Gives n) = Next n
operation_by (Closes n) = CloseIterator n

module _ (root : List ℕ) (own : Own) (constants others : Constants) (above below : StoreState) (who : ℕ) where
  -- an outcome of the primary store, as one of the secure store
  abbrev lift : Outcome → Outcome
  lift outcome = record { state = joined_by own outcome.state below; reply = outcome.reply }

  abbrev secure : Rules
  secure = secure_rules (pair_constants root constants others)

  abbrev state : StoreState
  state = joined_by own above below

  checks_same : (call : Iterating) → secure.checks state who (operation_by call) ≡ (plain_rules constants).checks above who (operation_by call)
  checks_same (Opens n prefix) = refl
  checks_same (Gives n) = refl
  checks_same (Closes n) = refl

  advanced_lifts : (n : ℕ) (found : Option (List ℕ)) → advanced state who n found ≡ lift (advanced above who n found)
  advanced_lifts n None = refl
  advanced_lifts n (Some key) = refl

  refused_lifts : (call : Iterating) (found : Option KvError)
      → refused_or secure state who (operation_by call) found ≡ lift (refused_or (plain_rules constants) above who (operation_by call) found)
  refused_lifts (Opens n prefix) (Some e) = refl
  refused_lifts (Opens n prefix) None = refl
  refused_lifts (Gives n) (Some e) = refl
  refused_lifts (Gives n) None = advanced_lifts n (next_key constants.hash_bits above.primary (position_of above who n))
  refused_lifts (Closes n) (Some e) = refl
  refused_lifts (Closes n) None = refl

  advanced_runs : (n : ℕ) (found : Option (List ℕ)) → (advanced above who n found).state.doubt ≡ above.doubt
  advanced_runs n None = refl
  advanced_runs n (Some key) = refl

  refused_runs : (call : Iterating) (found : Option KvError) → (refused_or (plain_rules constants) above who (operation_by call) found).state.doubt ≡ above.doubt
  refused_runs (Opens n prefix) (Some e) = refl
  refused_runs (Opens n prefix) None = refl
  refused_runs (Gives n) (Some e) = refl
  refused_runs (Gives n) None = advanced_runs n (next_key constants.hash_bits above.primary (position_of above who n))
  refused_runs (Closes n) (Some e) = refl
  refused_runs (Closes n) None = refl

  abbrev stopped_or : Bool → Outcome → Outcome
  stopped_or stopped outcome = if stopped then refuses above Stopped else outcome

  abbrev found : Iterating → Option KvError
  found call = first_refusal ((plain_rules constants).checks above who (operation_by call))

  plain_is : (call : Iterating) → above.doubt ≡ None
      → step (plain_rules constants) above who (operation_by call) ≡ refused_or (plain_rules constants) above who (operation_by call) (found call)
  plain_is call running = ap (λ (b : Bool). stopped_or b (refused_or (plain_rules constants) above who (operation_by call) (found call))) (ap is_some running)

  pub step_lifts : (call : Iterating) → above.doubt ≡ None → step secure state who (operation_by call) ≡ lift (step (plain_rules constants) above who (operation_by call))
  step_lifts call running =
      ap (λ (l : List Check). refused_or secure state who (operation_by call) (first_refusal l)) (checks_same call)
      ∙ refused_lifts call (found call) ∙ ap lift (sym (plain_is call running))

  never_writes : (call : Iterating) → IsTrue (may_end (operation_by call) FailedWrite) → ⊥
  never_writes (Opens n prefix) may = false≢true may
  never_writes (Gives n) may = false≢true may
  never_writes (Closes n) may = false≢true may

  pub leads_lift : (call : Iterating) (after : StoreState) (reply : Reply) (kind : Kind) → above.doubt ≡ None → IsTrue (may_end (operation_by call) kind)
      → LeadsTo (plain_rules constants) above (answered who (operation_by call) reply) after kind
      → LeadsTo secure state (answered who (operation_by call) reply) (joined_by own after below) kind
  leads_lift call after reply Ruled running may leads = step_lifts call running ∙ ap lift leads
  leads_lift call after reply FailedRead running may leads =
      (refl, subst (λ (l : List Check). IsTrue (may_fail_reading l)) (sym (checks_same call)) leads.1, ap lift leads.2)
  leads_lift call after reply FailedWrite running may leads = absurd (never_writes call may)
  leads_lift call after reply Mismatched running may leads = absurd leads
  leads_lift call after reply Wanted running may leads = ap (λ (s : StoreState). joined_by own s below) leads

  pub still_runs : (call : Iterating) (after : StoreState) (reply : Reply) (kind : Kind) → above.doubt ≡ None → IsTrue (may_end (operation_by call) kind)
      → LeadsTo (plain_rules constants) above (answered who (operation_by call) reply) after kind → after.doubt ≡ None
  still_runs call after reply Ruled running may leads =
      ap (λ (o : Outcome). o.state.doubt) (sym leads ∙ plain_is call running) ∙ refused_runs call (found call) ∙ running
  still_runs call after reply FailedRead running may leads = ap (λ (o : Outcome). o.state.doubt) leads.2 ∙ running
  still_runs call after reply FailedWrite running may leads = absurd (never_writes call may)
  still_runs call after reply Mismatched running may leads = absurd leads
  still_runs call after reply Wanted running may leads = ap (λ (s : StoreState). s.doubt) leads ∙ running

  -- such a call leaves the set that is active, and the map
  pub record SameRest (after : StoreState) : Type 0 where
    pub set : after.open_set ≡ above.open_set
    pub map : after.primary ≡ above.primary

  advanced_rest : (n : ℕ) (found : Option (List ℕ)) → SameRest (advanced above who n found).state
  advanced_rest n None = record { set = refl; map = refl }
  advanced_rest n (Some key) = record { set = refl; map = refl }

  refused_rest : (call : Iterating) (found : Option KvError) → SameRest (refused_or (plain_rules constants) above who (operation_by call) found).state
  refused_rest (Opens n prefix) (Some e) = record { set = refl; map = refl }
  refused_rest (Opens n prefix) None = record { set = refl; map = refl }
  refused_rest (Gives n) (Some e) = record { set = refl; map = refl }
  refused_rest (Gives n) None = advanced_rest n (next_key constants.hash_bits above.primary (position_of above who n))
  refused_rest (Closes n) (Some e) = record { set = refl; map = refl }
  refused_rest (Closes n) None = record { set = refl; map = refl }

  pub still_rest : (call : Iterating) (after : StoreState) (reply : Reply) (kind : Kind) → above.doubt ≡ None → IsTrue (may_end (operation_by call) kind)
      → LeadsTo (plain_rules constants) above (answered who (operation_by call) reply) after kind → SameRest after
  still_rest call after reply Ruled running may leads =
      subst SameRest (ap (λ (o : Outcome). o.state) (sym (plain_is call running) ∙ leads)) (refused_rest call (found call))
  still_rest call after reply FailedRead running may leads = subst SameRest (ap (λ (o : Outcome). o.state) (sym leads.2)) (record { set = refl; map = refl })
  still_rest call after reply FailedWrite running may leads = absurd (never_writes call may)
  still_rest call after reply Mismatched running may leads = absurd leads
  still_rest call after reply Wanted running may leads = subst SameRest (sym leads) (record { set = refl; map = refl })

-- a share of the active set is held by another state with the same set and map
pub holds_still : (share : Share) (before after : StoreState) → after.open_set ≡ before.open_set → after.primary ≡ before.primary → Holds share before → Holds share after
holds_still NoShare before after set map holds = set ∙ holds
holds_still (HasSet its) before after set map holds = set ∙ holds
holds_still (LacksKey key) before after set map holds = (set ∙ holds.0, ap (λ (m : FlaggedMap). get m key) map ∙ holds.1)

module _ (root : List ℕ) (own : Own) (rules_by : Constants → Rules) (u u' r : KvState) (plain : IsPlainStore rules_by u) (who : ℕ) (call : Iterating) (reply : Reply)
    (answers : Answers rules_by u u' (answered who (operation_by call) reply)) where
  plain_leads : (above after : StoreState) → u.known.state ≡ Some above → u'.known.state ≡ Some after
      → LeadsTo (plain_rules u.known.constants) above (answered who (operation_by call) reply) after (kind_of reply)
  plain_leads above after told later =
      subst (λ (by : Constants → Rules). LeadsTo (by u.known.constants) above (answered who (operation_by call) reply) after (kind_of reply))
      (plain.rules (ap is_some told)) (answers.does.leads above told after later)

  pub iterating_plain : IsPlainStore rules_by u'
  iterating_plain = record {
    rules = λ told. plain.rules (sym answers.does.keeps.tells_state ∙ told);
    running = λ after later.
        let there = some_of u.known.state (sym answers.does.keeps.tells_state ∙ ap is_some later) in
        ap is_some (still_runs root own u.known.constants r.known.constants there.0 there.0 who call after reply (kind_of reply) (none_of there.0.doubt (plain.running there.0 there.1)) answers.may_end
        (plain_leads there.0 after there.1 later));
  }

  pub iterating_holds : (share : Share) (after : StoreState) → u'.known.state ≡ Some after → (above : StoreState) → u.known.state ≡ Some above → Holds share above → Holds share after
  iterating_holds share after later above told holds =
      let rest = still_rest root own u.known.constants r.known.constants above above who call after reply (kind_of reply) (none_of above.doubt (plain.running above told)) answers.may_end
      (plain_leads above after told later) in
      holds_still share above after rest.set rest.map holds

  pub iterating_answers : Answers secure_rules (pair root (joined_by own) u r) (pair root (joined_by own) u' r) (answered who (operation_by call) reply)
  iterating_answers = record {
    does = record {
      keeps = keeps_both root u u' r r (joined_by own) (joined_by own) answers.does.keeps (read_none r).keeps;
      cause = cause_all (carries_above root u u' r r (joined_by own) (joined_by own) (read_none r).keeps) reply answers.does.cause;
      steady = λ steady. unless_both root u u' r r (kind_of reply) (answers.does.steady (first_of u.known.steady r.known.steady steady)) (second_of u.known.steady r.known.steady steady);
      leads = λ before is after later.
          let old = told_both (joined_by own) u.known.state r.known.state before is in
          let new = told_both (joined_by own) u'.known.state r.known.state after later in
          let same : new.below ≡ old.below = same_told r.known.state old.below new.below old.below_told new.below_told in
          let leads = leads_lift root own u.known.constants r.known.constants old.above old.below who call new.above reply (kind_of reply) (none_of old.above.doubt (plain.running old.above old.above_told)) answers.may_end
          (plain_leads old.above new.above old.above_told new.above_told) in
          subst (λ (b : StoreState). LeadsTo (secure_rules (pair_constants root u.known.constants r.known.constants)) b (answered who (operation_by call) reply) after (kind_of reply)) (sym old.joined)
          (subst (λ (a : StoreState). LeadsTo (secure_rules (pair_constants root u.known.constants r.known.constants)) (joined_by own old.above old.below) (answered who (operation_by call) reply) a (kind_of reply))
          (ap (joined_by own new.above) (sym same) ∙ sym new.joined) leads);
      log = λ before is log log_is. absurd (false≢true (ap is_some log_is));
      cuts = λ tells before is.
          let old = told_both (joined_by own) u.known.state r.known.state before is in
          let rules = secure_rules (pair_constants root u.known.constants r.known.constants) in
          let plain_cuts = subst (λ (by : Constants → Rules). TellsOnly u.crash.primary u'.crash.primary old.above.primary (step (by u.known.constants) old.above who (operation_by call)).state.primary)
          (plain.rules (ap is_some old.above_told)) (answers.does.cuts (first_of u.crash.tells_moments r.crash.tells_moments tells) old.above old.above_told).0 in
          let lifts = sym (step_lifts root own u.known.constants r.known.constants old.above old.below who call (none_of old.above.doubt (plain.running old.above old.above_told))) in
          let Cuts : StoreState → StoreState → Type 0 = λ b a.
          TellsOnly u.crash.primary u'.crash.primary b.primary a.primary × TellsOnly r.crash.primary r.crash.primary b.rollback a.rollback in
          let whole : Cuts (joined_by own old.above old.below) (joined_by own (step (plain_rules u.known.constants) old.above who (operation_by call)).state old.below) =
          (plain_cuts, (read_none r).moments (second_of u.crash.tells_moments r.crash.tells_moments tells) old.below old.below_told) in
          subst (λ (b : StoreState). Cuts b (step rules b who (operation_by call)).state) (sym old.joined)
          (subst (λ (o : Outcome). Cuts (joined_by own old.above old.below) o.state) lifts whole);
    };
    may_end = answers.may_end;
  }

-- a secure store that runs
module _ (stopped : Option Stop) (running : is_none stopped ≡ true) (root : List ℕ) (own : Own) (share : Share) (rules_by : Constants → Rules) (u u' r : KvState)
    (plain : IsPlainWhile (is_none stopped) share rules_by u) (who : ℕ) (call : Iterating) (reply : Reply) (answers : Answers rules_by u u' (answered who (operation_by call) reply)) where
  pub iterates : Answers secure_rules (told_by root own stopped u r) (told_by root own stopped u' r) (answered who (operation_by call) reply)
  iterates =
      running_answers stopped running root own own u r u' r (answered who (operation_by call) reply)
      (iterating_answers root own rules_by u u' r (runs_plain (is_none stopped) plain running) who call reply answers)

  pub iterating_while : IsPlainWhile (is_none stopped) share rules_by u'
  iterating_while =
      let kept = iterating_plain root own rules_by u u' r (runs_plain (is_none stopped) plain running) who call reply answers in
      record {
        rules = kept.rules;
        running = λ again. kept.running;
        holds = λ again after later.
            let there = some_of u.known.state (sym answers.does.keeps.tells_state ∙ ap is_some later) in
            iterating_holds root own rules_by u u' r (runs_plain (is_none stopped) plain running) who call reply answers share after later there.0 there.1
            (plain.holds running there.0 there.1);
      }
