-- What a secure store answers once a call on its two stores has run, and what it tells once it was stopped.
use Rattle.std.proofs.Common.{◌≡◌, ℕ, Bool, true, false, List, Option, Some, None, refl, sym, ◌∙◌, ap, ap₂, subst, inl, inr, arith}
use Rattle.std.specs.Prelude.{◌&&◌, if◌then◌else◌, is_some, is_none, unwrap_or, Contains}
use Rattle.std.specs.FinMap.{empty}
use mathlib.Core.Bool.{false≢true, true≢false}
use Rattle.std.proofs.Math.Bool.{Bool-set}
use Rattle.std.proofs.Math.Logic.{∥∥₁_elim}
use Rattle.kv_model.specs.declared.error.KvError.{KvError}
use Rattle.kv_model.specs.declared.error.KvError.TheVariants as error
use Rattle.kv_model.specs.declared.call.Reply.{Reply}
use Rattle.kv_model.specs.declared.call.Reply.TheVariants.{Done, Refused}
use Rattle.kv_model.specs.Constants.{Constants}
use Rattle.kv_model.specs.StoreState.{Maps, StoreState, fresh_state}
use Rattle.kv_model.specs.Operations.{Operation}
use Rattle.kv_model.specs.Checks.{first_refusal}
use Rattle.kv_model.specs.Rules.{Outcome, Rules, before_doubt, cuts, failed_write, number_given_back, number_taken, refused_or, refuses, step}
use Rattle.kv_model.specs.Kv.{Answered, Answers, Keeps, Kind, KvState, LeadsTo, UnlessFailedWrite, answered, kind_of, Ruled, FailedRead, FailedWrite, Mismatched, Wanted}
use Rattle.store_note.specs.declared.noted.Noted.{Noted}
use Rattle.secure_store.specs.declared.stop.Stop.{Stop}
use Rattle.secure_store.specs.declared.stop.Stop.TheVariants.{InCall, InRecover}
use Rattle.secure_store.specs.Doubts.{IsCutIn, IsStopped, WhereStopped, doubted, noted_in, told_by, untold}
use Rattle.sealed_pair.specs.Pair.{Joining, both, pair, pair_constants}
use Rattle.sealed_pair.specs.Running.{HasEnded, HasRun, HasStopped, IsOpen, Parts, StaysOpen, TellsOnlyBoth, one_of, parts, rules_of}
use Rattle.sealed_pair.specs.SecureStep.{secure_rules}
use Rattle.sealed_pair.specs.Active.{own_of, share_above, share_below}
use Rattle.sealed_pair.specs.Begun.{parts_in}
use Rattle.sealed_pair.specs.declared.active.Active.{Active}
use Rattle.sealed_pair.specs.Shares.{Holds, Share}
use Rattle.sealed_pair.specs.Store.{IsPlainStore, IsPlainWhile, Own, joined_by}
use Rattle.sealed_pair.proofs.PairLemmas.{first_of, keeps_both, read_none, same_told, second_of, told_both}
use Rattle.sealed_pair.proofs.ReadingLemmas.{some_of}
use Rattle.sealed_pair.proofs.RunningLemmas.{cuts_are, three_cuts}
use Rattle.sealed_pair.proofs.StoreReadLemmas.{none_of}

-- ---- a store that was stopped

stopped_step : (rules : Rules) (state : StoreState) (who : ℕ) (operation : Operation) → is_some state.doubt ≡ true → step rules state who operation ≡ refuses state error.Stopped
stopped_step rules state who operation in_doubt =
    ap (λ (b : Bool). if b then refuses state error.Stopped else refused_or rules state who operation (first_refusal (rules.checks state who operation))) in_doubt

-- what is kept is kept where no state is told
pub keeps_untold : {s s' : KvState} → Keeps s s' → Keeps (untold s) (untold s')
keeps_untold keeps = record {
  constants = keeps.constants;
  labels = keeps.labels;
  tells_state = refl;
  tells_log = keeps.tells_log;
  tells_moments = keeps.tells_moments;
  read_faults = keeps.read_faults;
  write_faults = keeps.write_faults;
  sound = keeps.sound;
}

module _ (root : List ℕ) (u r : KvState) where
  noted_answers : (noted : StoreState) → is_some noted.doubt ≡ true → (who : ℕ) (operation : Operation)
      → Answers secure_rules (pair root (λ a b. noted) u r) (pair root (λ a b. noted) u r) (answered who operation (Refused error.Stopped))
  noted_answers noted in_doubt who operation = record {
    does = record {
      keeps = keeps_both root u u r r (λ a b. noted) (λ a b. noted) (read_none u).keeps (read_none r).keeps;
      cause = tt;
      steady = λ steady. steady;
      leads = λ before is after later.
          let rules = secure_rules (pair_constants root u.known.constants r.known.constants) in
          let here = (told_both (λ a b. noted) u.known.state r.known.state before is).joined in
          let there = (told_both (λ a b. noted) u.known.state r.known.state after later).joined in
          ap (λ (s : StoreState). step rules s who operation) here ∙ stopped_step rules noted who operation in_doubt
          ∙ ap (λ (s : StoreState). refuses s error.Stopped) (sym there);
      log = λ before is log log_is. absurd (false≢true (ap is_some log_is));
      cuts = λ tells before is. (
        record { moment = omega arith; told = λ t map early told. inl told },
        record { moment = omega arith; told = λ t map early told. inl told },
      );
    };
    may_end = refl;
  }

  untold_answers : (own : Own) (who : ℕ) (operation : Operation)
      → Answers secure_rules (untold (pair root (joined_by own) u r)) (untold (pair root (joined_by own) u r)) (answered who operation (Refused error.Stopped))
  untold_answers own who operation = record {
    does = record {
      keeps = keeps_untold (keeps_both root u u r r (joined_by own) (joined_by own) (read_none u).keeps (read_none r).keeps);
      cause = tt;
      steady = λ steady. steady;
      leads = λ before is. absurd (false≢true (ap is_some is));
      log = λ before is. absurd (false≢true (ap is_some is));
      cuts = λ tells before is. absurd (false≢true (ap is_some is));
    };
    may_end = refl;
  }

  pub stopped_answers : (own : Own) (stopped : Option Stop) → is_some stopped ≡ true → ∥ WhereStopped root (noted_in stopped) u r ∥₁ → (who : ℕ) (operation : Operation)
      → Answers secure_rules (told_by root own stopped u r) (told_by root own stopped u r)
      (answered who operation (Refused error.Stopped))
  stopped_answers own None is fact who operation = absurd (false≢true is)
  stopped_answers own (Some InRecover) is fact who operation = untold_answers own who operation
  stopped_answers own (Some (InCall noted)) is fact who operation =
      noted_answers noted.state (∥∥₁_elim fact (Bool-set (is_some noted.state.doubt) true) (λ (s : IsStopped root u r noted.state). s.in_doubt)) who operation

-- ---- a store that runs

pub not_stopped : (stopped : Option Stop) → is_none stopped ≡ true → (root : List ℕ) (u r : KvState) → ∥ WhereStopped root (noted_in stopped) u r ∥₁
not_stopped None is root u r = ∣ tt ∣₁
not_stopped (Some noted) is root u r = absurd (false≢true is)

pub running_answers : (stopped : Option Stop) → is_none stopped ≡ true → (root : List ℕ) (own later : Own) (u r u' r' : KvState) (call : Answered)
    → Answers secure_rules (pair root (joined_by own) u r) (pair root (joined_by later) u' r') call
    → Answers secure_rules (told_by root own stopped u r) (told_by root later stopped u' r') call
running_answers None is root own later u r u' r' call answers = answers
running_answers (Some noted) is root own later u r u' r' call answers = absurd (false≢true is)

-- what holds of a store that runs
pub at_running : (stopped : Option Stop) → is_none stopped ≡ true → (root : List ℕ) (own : Own) (P : (KvState → KvState → KvState) → Type 0)
    → P (pair root (joined_by own)) → P (told_by root own stopped)
at_running None is root own P p = p
at_running (Some stop) is root own P p = absurd (false≢true is)

pub some_or_none : (X : Type 0) (o : Option X) → is_some o ≡ false → is_none o ≡ true
some_or_none X None is = refl
some_or_none X (Some x) is = absurd (true≢false is)

pub runs_plain : {share : Share} {by : Constants → Rules} {s : KvState} (runs : Bool) → IsPlainWhile runs share by s → runs ≡ true → IsPlainStore by s
runs_plain runs plain is = record { rules = plain.rules; running = plain.running is }

pub open_told : {share : Share} {by : Constants → Rules} {s : KvState} (runs : Bool) → IsPlainWhile runs share by s → runs ≡ true → (state : StoreState) → s.known.state ≡ Some state
    → IsOpen share by s state
open_told runs plain is state told = record {
  rules = plain.rules (ap is_some told);
  told = told;
  running = none_of state.doubt (plain.running is state told);
  holds = plain.holds is state told;
}

-- a store that still runs is a plain store as before
pub while_open : {share later : Share} {by : Constants → Rules} {s s' : KvState} (runs : Bool) → IsPlainWhile runs share by s → runs ≡ true → is_some s'.known.state ≡ is_some s.known.state
    → StaysOpen share later by s s' → IsPlainWhile runs later by s'
while_open {share} {later} {by} {s} {s'} runs plain is same stays = record {
  rules = λ told. plain.rules (sym same ∙ told);
  running = λ again state told. let there = here state told in ap (λ (o : StoreState). is_some o.doubt) (same_told s'.known.state there.0 state there.1.told told) ∙ ap is_some there.1.running;
  holds = λ again state told. let there = here state told in subst (Holds later) (sym (same_told s'.known.state there.0 state there.1.told told)) there.1.holds;
} where
  here : (state : StoreState) → s'.known.state ≡ Some state → (now : StoreState) × IsOpen later by s' now
  here state told = let before = some_of s.known.state (sym same ∙ ap is_some told) in stays before.0 (open_told runs plain is before.0 before.1)

-- of a store that was stopped nothing is said but its rules
pub while_stopped : {share later : Share} {by : Constants → Rules} {s s' : KvState} (runs : Bool) → IsPlainWhile runs share by s → is_some s'.known.state ≡ is_some s.known.state
    → IsPlainWhile false later by s'
while_stopped runs plain same = record { rules = λ told. plain.rules (sym same ∙ told); running = λ never. absurd (false≢true never); holds = λ never. absurd (false≢true never) }

-- ---- a call that ran

unless_and : (a b : Bool) (kind : Kind) → UnlessFailedWrite kind ((a ≡ true) × (b ≡ true)) → UnlessFailedWrite kind ((a && b) ≡ true)
unless_and a b Ruled p = ap₂ (λ (x y : Bool). x && y) p.0 p.1
unless_and a b FailedRead p = ap₂ (λ (x y : Bool). x && y) p.0 p.1
unless_and a b FailedWrite p = tt
unless_and a b Mismatched p = ap₂ (λ (x y : Bool). x && y) p.0 p.1
unless_and a b Wanted p = ap₂ (λ (x y : Bool). x && y) p.0 p.1

module _ (old new : Parts) (call : Answered) (run : HasRun old new call)
    (runs : ((state : StoreState) → old.primary.known.state ≡ Some state → IsOpen old.share_above old.above old.primary state))
    (runs_too : ((state : StoreState) → old.rollback.known.state ≡ Some state → IsOpen old.share_below old.below old.rollback state)) where
  abbrev before_one : KvState
  before_one = pair old.root (one_of old) old.primary old.rollback

  -- what the call leaves, by how the two are joined afterwards
  answers_by : (next : Joining)
      → ((above below after : StoreState) → old.primary.known.state ≡ Some above → old.rollback.known.state ≡ Some below → both next new.primary.known.state new.rollback.known.state ≡ Some after
      → LeadsTo (rules_of old) (one_of old above below) call after (kind_of call.reply))
      → Answers secure_rules before_one (pair old.root next new.primary new.rollback) call
  answers_by next leads = record {
    does = record {
      keeps = keeps_both old.root old.primary new.primary old.rollback new.rollback (one_of old) next run.above run.below;
      cause = run.cause (one_of old) next;
      steady = λ steady. unless_and new.primary.known.steady new.rollback.known.steady (kind_of call.reply)
          (run.steady (first_of old.primary.known.steady old.rollback.known.steady steady) (second_of old.primary.known.steady old.rollback.known.steady steady));
      leads = λ before is after later.
          let told = told_both (one_of old) old.primary.known.state old.rollback.known.state before is in
          subst (λ (b : StoreState). LeadsTo (rules_of old) b call after (kind_of call.reply)) (sym told.joined)
          (leads told.above told.below after told.above_told told.below_told later);
      log = λ before is log log_is. absurd (false≢true (ap is_some log_is));
      cuts = λ tells before is.
          let told = told_both (one_of old) old.primary.known.state old.rollback.known.state before is in
          subst (λ (b : StoreState). TellsOnlyBoth old new b (step (rules_of old) b call.who call.operation).state) (sym told.joined)
          (run.cuts (first_of old.primary.crash.tells_moments old.rollback.crash.tells_moments tells) (second_of old.primary.crash.tells_moments old.rollback.crash.tells_moments tells)
          told.above told.below (runs told.above told.above_told) (runs_too told.below told.below_told));
    };
    may_end = run.may_end;
  }

  -- a call in which no write failed
  pub ended_answers : (call.reply ≡ Refused error.WriteFault → ⊥) → Answers secure_rules before_one (pair old.root (one_of new) new.primary new.rollback) call
  ended_answers no_fault = answers_by (one_of new) leads where
    leads : (above below after : StoreState) → old.primary.known.state ≡ Some above → old.rollback.known.state ≡ Some below
        → both (one_of new) new.primary.known.state new.rollback.known.state ≡ Some after → LeadsTo (rules_of old) (one_of old above below) call after (kind_of call.reply)
    leads above below after told told_too later = elim (run.ends above below (runs above told) (runs_too below told_too)) [
      | inl stopped ↦ absurd (no_fault stopped.error)
      | inr ended ↦
          let there = told_both (one_of new) new.primary.known.state new.rollback.known.state after later in
          let same : after ≡ ended.after =
          there.joined ∙ ap₂ (one_of new) (same_told new.primary.known.state ended.both.above there.above ended.both.primary.told there.above_told)
          (same_told new.rollback.known.state ended.both.below there.below ended.both.rollback.told there.below_told) ∙ sym ended.both.one in
          subst (λ (a : StoreState). LeadsTo (rules_of old) (one_of old above below) call a (kind_of call.reply)) (sym same) ended.leads
    ]

-- ---- a call in which a write failed

doubted_told : (s : KvState) (state : StoreState) (who : ℕ) (operation : Operation) → s.known.state ≡ Some state
    → doubted s who operation ≡ failed_write (secure_rules s.known.constants) state who operation
doubted_told s state who operation told =
    ap (λ (o : Option StoreState). failed_write (secure_rules s.known.constants) (unwrap_or o (fresh_state empty empty 0)) who operation) told

back : (takes : Bool) (n : ℕ) → number_given_back takes (number_taken takes n) ≡ n
back true n = omega arith
back false n = refl

before_back : (rules : Rules) (state : StoreState) (who : ℕ) (operation : Operation) → state.doubt ≡ None → before_doubt rules (failed_write rules state who operation) ≡ state
before_back rules state who operation running = λ i. record state { next_vector = back (rules.takes_number operation) state.next_vector i; doubt = sym running i }

cuts_back : (rules : Rules) (state : StoreState) (who : ℕ) (operation : Operation) → state.doubt ≡ None
    → cuts rules (failed_write rules state who operation) who operation ≡ three_cuts rules state who operation
unfolding three_cuts
cuts_back rules state who operation running = ap (λ (s : StoreState). three_cuts rules s who operation) (before_back rules state who operation running)

module _ (old new : Parts) (who : ℕ) (operation : Operation) (run : HasRun old new (answered who operation (Refused error.WriteFault)))
    (runs : ((state : StoreState) → old.primary.known.state ≡ Some state → IsOpen old.share_above old.above old.primary state))
    (runs_too : ((state : StoreState) → old.rollback.known.state ≡ Some state → IsOpen old.share_below old.below old.rollback state))
    (noted : StoreState) (noted_is : noted ≡ doubted (pair old.root (one_of old) old.primary old.rollback) who operation) where
  abbrev fault : Answered
  fault = answered who operation (Refused error.WriteFault)

  noted_told : (above below : StoreState) → old.primary.known.state ≡ Some above → old.rollback.known.state ≡ Some below
      → noted ≡ failed_write (rules_of old) (one_of old above below) who operation
  noted_told above below told told_too =
      noted_is ∙ doubted_told (pair old.root (one_of old) old.primary old.rollback) (one_of old above below) who operation (ap₂ (both (one_of old)) told told_too)

  -- after a failed write both can't run
  not_ended : (above below : StoreState) → HasEnded old new (one_of old above below) fault → ⊥
  not_ended above below ended =
      let none : ended.after.doubt ≡ None = ap (λ (s : StoreState). s.doubt) ended.both.one in
      let some : is_some ended.after.doubt ≡ true = ap (λ (o : Outcome). is_some o.state.doubt) ended.leads.2 in
      false≢true (sym (ap is_some none) ∙ some)

  stopped_at : (above below : StoreState) → old.primary.known.state ≡ Some above → old.rollback.known.state ≡ Some below → HasStopped old new (one_of old above below) fault
  stopped_at above below told told_too = elim (run.ends above below (runs above told) (runs_too below told_too)) [
    | inl stopped ↦ stopped
    | inr ended ↦ absurd (not_ended above below ended)
  ]

  pub fault_answers : Answers secure_rules (pair old.root (one_of old) old.primary old.rollback) (pair old.root (λ a b. noted) new.primary new.rollback) fault
  fault_answers = answers_by old new fault run runs runs_too (λ a b. noted) leads where
    leads : (above below after : StoreState) → old.primary.known.state ≡ Some above → old.rollback.known.state ≡ Some below
        → both (λ a b. noted) new.primary.known.state new.rollback.known.state ≡ Some after → LeadsTo (rules_of old) (one_of old above below) fault after FailedWrite
    leads above below after told told_too later =
        let there = told_both (λ a b. noted) new.primary.known.state new.rollback.known.state after later in (
          refl,
          (stopped_at above below told told_too).fails,
          ap (λ (s : StoreState). record { state = s; reply = Refused error.WriteFault }) (there.joined ∙ noted_told above below told told_too),
        )

  cut_in : (above below : StoreState) → noted ≡ failed_write (rules_of old) (one_of old above below) who operation → (maps : Maps)
      → Contains (cuts (rules_of old) (one_of old above below) who operation) maps → IsCutIn (pair_constants old.root old.primary.known.constants old.rollback.known.constants) noted maps
  cut_in above below is maps found =
      subst (λ (s : StoreState). IsCutIn (pair_constants old.root old.primary.known.constants old.rollback.known.constants) s maps) (sym is)
      (subst (λ (l : List Maps). Contains l maps)
      (cuts_are (rules_of old) (one_of old above below) who operation refl ∙ sym (cuts_back (rules_of old) (one_of old above below) who operation refl)) found)

  pub fault_stops : new.root ≡ old.root → ∥ IsStopped old.root new.primary new.rollback noted ∥₁
  fault_stops same_root = ∣ record {
    in_doubt = ap (λ (s : StoreState). is_some s.doubt) noted_is;
    cut = λ above later below later_too maps stands.
        let told = some_of old.primary.known.state (sym run.above.tells_state ∙ ap is_some later) in
        let told_too = some_of old.rollback.known.state (sym run.below.tells_state ∙ ap is_some later_too) in
        let at = stopped_at told.0 told_too.0 told.1 told_too.1 in
        let found = at.cut maps (record {
          beside = stands.beside;
          beside_rollback = stands.beside_rollback;
          primary_stands = stands.primary_stands;
          rollback_stands = stands.rollback_stands;
        }) in
        subst (λ (c : Constants). IsCutIn c noted maps) (ap₂ (pair_constants old.root) (sym run.above.constants) (sym run.below.constants))
        (cut_in told.0 told_too.0 (noted_told told.0 told_too.0 told.1 told_too.1) maps found);
  } ∣₁

-- what holds unless a write failed, of a refusal that is no failed write
pub unless_given : (P : Type 0) (e : KvError) → (e ≡ error.WriteFault → ⊥) → UnlessFailedWrite (kind_of (Refused e)) P → P
unless_given P error.NotFound other p = p
unless_given P error.InvalidKey other p = p
unless_given P error.InvalidFlags other p = p
unless_given P error.InvalidSize other p = p
unless_given P error.WriteProtected other p = p
unless_given P (error.MediaFull need room) other p = p
unless_given P error.TooManyIterators other p = p
unless_given P error.NoIterator other p = p
unless_given P error.SetOpen other p = p
unless_given P error.NoSet other p = p
unless_given P (error.Busy owner) other p = p
unless_given P error.Stopped other p = p
unless_given P error.ReadFault other p = p
unless_given P error.WriteFault other p = absurd (other refl)
unless_given P (error.Corrupt stored computed) other p = p
unless_given P error.AuthFailed other p = p
unless_given P error.RollbackFailed other p = p
unless_given P error.IvSpent other p = p
unless_given P error.Memory other p = p

pub unlike_done : Done ≡ Refused error.WriteFault → ⊥
unlike_done is = absurd (cc)

error_of : Reply → KvError
error_of (Refused e) = e
error_of reply = error.NotFound

pub unlike_refusal : (e : KvError) → (e ≡ error.WriteFault → ⊥) → Refused e ≡ Refused error.WriteFault → ⊥
unfolding error_of
unlike_refusal e other is = other (ap error_of is)

-- ---- the answers of a store whose call ran

-- a call that neither begins nor ends a set, of a store that has none
pub run_free : (active : Option Active) → is_none active ≡ true → (root : List ℕ) (number later : ℕ) (above below : Constants → Rules) (u r u' r' : KvState) (call : Answered)
    → HasRun (parts root number above u below r) (parts root later above u' below r') call
    → HasRun (parts_in root number active above u below r) (parts_in root later active above u' below r') call
run_free None free root number later above below u r u' r' call run = run
run_free (Some active) free root number later above below u r u' r' call run = absurd (false≢true free)

-- one that begins
pub run_begun : (active : Option Active) → is_none active ≡ true → (root : List ℕ) (number : ℕ) (above below : Constants → Rules) (u r : KvState) (new : Parts) (call : Answered)
    → HasRun (parts root number above u below r) new call → HasRun (parts_in root number active above u below r) new call
run_begun None free root number above below u r new call run = run
run_begun (Some active) free root number above below u r new call run = absurd (false≢true free)

module _ (stopped : Option Stop) (running : is_none stopped ≡ true) (root : List ℕ) (number : ℕ) (active : Option Active) (above below : Constants → Rules) (u r u' r' : KvState)
    (plain : IsPlainWhile (is_none stopped) (share_above root number active) above u) (plain_too : IsPlainWhile (is_none stopped) (share_below active) below r) (who : ℕ) (operation : Operation) where
  abbrev parts_old : Parts
  parts_old = parts_in root number active above u below r

  abbrev parts_new : ℕ → Option Active → Parts
  parts_new later next = parts_in root later next above u' below r'

  abbrev before : KvState
  before = told_by root (own_of number active) stopped u r

  runs_above : (state : StoreState) → u.known.state ≡ Some state → IsOpen (share_above root number active) above u state
  runs_above state told = open_told (is_none stopped) plain running state told

  runs_below : (state : StoreState) → r.known.state ≡ Some state → IsOpen (share_below active) below r state
  runs_below state told = open_told (is_none stopped) plain_too running state told

  pub ran_answers : (later : ℕ) (next : Option Active) (reply : Reply) → HasRun parts_old (parts_new later next) (answered who operation reply)
      → (reply ≡ Refused error.WriteFault → ⊥)
      → Answers secure_rules before (told_by root (own_of later next) stopped u' r') (answered who operation reply)
  ran_answers later next reply run no_fault =
      running_answers stopped running root (own_of number active) (own_of later next) u r u' r' (answered who operation reply)
      (ended_answers parts_old (parts_new later next) (answered who operation reply) run runs_above runs_below no_fault)

  noted_at : (noted : StoreState) → noted ≡ doubted before who operation → noted ≡ doubted (pair root (joined_by (own_of number active)) u r) who operation
  noted_at noted is = is ∙ same stopped running where
    same : (s : Option Stop) → is_none s ≡ true
        → doubted (told_by root (own_of number active) s u r) who operation ≡ doubted (pair root (joined_by (own_of number active)) u r) who operation
    same None none = refl
    same (Some n) none = absurd (false≢true none)

  pub stopped_by : (e : KvError) → e ≡ error.WriteFault → (next : Option Active) → HasRun parts_old (parts_new number next) (answered who operation (Refused e)) → (later : Own) (note : Noted)
      → note.state ≡ doubted before who operation → Answers secure_rules before (told_by root later (Some (InCall note)) u' r') (answered who operation (Refused e))
  stopped_by e is next run later note noted_is =
      let at = subst (λ (f : KvError). HasRun parts_old (parts_new number next) (answered who operation (Refused f))) is run in
      subst (λ (f : KvError). Answers secure_rules before (pair root (λ a b. note.state) u' r') (answered who operation (Refused f))) (sym is)
      (running_first stopped running
      (fault_answers parts_old (parts_new number next) who operation at runs_above runs_below note.state (noted_at note.state noted_is))) where
        running_first : (s : Option Stop) → is_none s ≡ true
            → Answers secure_rules (pair root (joined_by (own_of number active)) u r) (pair root (λ a b. note.state) u' r') (answered who operation (Refused error.WriteFault))
            → Answers secure_rules (told_by root (own_of number active) s u r) (pair root (λ a b. note.state) u' r') (answered who operation (Refused error.WriteFault))
        running_first None none answers = answers
        running_first (Some n) none answers = absurd (false≢true none)

  pub stops_by : (e : KvError) → e ≡ error.WriteFault → (next : Option Active) → HasRun parts_old (parts_new number next) (answered who operation (Refused e)) → (note : Noted)
      → note.state ≡ doubted before who operation → ∥ WhereStopped root (noted_in (Some (InCall note))) u' r' ∥₁
  stops_by e is next run note noted_is =
      fault_stops parts_old (parts_new number next) who operation
      (subst (λ (f : KvError). HasRun parts_old (parts_new number next) (answered who operation (Refused f))) is run)
      runs_above runs_below note.state (noted_at note.state noted_is) refl

  -- ---- by how the call ended

  module _ (later : ℕ) (next : Option Active) where
    abbrev then_next : KvState
    then_next = told_by root (own_of later next) stopped u' r'

    pub done_answers : HasRun parts_old (parts_new later next) (answered who operation Done) → Answers secure_rules before then_next (answered who operation Done)
    done_answers run = ran_answers later next Done run unlike_done

    pub done_above : HasRun parts_old (parts_new later next) (answered who operation Done) → IsPlainWhile (is_none stopped) (share_above root later next) above u'
    done_above run = while_open (is_none stopped) plain running run.above.tells_state run.stays.0

    pub done_below : HasRun parts_old (parts_new later next) (answered who operation Done) → IsPlainWhile (is_none stopped) (share_below next) below r'
    done_below run = while_open (is_none stopped) plain_too running run.below.tells_state run.stays.1

    module _ (e : KvError) (other : e ≡ error.WriteFault → ⊥) (run : HasRun parts_old (parts_new later next) (answered who operation (Refused e))) where
      pub refusal_answers : Answers secure_rules before then_next (answered who operation (Refused e))
      refusal_answers = ran_answers later next (Refused e) run (unlike_refusal e other)

      still_both : StaysOpen (share_above root number active) (share_above root later next) above u u' × StaysOpen (share_below active) (share_below next) below r r'
      still_both =
          unless_given (StaysOpen (share_above root number active) (share_above root later next) above u u' × StaysOpen (share_below active) (share_below next) below r r') e other run.stays

      pub refusal_above : IsPlainWhile (is_none stopped) (share_above root later next) above u'
      refusal_above = while_open (is_none stopped) plain running run.above.tells_state still_both.0

      pub refusal_below : IsPlainWhile (is_none stopped) (share_below next) below r'
      refusal_below = while_open (is_none stopped) plain_too running run.below.tells_state still_both.1
