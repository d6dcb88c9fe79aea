-- Calls that write, one behind another, on one of the two stores.
use Rattle.std.proofs.Common.{◌≡◌, ◌⊎◌, ℕ, zero, suc, Option, Some, None, refl, sym, ◌∙◌, ap, subst, inl, inr, arith, true}
use Rattle.std.specs.Prelude.{is_some, IsTrue, MatchOption, Contains, [], ◌∷◌}
use mathlib.Core.Bool.{false≢true}
use Rattle.kv_model.specs.declared.error.KvError.{KvError}
use Rattle.kv_model.specs.declared.error.KvError.TheVariants as error
use Rattle.kv_model.specs.declared.call.Reply.{Reply}
use Rattle.kv_model.specs.declared.call.Reply.TheVariants.{Done, Refused}
use Rattle.kv_model.specs.Constants.{Constants}
use Rattle.kv_model.specs.FlaggedMap.{FlaggedMap}
use Rattle.kv_model.specs.StoreState.{Doubt, Maps, StoreState, maps_of}
use Rattle.kv_model.specs.Operations.{Operation, Abort}
use Rattle.kv_model.specs.PlainStep.{plain_rules}
use Rattle.kv_model.specs.Rules.{Outcome, Rules, cuts, failed_write, step}
use Rattle.kv_model.specs.Kv.{Answers, Clock, IsLawful, Kind, KvState, LeadsTo, TellsOnly, UnlessFailedWrite, answered, kind_of, may_end, Ruled, FailedRead, FailedWrite, Mismatched, Wanted}
use Rattle.kv_model.proofs.PerformLemmas.{Keeps-trans}
use Rattle.sealed_pair.specs.Going.{FailsAs, HasFailed, HasGone, WhereOpen}
use Rattle.sealed_pair.specs.Running.{IsOpen}
use Rattle.sealed_pair.specs.Shares.{Share}
use Rattle.sealed_pair.proofs.PairLemmas.{carries_since, cause_all, read_none}
use Rattle.sealed_pair.proofs.ReadingLemmas.{some_of}

abbrev pub IsEither : FlaggedMap → FlaggedMap → FlaggedMap → Type 0
IsEither map one other = (map ≡ one) ⊎ (map ≡ other)

abbrev pub as_reply : Reply → Reply
as_reply reply = reply

abbrev error_in : Reply → KvError
error_in (Refused e) = e
error_in reply = error.NotFound

-- a clock tells more, of maps that are all one of two
pub tells_more : {old mid new : Clock} {a b before after : FlaggedMap} → TellsOnly old mid a b → TellsOnly mid new before after → IsEither before a b → IsEither after a b
    → TellsOnly old new a b
tells_more {a = a} {b = b} first second one two = record {
  moment = omega (arith, first.moment, second.moment);
  told = λ t map early later. elim (second.told t map (omega (arith, early, first.moment)) later) [
    | inl earlier ↦ first.told t map early earlier
    | inr (inl is) ↦ inr (subst (λ (m : FlaggedMap). IsEither m a b) (sym is) one)
    | inr (inr is) ↦ inr (subst (λ (m : FlaggedMap). IsEither m a b) (sym is) two)
  ];
}

-- no call yet
pub gone_none : {share : Share} (rules_by : Constants → Rules) (s : KvState) (goal : StoreState → FlaggedMap) → HasGone share rules_by s s (λ state. state) goal
gone_none rules_by s goal = record {
  keeps = (read_none s).keeps;
  steady = λ is. is;
  told = λ state idle. idle.told;
  moments = λ tells state idle. record { moment = omega arith; told = λ t map early told. inl told };
}

module _ {share : Share} (rules_by : Constants → Rules) (old mid new : KvState) (now after : StoreState → StoreState) (goal : StoreState → FlaggedMap) (who : ℕ) (operation : Operation)
    (gone : HasGone share rules_by old mid now goal)
    (granted : (state : StoreState) → IsOpen share rules_by old state
    → step (plain_rules mid.known.constants) (now state) who operation ≡ record { state = after state; reply = Done })
    (before : (state : StoreState) → IsOpen share rules_by old state → IsEither (now state).primary state.primary (goal state))
    (behind : (state : StoreState) → IsOpen share rules_by old state → IsEither (after state).primary state.primary (goal state)) where
  -- by the plain rules
  plain_step : (state : StoreState) → IsOpen share rules_by old state
      → step (rules_by mid.known.constants) (now state) who operation ≡ record { state = after state; reply = Done }
  plain_step state idle =
      subst (λ (by : Constants → Rules). step (by mid.known.constants) (now state) who operation ≡ record { state = after state; reply = Done }) (sym idle.rules) (granted state idle)

  told_mid : (state : StoreState) → IsOpen share rules_by old state → mid.known.state ≡ Some (now state)
  told_mid state idle = gone.told state idle

  all_moments : (reply : Reply) → Answers rules_by mid new (answered who operation reply) → IsTrue old.crash.tells_moments
      → WhereOpen share rules_by old (λ state. TellsOnly old.crash.primary new.crash.primary state.primary (goal state))
  all_moments reply answers tells state idle =
      let later = (answers.does.cuts (subst IsTrue (sym gone.keeps.tells_moments) tells) (now state) (told_mid state idle)).0 in
      tells_more (gone.moments tells state idle)
      (subst (λ (o : Outcome). TellsOnly mid.crash.primary new.crash.primary (now state).primary o.state.primary) (plain_step state idle) later)
      (before state idle) (behind state idle)

  told_done : Answers rules_by mid new (answered who operation Done) → WhereOpen share rules_by old (λ state. new.known.state ≡ Some (after state))
  told_done answers state idle =
      let there = some_of new.known.state (answers.does.keeps.tells_state ∙ ap is_some (told_mid state idle)) in
      let leads = answers.does.leads (now state) (told_mid state idle) there.0 there.1 in
      there.1 ∙ ap (λ (o : Outcome). Some o.state) (sym leads ∙ plain_step state idle)

  pub gone_more : Answers rules_by mid new (answered who operation Done) → HasGone share rules_by old new after goal
  gone_more answers = record {
    keeps = Keeps-trans gone.keeps answers.does.keeps;
    steady = λ steady. answers.does.steady (gone.steady steady);
    told = told_done answers;
    moments = all_moments Done answers;
  }

  fails_as : (rules : Rules) (e : KvError) (here stopped later : StoreState) (kind : Kind)
      → step rules here who operation ≡ record { state = stopped; reply = Done }
      → LeadsTo rules here (answered who operation (Refused e)) later kind
      → FailsAs (Some later) e here (failed_write rules here who operation) kind
  fails_as rules e here stopped later Ruled step_is leads =
      let same : as_reply Done ≡ as_reply (Refused e) = ap (λ (o : Outcome). o.reply) (sym step_is ∙ leads) in absurd (cc)
  fails_as rules e here stopped later FailedRead step_is leads =
      (ap (λ (o : Outcome). error_in o.reply) leads.2, ap (λ (o : Outcome). Some o.state) leads.2)
  fails_as rules e here stopped later FailedWrite step_is leads =
      (ap (λ (o : Outcome). error_in o.reply) leads.2, ap (λ (o : Outcome). Some o.state) leads.2)
  fails_as rules e here stopped later Mismatched step_is leads = leads
  fails_as rules e here stopped later Wanted step_is leads = ap (λ (s : StoreState). Some s) leads

  told_failed : (e : KvError) → Answers rules_by mid new (answered who operation (Refused e)) → WhereOpen share rules_by old (λ state.
      FailsAs new.known.state e (now state) (failed_write (plain_rules old.known.constants) (now state) who operation) (kind_of (Refused e)))
  told_failed e answers state idle =
      let there = some_of new.known.state (answers.does.keeps.tells_state ∙ ap is_some (told_mid state idle)) in
      let leads = answers.does.leads (now state) (told_mid state idle) there.0 there.1 in
      let as_plain = subst (λ (by : Constants → Rules). FailsAs (Some there.0) e (now state) (failed_write (by mid.known.constants) (now state) who operation) (kind_of (Refused e))) idle.rules
      (fails_as (rules_by mid.known.constants) e (now state) (after state) there.0 (kind_of (Refused e)) (plain_step state idle) leads) in
      subst (λ (o : Option StoreState). FailsAs o e (now state) (failed_write (plain_rules old.known.constants) (now state) who operation) (kind_of (Refused e))) (sym there.1)
      (subst (λ (c : Constants). FailsAs (Some there.0) e (now state) (failed_write (plain_rules c) (now state) who operation) (kind_of (Refused e))) gone.keeps.constants as_plain)

  pub gone_fails : (e : KvError) → Answers rules_by mid new (answered who operation (Refused e))
      → HasFailed share rules_by old new now goal (record { who = who; operation = operation; error = e })
  gone_fails e answers = record {
    keeps = Keeps-trans gone.keeps answers.does.keeps;
    cause = cause_all (carries_since old mid new gone.keeps gone.steady) (Refused e) answers.does.cause;
    may_end = answers.may_end;
    steady = λ steady. answers.does.steady (gone.steady steady);
    told = told_failed e answers;
    moments = all_moments (Refused e) answers;
  }

pub quiet_abort : (kind : Kind) → IsTrue (may_end Abort kind) → kind ≡ Ruled
quiet_abort Ruled may = refl
quiet_abort FailedRead may = absurd (false≢true may)
quiet_abort FailedWrite may = absurd (false≢true may)
quiet_abort Mismatched may = absurd (false≢true may)
quiet_abort Wanted may = absurd (false≢true may)

-- an abort of what was begun, whatever it answers
pub gone_ends : {share : Share} (rules_by : Constants → Rules) (old mid new : KvState) (now after : StoreState → StoreState) (goal : StoreState → FlaggedMap) (who : ℕ)
    → HasGone share rules_by old mid now goal
    → ((state : StoreState) → IsOpen share rules_by old state → step (plain_rules mid.known.constants) (now state) who Abort ≡ record { state = after state; reply = Done })
    → ((state : StoreState) → IsOpen share rules_by old state → IsEither (now state).primary state.primary (goal state))
    → ((state : StoreState) → IsOpen share rules_by old state → IsEither (after state).primary state.primary (goal state))
    → (reply : Reply) → Answers rules_by mid new (answered who Abort reply) → HasGone share rules_by old new after goal
gone_ends rules_by old mid new now after goal who gone granted before behind reply answers =
    let quiet : kind_of reply ≡ Ruled = quiet_abort (kind_of reply) answers.may_end in
    record {
      keeps = Keeps-trans gone.keeps answers.does.keeps;
      steady = λ steady. subst (λ (kind : Kind). UnlessFailedWrite kind (new.known.steady ≡ true)) quiet (answers.does.steady (gone.steady steady));
      told = λ state idle.
          let there = some_of new.known.state (answers.does.keeps.tells_state ∙ ap is_some (gone.told state idle)) in
          let leads = subst (λ (kind : Kind). LeadsTo (rules_by mid.known.constants) (now state) (answered who Abort reply) there.0 kind) quiet
          (answers.does.leads (now state) (gone.told state idle) there.0 there.1) in
          there.1 ∙ ap (λ (o : Outcome). Some o.state)
          (sym leads ∙ plain_step rules_by old mid new now after goal who Abort gone granted before behind state idle);
      moments = all_moments rules_by old mid new now after goal who Abort gone granted before behind reply answers;
    }

-- ---- what the images of a plain store mount to

module _ (rules_by : Constants → Rules) (s : KvState) (lawful : IsLawful rules_by s) (rules : rules_by ≡ plain_rules) where
  abbrev MountsTo : Option Doubt → (Constants → Rules) → StoreState → Maps → Type 0
  MountsTo doubt by state maps = MatchOption doubt (maps ≡ maps_of state) (λ (d : Doubt). Contains (cuts (by s.known.constants) state d.who d.operation) maps)

  mounts : (state : StoreState) (maps : Maps) → s.known.state ≡ Some state → s.crash.stands maps → MountsTo state.doubt plain_rules state maps
  mounts state maps told stands =
      subst (λ (by : Constants → Rules). MountsTo state.doubt by state maps) rules (lawful.stands state told maps stands)

  -- a store that runs mounts to its map
  pub running_mounts : (state : StoreState) (maps : Maps) → s.known.state ≡ Some state → state.doubt ≡ None → s.crash.stands maps → maps.primary ≡ state.primary
  running_mounts state maps told running stands =
      ap (λ (m : Maps). m.primary) (subst (λ (d : Option Doubt). MountsTo d plain_rules state maps) running (mounts state maps told stands))

  -- one of three maps of which two have the same primary map
  of_three : (one two three maps : Maps) → two.primary ≡ three.primary → Contains (one ∷ two ∷ three ∷ []) maps → IsEither maps.primary one.primary three.primary
  of_three one two three maps same (zero, below, is) = inl (ap (λ (m : Maps). m.primary) (sym is))
  of_three one two three maps same (suc zero, below, is) = inr (ap (λ (m : Maps). m.primary) (sym is) ∙ same)
  of_three one two three maps same (suc (suc zero), below, is) = inr (ap (λ (m : Maps). m.primary) (sym is))
  of_three one two three maps same (suc (suc (suc k)), below, is) = absurd (omega (arith, below))

  -- a store in which a write failed mounts to the map before the call or to the one after it
  pub failed_mounts : (state : StoreState) (maps : Maps) (who : ℕ) (operation : Operation) → state.doubt ≡ None
      → s.known.state ≡ Some (failed_write (plain_rules s.known.constants) state who operation) → s.crash.stands maps
      → IsEither maps.primary state.primary (step (plain_rules s.known.constants) state who operation).state.primary
  failed_mounts state maps who operation running told stands =
      let stopped = failed_write (plain_rules s.known.constants) state who operation in
      let same : record stopped { doubt = None } ≡ state = λ i. record state { doubt = sym running i } in
      let found = of_three (maps_of stopped) (record { primary = (step (plain_rules s.known.constants) (record stopped { doubt = None }) who operation).state.primary; rollback = stopped.rollback })
      (maps_of (step (plain_rules s.known.constants) (record stopped { doubt = None }) who operation).state) maps refl (mounts stopped maps told stands) in
      subst (λ (st : StoreState). IsEither maps.primary state.primary (step (plain_rules s.known.constants) st who operation).state.primary) same found
