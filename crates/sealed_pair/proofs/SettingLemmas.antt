-- Calls on one of the two stores while a set of it is active.
use Rattle.std.proofs.Common.{◌≡◌, ℕ, ◌+◌, Bool, true, false, not, ◌==◌, nat_lt, List, ◌++◌, length, Option, Some, None, refl, sym, ◌∙◌, ap, subst, inl, inr, arith}
use Rattle.std.specs.Prelude.{if◌then◌else◌, is_some, IsTrue}
use Rattle.std.specs.Option.{option_map_or}
use Rattle.std.proofs.lemmas.Bool.Decides.{nat_tests}
use mathlib.Core.Bool.{false≢true, true≢false}
use Rattle.kv_model.specs.declared.error.KvError.{KvError}
use Rattle.kv_model.specs.declared.error.KvError.TheVariants as error
use Rattle.kv_model.specs.declared.call.Reply.{Reply}
use Rattle.kv_model.specs.declared.call.Reply.TheVariants.{Done, Refused}
use Rattle.kv_model.specs.Checks.{first_refusal}
use Rattle.kv_model.specs.Constants.{Constants}
use Rattle.kv_model.specs.FlaggedMap.{FlaggedMap}
use Rattle.kv_model.specs.StoreState.{Doubt, Maps, OpenSet, StoreState, begun_set}
use Rattle.kv_model.specs.Operations.{Operation, Abort, Add, Start}
use Rattle.kv_model.specs.PlainStep.{plain_checks, plain_effect, plain_rules}
use Rattle.kv_model.specs.Rules.{Outcome, Rules, after_refusal, failed_write, is_refusal, refused_or, refuses, step}
use Rattle.kv_model.specs.Kv.{Answers, IsLawful, Kind, KvState, LeadsTo, TellsOnly, UnlessFailedWrite, answered, kind_of, may_end, Ruled, FailedRead, FailedWrite, Mismatched, Wanted}
use Rattle.kv_model.proofs.PerformLemmas.{Keeps-trans, TellsOnly-trans}
use Rattle.sealed_pair.specs.Going.{HasGone}
use Rattle.sealed_pair.specs.Reading.{HasRead}
use Rattle.sealed_pair.specs.Running.{IsIdle}
use Rattle.sealed_pair.specs.Shares.{NoShare}
use Rattle.sealed_pair.specs.Setting.{Failure, FailsSet, HasFailedSet, HasMoved, HasRoomFor, IsAt}
use Rattle.sealed_pair.proofs.BehindLemmas.{tells_either}
use Rattle.sealed_pair.proofs.GoingLemmas.{failed_mounts, quiet_abort}
use Rattle.sealed_pair.proofs.PairLemmas.{carries_since, cause_all, read_none}
use Rattle.sealed_pair.proofs.ReadingLemmas.{some_of}
use Rattle.sealed_pair.proofs.RunningLemmas.{Prepares}

-- ---- a step of a store that runs

refused_is_not_done : (e : KvError) → Refused e ≡ Done → ⊥
refused_is_not_done e h = cc h

abbrev error_in : Reply → KvError
error_in (Refused e) = e
error_in reply = error.NotFound

-- a check that doesn't refuse is passed
pub past : (applies : Bool) (e : KvError) (rest : Option KvError) → applies ≡ false → (if applies then Some e else rest) ≡ rest
past true e rest is = absurd (true≢false is)
past false e rest is = refl

pub running_step : (rules : Rules) (state : StoreState) (who : ℕ) (operation : Operation) → state.doubt ≡ None
    → step rules state who operation ≡ refused_or rules state who operation (first_refusal (rules.checks state who operation))
running_step rules state who operation running =
    ap (λ (o : Option Doubt). if is_some o then refuses state error.Stopped else refused_or rules state who operation (first_refusal (rules.checks state who operation))) running

found_done : (rules : Rules) (state new : StoreState) (who : ℕ) (operation : Operation) (found : Option KvError)
    → refused_or rules state who operation found ≡ record { state = new; reply = Done } → (found ≡ None) × (new ≡ (rules.effect state who operation).state)
found_done rules state new who operation None is = (refl, ap (λ (o : Outcome). o.state) (sym is))
found_done rules state new who operation (Some e) is = absurd (refused_is_not_done e (ap (λ (o : Outcome). o.reply) is))

-- a call that is done was not refused
pub step_done : (rules : Rules) (state new : StoreState) (who : ℕ) (operation : Operation) → state.doubt ≡ None
    → step rules state who operation ≡ record { state = new; reply = Done }
    → (first_refusal (rules.checks state who operation) ≡ None) × (new ≡ (rules.effect state who operation).state)
step_done rules state new who operation running is =
    found_done rules state new who operation (first_refusal (rules.checks state who operation)) (sym (running_step rules state who operation running) ∙ is)

found_refused : (rules : Rules) (state new : StoreState) (who : ℕ) (operation : Operation) (e : KvError) (found : Option KvError)
    → is_refusal (rules.effect state who operation).reply ≡ false
    → refused_or rules state who operation found ≡ record { state = new; reply = Refused e } → (found ≡ Some e) × (new ≡ after_refusal state operation e)
found_refused rules state new who operation e None grants is =
    absurd (false≢true (sym grants ∙ ap (λ (o : Outcome). is_refusal o.reply) is))
found_refused rules state new who operation e (Some f) grants is =
    let same : f ≡ e = ap (λ (o : Outcome). error_in o.reply) is in
    (ap (λ (x : KvError). Some x) same, ap (λ (o : Outcome). o.state) (sym is) ∙ ap (λ (x : KvError). after_refusal state operation x) same)

-- a call that is refused was refused by the first check that applies
pub step_refused : (rules : Rules) (state new : StoreState) (who : ℕ) (operation : Operation) (e : KvError) → state.doubt ≡ None
    → is_refusal (rules.effect state who operation).reply ≡ false → step rules state who operation ≡ record { state = new; reply = Refused e }
    → (first_refusal (rules.checks state who operation) ≡ Some e) × (new ≡ after_refusal state operation e)
step_refused rules state new who operation e running grants is =
    found_refused rules state new who operation e (first_refusal (rules.checks state who operation)) grants (sym (running_step rules state who operation running) ∙ is)

-- ---- calls one behind another

pub at_idle : {by : Constants → Rules} {s : KvState} {state : StoreState} → IsIdle by s state → IsAt by s None state
at_idle idle = record { rules = idle.rules; told = idle.told; running = idle.running; active = idle.holds }

pub at_then : {by : Constants → Rules} {a b : KvState} {one two : Option OpenSet} {state : StoreState} → HasMoved by a b one two → IsAt by a one state
    → IsAt by b two (record state { open_set = two })
at_then {two = two} {state = state} moved at = record { rules = at.rules; told = moved.told state at; running = at.running; active = refl }

pub moved_none : (by : Constants → Rules) (s : KvState) (set : Option OpenSet) → HasMoved by s s set set
moved_none by s set = record {
  keeps = (read_none s).keeps;
  steady = λ is. is;
  told = λ state at. at.told ∙ ap (λ (o : Option OpenSet). Some (record state { open_set = o })) at.active;
  moments = λ tells state at. record { moment = omega arith; told = λ t map early told. inl told };
}

pub moved_read : (by : Constants → Rules) (s s' : KvState) (set : Option OpenSet) → HasRead s s' → HasMoved by s s' set set
moved_read by s s' set read = record {
  keeps = read.keeps;
  steady = read.steady;
  told = λ state at. read.state ∙ at.told ∙ ap (λ (o : Option OpenSet). Some (record state { open_set = o })) at.active;
  moments = λ tells state at. read.moments tells state at.told;
}

pub moved_then : {by : Constants → Rules} {a b c : KvState} {one two three : Option OpenSet} → HasMoved by a b one two → HasMoved by b c two three → HasMoved by a c one three
moved_then {two = two} first second = record {
  keeps = Keeps-trans first.keeps second.keeps;
  steady = λ steady. second.steady (first.steady steady);
  told = λ state at. second.told (record state { open_set = two }) (at_then first at);
  moments = λ tells state at. TellsOnly-trans (first.moments tells state at)
      (second.moments (subst IsTrue (sym first.keeps.tells_moments) tells) (record state { open_set = two }) (at_then first at));
}

fails_again : (new : KvState) (f : Failure) (state : StoreState) (set : Option OpenSet) (kind : Kind) → FailsSet new f (record state { open_set = set }) kind → FailsSet new f state kind
fails_again new f state set Ruled fails = fails
fails_again new f state set FailedRead fails = fails
fails_again new f state set FailedWrite fails = fails
fails_again new f state set Mismatched fails = fails
fails_again new f state set Wanted fails = fails

pub failed_behind : {by : Constants → Rules} {a b c : KvState} {one two : Option OpenSet} {f : Failure} → HasMoved by a b one two → HasFailedSet by b c two f → HasFailedSet by a c one f
failed_behind {a = a} {b} {c} {two = two} {f} first second = record {
  keeps = Keeps-trans first.keeps second.keeps;
  cause = cause_all (carries_since a b c first.keeps first.steady) (Refused f.error) second.cause;
  steady = λ steady. second.steady (first.steady steady);
  told = λ state at. fails_again c f state two (kind_of (Refused f.error)) (second.told (record state { open_set = two }) (at_then first at));
  moments = λ tells state at. TellsOnly-trans (first.moments tells state at)
      (second.moments (subst IsTrue (sym first.keeps.tells_moments) tells) (record state { open_set = two }) (at_then first at));
}

-- a store that has a set of its own, and the map as it was
pub moved_gone : {by : Constants → Rules} {s s' : KvState} {later : Option OpenSet} (goal : StoreState → FlaggedMap) → HasMoved by s s' None later
    → HasGone NoShare by s s' (λ state. record state { open_set = later }) goal
moved_gone goal moved = record {
  keeps = moved.keeps;
  steady = moved.steady;
  told = λ state idle. moved.told state (at_idle idle);
  moments = λ tells state idle. tells_either state.primary (goal state) (moved.moments tells state (at_idle idle));
}

-- ---- one call that leaves the map

module _ (operation : Operation) (stays : (c : Constants) (state : StoreState) (who : ℕ) → (plain_effect c state who operation).state.primary ≡ state.primary)
    (left : (state : StoreState) (e : KvError) → after_refusal state operation e ≡ state) where
  found_stays : (c : Constants) (state : StoreState) (who : ℕ) (found : Option KvError) → (refused_or (plain_rules c) state who operation found).state.primary ≡ state.primary
  found_stays c state who None = stays c state who
  found_stays c state who (Some e) = ap (λ (s : StoreState). s.primary) (left state e)

  step_stays : (c : Constants) (state : StoreState) (who : ℕ) → state.doubt ≡ None → (step (plain_rules c) state who operation).state.primary ≡ state.primary
  step_stays c state who running =
      ap (λ (o : Outcome). o.state.primary) (running_step (plain_rules c) state who operation running)
      ∙ found_stays c state who (first_refusal (plain_checks c state who operation))

  module _ (by : Constants → Rules) (s s' : KvState) (who : ℕ) (set : Option OpenSet) where
    moments_stay : (reply : Reply) → Answers by s s' (answered who operation reply) → IsTrue s.crash.tells_moments → (state : StoreState) → IsAt by s set state
        → TellsOnly s.crash.primary s'.crash.primary state.primary state.primary
    moments_stay reply answers tells state at =
        subst (λ (m : FlaggedMap). TellsOnly s.crash.primary s'.crash.primary state.primary m)
        (ap (λ (b : Constants → Rules). (step (b s.known.constants) state who operation).state.primary) at.rules ∙ step_stays s.known.constants state who at.running)
        (answers.does.cuts tells state at.told).0

    -- what it tells afterwards, and how it came to that
    record Came (reply : Reply) (state : StoreState) : Type 0 where
      pub after : StoreState
      pub told : s'.known.state ≡ Some after
      pub leads : LeadsTo (plain_rules s.known.constants) state (answered who operation reply) after (kind_of reply)

    came : (reply : Reply) → Answers by s s' (answered who operation reply) → (state : StoreState) → IsAt by s set state → Came reply state
    came reply answers state at =
        let there = some_of s'.known.state (answers.does.keeps.tells_state ∙ ap is_some at.told) in
        record {
          after = there.0;
          told = there.1;
          leads = subst (λ (b : Constants → Rules). LeadsTo (b s.known.constants) state (answered who operation reply) there.0 (kind_of reply)) at.rules
              (answers.does.leads state at.told there.0 there.1);
        }

    pub moved : (later : Option OpenSet) → Answers by s s' (answered who operation Done)
        → ((c : Constants) (state : StoreState) → IsAt by s set state → (plain_effect c state who operation).state ≡ record state { open_set = later }) → HasMoved by s s' set later
    moved later answers effect = record {
      keeps = answers.does.keeps;
      steady = answers.does.steady;
      told = λ state at.
          let c = came Done answers state at in
          c.told ∙ ap (λ (x : StoreState). Some x)
          ((step_done (plain_rules s.known.constants) state c.after who operation at.running c.leads).1 ∙ effect s.known.constants state at);
      moments = moments_stay Done answers;
    }

    module _ (e : KvError) (begins : Bool) (answers : Answers by s s' (answered who operation (Refused e))) (lawful : IsLawful by s')
        (grants : (c : Constants) (state : StoreState) → is_refusal (plain_effect c state who operation).reply ≡ false)
        (prepares : Prepares operation → IsTrue begins × (set ≡ None))
        (ruled : (c : Constants) (state : StoreState) → IsAt by s set state → first_refusal (plain_checks c state who operation) ≡ Some e → IsTrue begins × (set ≡ None)) where
      cleared : (state : StoreState) → IsAt by s set state → set ≡ None → state ≡ record state { open_set = None }
      cleared state at none = λ i. record state { open_set = (at.active ∙ none) i }

      fails_by : (state : StoreState) → IsAt by s set state → (after : StoreState) → s'.known.state ≡ Some after → (kind : Kind) → IsTrue (may_end operation kind)
          → LeadsTo (plain_rules s.known.constants) state (answered who operation (Refused e)) after kind → FailsSet s' (record { begins = begins; error = e }) state kind
      fails_by state at after told Ruled may leads =
          let refused = step_refused (plain_rules s.known.constants) state after who operation e at.running (grants s.known.constants state) leads in
          let why = ruled s.known.constants state at refused.0 in
          (why.0, told ∙ ap (λ (x : StoreState). Some x) (refused.1 ∙ left state e ∙ cleared state at why.1))
      fails_by state at after told FailedRead may leads =
          let why = prepares (inl may) in
          (why.0, ap (λ (o : Outcome). error_in o.reply) leads.2, told ∙ ap (λ (x : StoreState). Some x) (ap (λ (o : Outcome). o.state) leads.2 ∙ cleared state at why.1))
      fails_by state at after told FailedWrite may leads = (ap (λ (o : Outcome). error_in o.reply) leads.2, mounts) where
        told_stopped : s'.known.state ≡ Some (failed_write (plain_rules s'.known.constants) state who operation)
        told_stopped = subst (λ (c : Constants). s'.known.state ≡ Some (failed_write (plain_rules c) state who operation)) (sym answers.does.keeps.constants)
            (told ∙ ap (λ (o : Outcome). Some o.state) leads.2)

        mounts : (maps : Maps) → s'.crash.stands maps → maps.primary ≡ state.primary
        mounts maps stands = elim (failed_mounts by s' lawful at.rules state maps who operation at.running told_stopped stands) [
          | inl is ↦ is
          | inr is ↦ is ∙ step_stays s'.known.constants state who at.running
        ]
      fails_by state at after told Mismatched may leads = leads
      fails_by state at after told Wanted may leads =
          let why = prepares (inr may) in
          (why.0, told ∙ ap (λ (x : StoreState). Some x) (leads ∙ cleared state at why.1))

      pub failed : HasFailedSet by s s' set (record { begins = begins; error = e })
      failed = record {
        keeps = answers.does.keeps;
        cause = answers.does.cause;
        steady = answers.does.steady;
        told = λ state at. let c = came (Refused e) answers state at in fails_by state at c.after c.told (kind_of (Refused e)) answers.may_end c.leads;
        moments = moments_stay (Refused e) answers;
      }

-- ---- a start

module _ (by : Constants → Rules) (s s' : KvState) (who : ℕ) (key : List ℕ) (size flags : ℕ) where
  pub started : Answers by s s' (answered who (Start key size flags) Done) → HasMoved by s s' None (Some (begun_set who key flags size None))
  started answers =
      moved (Start key size flags) (λ c state who. refl) (λ state e. refl) by s s' who None (Some (begun_set who key flags size None)) answers (λ c state at. refl)

  pub start_failed : (e : KvError) → Answers by s s' (answered who (Start key size flags) (Refused e)) → IsLawful by s' → HasFailedSet by s s' None (record { begins = true; error = e })
  start_failed e answers lawful =
      failed (Start key size flags) (λ c state who. refl) (λ state e. refl) by s s' who None e true answers lawful (λ c state. refl) (λ prepares. (refl, refl)) (λ c state at found. (refl, refl))

-- ---- bytes that are added

add_stays : (bytes : List ℕ) (state : StoreState) (found : Option OpenSet)
    → (option_map_or (λ (set : OpenSet). record state { open_set = Some (record set { bytes = set.bytes ++ bytes }) }) found state).primary ≡ state.primary
add_stays bytes state None = refl
add_stays bytes state (Some set) = refl

no_add_prepares : (bytes : List ℕ) → Prepares (Add bytes) → ⊥
no_add_prepares bytes (inl may) = false≢true may
no_add_prepares bytes (inr may) = false≢true may

module _ (by : Constants → Rules) (s s' : KvState) (who : ℕ) (bytes : List ℕ) (set : OpenSet) (room : HasRoomFor who set (length bytes)) where
  added_to : (c : Constants) (state : StoreState) → IsAt by s (Some set) state
      → (plain_effect c state who (Add bytes)).state ≡ record state { open_set = Some (record set { bytes = set.bytes ++ bytes }) }
  added_to c state at =
      ap (λ (o : Option OpenSet). option_map_or (λ (x : OpenSet). record state { open_set = Some (record x { bytes = x.bytes ++ bytes }) }) o state) at.active

  owns : not (set.owner == who) ≡ false
  owns = let owner = room.owner in grind (arith, nat_tests)

  fits : nat_lt set.size (length set.bytes + length bytes) ≡ false
  fits = let small = room.fits in grind (arith, nat_tests)

  add_granted : (c : Constants) (state : StoreState) → IsAt by s (Some set) state → first_refusal (plain_checks c state who (Add bytes)) ≡ None
  add_granted c state at =
      subst (λ (o : Option OpenSet). first_refusal (plain_checks c (record state { open_set = o }) who (Add bytes)) ≡ None) (sym at.active)
      (past (not (set.owner == who)) error.NoSet _ owns ∙ past (nat_lt set.size (length set.bytes + length bytes)) error.InvalidSize None fits)

  pub added : Answers by s s' (answered who (Add bytes) Done) → HasMoved by s s' (Some set) (Some (record set { bytes = set.bytes ++ bytes }))
  added answers =
      moved (Add bytes) (λ c state who. add_stays bytes state state.open_set) (λ state e. refl) by s s' who (Some set) (Some (record set { bytes = set.bytes ++ bytes })) answers added_to

  pub add_failed : (e : KvError) → Answers by s s' (answered who (Add bytes) (Refused e)) → IsLawful by s' → HasFailedSet by s s' (Some set) (record { begins = false; error = e })
  add_failed e answers lawful =
      failed (Add bytes) (λ c state who. add_stays bytes state state.open_set) (λ state e. refl) by s s' who (Some set) e false answers lawful (λ c state. refl)
      (λ prepares. absurd (no_add_prepares bytes prepares)) (λ c state at found. let none = add_granted c state at in absurd (cc (none, found)))

-- ---- a set that is given up

module _ (by : Constants → Rules) (s s' : KvState) (who : ℕ) (set : OpenSet) (owner : set.owner ≡ who) (reply : Reply) (answers : Answers by s s' (answered who Abort reply)) where
  quiet : kind_of reply ≡ Ruled
  quiet = quiet_abort (kind_of reply) answers.may_end

  is_owner : not (set.owner == who) ≡ false
  is_owner = grind (arith, nat_tests)

  abort_granted : (c : Constants) (state : StoreState) → IsAt by s (Some set) state → first_refusal (plain_checks c state who Abort) ≡ None
  abort_granted c state at =
      subst (λ (o : Option OpenSet). first_refusal (plain_checks c (record state { open_set = o }) who Abort) ≡ None) (sym at.active)
      (past (not (set.owner == who)) error.NoSet None is_owner)

  aborts : (c : Constants) (state : StoreState) → IsAt by s (Some set) state → step (plain_rules c) state who Abort ≡ record { state = record state { open_set = None }; reply = Done }
  aborts c state at =
      running_step (plain_rules c) state who Abort at.running
      ∙ ap (λ (o : Option KvError). refused_or (plain_rules c) state who Abort o) (abort_granted c state at)

  pub aborted : HasMoved by s s' (Some set) None
  aborted = record {
    keeps = answers.does.keeps;
    steady = λ steady. subst (λ (kind : Kind). UnlessFailedWrite kind (s'.known.steady ≡ true)) quiet (answers.does.steady steady);
    told = λ state at.
        let c = came Abort (λ c state who. refl) (λ state e. refl) by s s' who (Some set) reply answers state at in
        let leads = subst (λ (kind : Kind). LeadsTo (plain_rules s.known.constants) state (answered who Abort reply) c.after kind) quiet c.leads in
        c.told ∙ ap (λ (o : Outcome). Some o.state) (sym leads ∙ aborts s.known.constants state at);
    moments = moments_stay Abort (λ c state who. refl) (λ state e. refl) by s s' who (Some set) reply answers;
  }
