-- Calls that leave a store's device as it is.
use Rattle.std.proofs.Common.{◌≡◌, ℕ, true, false, List, inl, refl, sym, ◌∙◌, subst, arith}
use Rattle.std.specs.Prelude.{IsTrue, Option, Some, None, is_some}
use Rattle.std.specs.Option.{ForSome}
use Rattle.kv_model.specs.declared.call.Reply.{Reply}
use Rattle.kv_model.specs.declared.call.Reply.TheVariants.{Done, Refused}
use Rattle.kv_model.specs.declared.error.KvError.TheVariants.{Corrupt, NoSet, ReadFault, Stopped, WriteFault}
use Rattle.kv_model.specs.Constants.{Constants}
use Rattle.kv_model.specs.FlaggedMap.{FlaggedMap}
use Rattle.kv_model.specs.Kv.{Answered, Answers, Clock, IsCause, Keeps, Kind, KvState, LeadsTo, Ruled, TellsOnly, UnlessFailedWrite, kind_of, may_end}
use Rattle.kv_model.specs.LogStep.{LogFollows}
use Rattle.kv_model.specs.Opening.{Log, Opening}
use Rattle.kv_model.specs.Operations.{Abort, Add, Finish, Operation}
use Rattle.kv_model.specs.PlainStep.{plain_rules, plain_step}
use Rattle.kv_model.specs.Rows.{owns_set}
use Rattle.kv_model.specs.Rules.{refuses}
use Rattle.kv_model.specs.StoreState.{StoreState}

pub some_is : {X : Type 0} {x y : X} → Some x ≡ Some y → x ≡ y
some_is same = cc

caused : (old new : Opening) (reply : Reply) → kind_of reply ≡ Ruled → IsCause old new reply
caused old new (Refused ReadFault) ruled = absurd (cc)
caused old new (Refused WriteFault) ruled = absurd (cc)
caused old new (Refused (Corrupt stored computed)) ruled = absurd (cc)
caused old new reply ruled = tt

-- a store with another state
abbrev pub told_as : KvState → Option StoreState → KvState
told_as s state = record { known = record s.known { state = state }; crash = s.crash }

module _ (s : KvState) (before after : Option StoreState) (call : Answered) where
  kept : is_some after ≡ is_some before → Keeps (told_as s before) (told_as s after)
  kept tells = record {
    constants = refl;
    labels = refl;
    tells_state = tells;
    tells_log = refl;
    tells_moments = refl;
    read_faults = omega arith;
    write_faults = omega arith;
    sound = λ sound. sound;
  }

  nothing_told : (clock : Clock) (u v : FlaggedMap) → TellsOnly clock clock u v
  nothing_told clock u v = record { moment = omega arith; told = λ t m le left. inl left }

  -- a step by the rules that changes no more than the state
  pub steps_alone : is_some after ≡ is_some before → kind_of call.reply ≡ Ruled
      → ForSome before (λ b. ForSome after (λ a. plain_step s.known.constants b call.who call.operation ≡ record { state = a; reply = call.reply }))
      → ((b : StoreState) (l : Log) → LogFollows s.known.constants b l l call.operation call.reply)
      → Answers plain_rules (told_as s before) (told_as s after) call
  steps_alone tells ruled steps follows = record {
    does = record {
      keeps = kept tells;
      cause = caused (told_as s before).known (told_as s after).known call.reply ruled;
      steady = λ steady. subst (λ (k : Kind). UnlessFailedWrite k (s.known.steady ≡ true)) (sym ruled) steady;
      leads = λ b b_is a a_is. subst (λ (k : Kind). LeadsTo (plain_rules s.known.constants) b call a k) (sym ruled) (steps b b_is a a_is);
      log = λ b b_is l l_is m m_is. subst (λ (k : Kind). UnlessFailedWrite k (LogFollows s.known.constants b l m call.operation call.reply)) (sym ruled)
          (subst (λ (x : Log). LogFollows s.known.constants b l x call.operation call.reply) (some_is (sym l_is ∙ m_is)) (follows b l));
      cuts = λ tells b b_is. (nothing_told s.crash.primary _ _, nothing_told s.crash.rollback _ _);
    };
    may_end = subst (λ (k : Kind). IsTrue (may_end call.operation k)) (sym ruled) refl;
  }

-- ---- steps

module _ (constants : Constants) (state : StoreState) (who : ℕ) where
  pub stopped_step : (operation : Operation) → is_some state.doubt ≡ true → plain_step constants state who operation ≡ refuses state Stopped
  stopped_step operation stopped = simp stopped

  module _ (running : state.doubt ≡ None) where
    pub abort_step : owns_set state who ≡ true → plain_step constants state who Abort ≡ record { state = record state { open_set = None }; reply = Done }
    abort_step owns = simp (running, owns)

    module _ (none : owns_set state who ≡ false) where
      pub abort_refused : plain_step constants state who Abort ≡ refuses state NoSet
      abort_refused = simp (running, none)

      pub add_refused : (value : List ℕ) → plain_step constants state who (Add value) ≡ refuses state NoSet
      add_refused value = simp (running, none)

      pub finish_refused : plain_step constants state who Finish ≡ refuses state NoSet
      finish_refused = simp (running, none)
