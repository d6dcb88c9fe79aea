-- A call that only reads is one of a plain store.
use Rattle.std.proofs.Common.{◌≡◌, ℕ, Bool, true, false, List, [], ◌∷◌, inl, refl, sym, ◌∙◌, ap, subst, arith}
use Rattle.std.specs.Prelude.{IsTrue, Option, Some, None, is_some}
use Rattle.std.specs.Option.{ForSome, option_map}
use Rattle.flash_core.specs.declared.geometry.Geometry.{Geometry}
use Rattle.kv_model.specs.declared.call.Reply.{Reply}
use Rattle.kv_model.specs.declared.call.Reply.TheVariants.{Refused}
use Rattle.kv_model.specs.declared.error.KvError.{KvError}
use Rattle.kv_model.specs.declared.error.KvError.TheVariants.{Corrupt, Memory, ReadFault, WriteFault}
use Rattle.kv_model.specs.Checks.{may_fail_reading}
use Rattle.kv_model.specs.Constants.{Constants}
use Rattle.kv_model.specs.FlaggedMap.{FlaggedMap}
use Rattle.kv_model.specs.Kv.{Answered, Answers, IsCause, Keeps, Kind, LeadsTo, Ruled, FailedRead, Mismatched, TellsOnly, UnlessFailedWrite, Wanted, kind_of, may_end, reads, takes_memory}
use Rattle.kv_model.specs.LogStep.{LogFollows}
use Rattle.kv_model.specs.Opening.{Log, Opening}
use Rattle.kv_model.specs.Operations.{Operation}
use Rattle.kv_model.specs.PlainStep.{plain_checks, plain_rules, plain_step}
use Rattle.kv_model.specs.StoreState.{OpenSet, StoreState}
use Rattle.record_core.specs.Mounts.{Mounts}
use Rattle.tdb_read.specs.Reads.{IsReadRefusal}
use Rattle.tdb_read.specs.States.{IsUnlikely, MapLeft, constants_of, crash_of, kv_state, log_in, state_in}
use Rattle.tdb_read.specs.Views.{HasRead, LogPart, LogView}

is_some_map : {X Y : Type 0} (f : X → Y) (o : Option X) → is_some (option_map f o) ≡ is_some o
is_some_map f None = refl
is_some_map f (Some x) = refl

some_same : {X : Type 0} (x y : X) → Some x ≡ Some y → x ≡ y
some_same x y same = cc

none_some : {X : Type 0} (P : Type 0) (x : X) → None ≡ Some x → P
none_some P x same = absurd (cc)

-- what is said of two mapped values of one option
over_both : {X Y Z : Type 0} (P : Y → Z → Type 0) (f : X → Y) (h : X → Z) (o n : Option X) → n ≡ o → ((x : X) → o ≡ Some x → P (f x) (h x))
    → ForSome (option_map f o) (λ b. ForSome (option_map h n) (λ a. P b a))
over_both P f h None n same holds = λ b told. none_some _ b told
over_both P f h (Some x) n same holds = λ b b_is a a_is.
    let after : h x ≡ a = some_same (h x) a (sym (ap (option_map h) same) ∙ a_is) in
    subst (P b) after (subst (λ y. P y (h x)) (some_same (f x) b b_is) (holds x refl))

is_ruled : (old new : Opening) (reply : Reply) → kind_of reply ≡ Ruled → IsCause old new reply
is_ruled old new (Refused ReadFault) ruled = absurd (cc)
is_ruled old new (Refused WriteFault) ruled = absurd (cc)
is_ruled old new (Refused (Corrupt stored computed)) ruled = absurd (cc)
is_ruled old new reply ruled = tt

module _ (old new : LogView) (read : HasRead old new) (set : Option OpenSet) where
  abbrev g : Geometry
  g = old.device.geometry

  abbrev log_after : LogPart
  log_after = record old.log { iterators = new.log.iterators }

  abbrev constants : Constants
  constants = constants_of g old.log

  kept : Keeps (kv_state old set) (kv_state new set)
  kept = record {
    constants = λ i. constants_of (read.device.geometry i) (read.log i);
    labels = ap (λ (l : List ℕ). l ∷ []) read.device.label;
    tells_state = is_some_map (state_in new.device.geometry new.log set) new.device.image ∙ ap is_some read.device.image ∙ sym (is_some_map (state_in g old.log set) old.device.image);
    tells_log = is_some_map (log_in new.device.geometry new.log) new.device.image ∙ ap is_some read.device.image ∙ sym (is_some_map (log_in g old.log) old.device.image);
    tells_moments = read.device.tells_moments;
    read_faults = read.device.read_faults;
    write_faults = omega (arith, read.device.write_faults);
    sound = read.device.sound;
  }

  left_before : (t : ℕ) (m : FlaggedMap) → MapLeft new.device.geometry new.device t m → MapLeft g old.device t m
  left_before t m left = record {
    call = left.call;
    image = left.image;
    left = (read.device.told t left.call left.image).0 left.left;
    unlikely = subst (λ (x : Geometry). IsUnlikely x left.call left.image) read.device.geometry left.unlikely;
    mounts = subst (λ (x : Geometry). Mounts x left.image m) read.device.geometry left.mounts;
  }

  tells_no_more : (before after : FlaggedMap) → TellsOnly (crash_of g old.device).primary (crash_of new.device.geometry new.device).primary before after
  tells_no_more before after = record { moment = omega (arith, read.device.moment); told = λ t m le left. inl (left_before t m left) }

  no_rollback : (before after : FlaggedMap) → TellsOnly (crash_of g old.device).rollback (crash_of new.device.geometry new.device).rollback before after
  no_rollback before after = record { moment = omega arith; told = λ t m le left. absurd left }

  state_after : (image : List ℕ) → state_in g log_after set image ≡ state_in new.device.geometry new.log set image
  state_after image = λ i. state_in (sym read.device.geometry i) (sym read.log i) set image

  log_same : (image : List ℕ) → log_in g old.log image ≡ log_in new.device.geometry new.log image
  log_same image = λ i. log_in (sym read.device.geometry i) (sym read.log i) image

  module _ (call : Answered) (kind : Kind) (is_kind : kind_of call.reply ≡ kind) (ends : IsTrue (may_end call.operation kind))
      (cause : IsCause (kv_state old set).known (kv_state new set).known call.reply) (unless : (P : Type 0) → UnlessFailedWrite kind P ≡ P) where
    answers_as : ((image : List ℕ) → old.device.image ≡ Some image → LeadsTo (plain_rules constants) (state_in g old.log set image) call (state_in g log_after set image) kind)
        → ((s : StoreState) (l : Log) → LogFollows constants s l l call.operation call.reply)
        → Answers plain_rules (kv_state old set) (kv_state new set) call
    answers_as leads follows = record {
      does = record {
        keeps = kept;
        cause = cause;
        steady = λ steady. subst (λ (k : Kind). UnlessFailedWrite k (new.device.steady ≡ true)) (sym is_kind) (subst (λ (P : Type 0). P) (sym (unless (new.device.steady ≡ true))) (read.device.steady steady));
        leads = over_both (λ (b a : StoreState). LeadsTo (plain_rules constants) b call a (kind_of call.reply)) (state_in g old.log set) (state_in new.device.geometry new.log set) old.device.image new.device.image read.device.image
            (λ image told. subst (λ (k : Kind). LeadsTo (plain_rules constants) (state_in g old.log set image) call (state_in new.device.geometry new.log set image) k) (sym is_kind)
            (subst (λ (s : StoreState). LeadsTo (plain_rules constants) (state_in g old.log set image) call s kind) (state_after image) (leads image told)));
        log = λ s s_is. over_both (λ (b a : Log). UnlessFailedWrite (kind_of call.reply) (LogFollows constants s b a call.operation call.reply)) (log_in g old.log) (log_in new.device.geometry new.log) old.device.image new.device.image read.device.image
            (λ image told. subst (λ (k : Kind). UnlessFailedWrite k (LogFollows constants s (log_in g old.log image) (log_in new.device.geometry new.log image) call.operation call.reply)) (sym is_kind)
            (subst (λ (P : Type 0). P) (sym (unless (LogFollows constants s (log_in g old.log image) (log_in new.device.geometry new.log image) call.operation call.reply)))
            (subst (λ (l : Log). LogFollows constants s (log_in g old.log image) l call.operation call.reply) (log_same image) (follows s (log_in g old.log image)))));
        cuts = λ tells s s_is. (tells_no_more _ _, no_rollback _ _);
      };
      may_end = subst (λ (k : Kind). IsTrue (may_end call.operation k)) (sym is_kind) ends;
    }

  -- a step of the rules
  pub ruled : (call : Answered) → kind_of call.reply ≡ Ruled
      → ((image : List ℕ) → old.device.image ≡ Some image → plain_step constants (state_in g old.log set image) call.who call.operation ≡ record { state = state_in g log_after set image; reply = call.reply })
      → ((s : StoreState) (l : Log) → LogFollows constants s l l call.operation call.reply)
      → Answers plain_rules (kv_state old set) (kv_state new set) call
  ruled call is_ruled_reply = answers_as call Ruled is_ruled_reply refl (is_ruled (kv_state old set).known (kv_state new set).known call.reply is_ruled_reply) (λ P. refl)

  -- no memory, where the call takes some
  pub wanted : (who : ℕ) (operation : Operation) → new.log.iterators ≡ old.log.iterators → IsTrue (takes_memory operation)
      → Answers plain_rules (kv_state old set) (kv_state new set) (record { who = who; operation = operation; reply = Refused Memory })
  wanted who operation same takes = answers_as (record { who = who; operation = operation; reply = Refused Memory }) Wanted refl takes tt (λ P. refl)
      (λ image told. λ i. state_in g (record old.log { iterators = same i }) set image)
      (λ s l. refl)

  -- a read that gave nothing, where no refusal comes before it
  pub refused : (who : ℕ) (operation : Operation) (e : KvError) → new.log.iterators ≡ old.log.iterators → IsTrue (reads operation) → IsReadRefusal old.device new.device e
      → ((image : List ℕ) → old.device.image ≡ Some image → IsTrue (may_fail_reading (plain_checks constants (state_in g old.log set image) who operation)))
      → Answers plain_rules (kv_state old set) (kv_state new set) (record { who = who; operation = operation; reply = Refused e })
  refused who operation e same may is_refusal comes = by_error e is_refusal
    where
      by_error : (x : KvError) → IsReadRefusal old.device new.device x → Answers plain_rules (kv_state old set) (kv_state new set) (record { who = who; operation = operation; reply = Refused x })
      by_error ReadFault is =
          answers_as (record { who = who; operation = operation; reply = Refused ReadFault }) FailedRead refl may (is.0, unsteady old.device.steady is.1) (λ P. refl)
          (λ image told. (refl, comes image told, λ i. record { state = state_in g (record old.log { iterators = same i }) set image; reply = Refused ReadFault }))
          (λ s l. refl)
        where
          unsteady : (b : Bool) → (IsTrue b → ⊥) → b ≡ false
          unsteady true not = absurd (not refl)
          unsteady false not = refl
      by_error (Corrupt stored computed) is =
          answers_as (record { who = who; operation = operation; reply = Refused (Corrupt stored computed) }) Mismatched refl may
          (is.0, ap (option_map (state_in g old.log set)) is.1) (λ P. refl)
          (λ image told. none_some ⊥ image (sym is.1 ∙ told))
          (λ s l. refl)
      by_error x is = absurd is
