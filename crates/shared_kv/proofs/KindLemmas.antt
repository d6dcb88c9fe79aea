-- What follows of a call from how it ended.
use Rattle.std.proofs.Common.{◌≡◌, ℕ, ◌+◌, ◌≤◌, Bool, true, false, Option, Some, None, refl, sym, ◌∙◌, ap, subst, inl, inr, ⊎_elim, arith}
use Rattle.std.specs.Prelude.{is_some, if◌then◌else◌}
use mathlib.Core.Bool.{false≢true, true≢false}
use Rattle.base_core.specs.Counts.{Rose}
use Rattle.kv_model.specs.declared.error.KvError.{KvError}
use Rattle.kv_model.specs.declared.error.KvError.TheVariants as error
use Rattle.kv_model.specs.declared.call.Reply.{Reply}
use Rattle.kv_model.specs.declared.call.Reply.TheVariants.{Done, Value, Facts, Found, End, Refused}
use Rattle.kv_model.specs.Checks.{first_refusal}
use Rattle.kv_model.specs.StoreState.{StoreState}
use Rattle.kv_model.specs.Opening.{Opening}
use Rattle.kv_model.specs.Operations.{Operation, Get, Part, Info, Set, Remove, RemoveStart, Start, Add, Finish, Abort, OpenIterator, Next, CloseIterator, Reset}
use Rattle.kv_model.specs.Rules.{AreRules, Outcome, Rules, Steps, after_refusal, is_refusal, refused_or, refuses, step}
use Rattle.kv_model.specs.Kv.{IsCause, Kind, LeadsTo, UnlessFailedWrite, answered, kind_of, Ruled, FailedRead, FailedWrite, Mismatched, Wanted}
use Rattle.shared_kv.specs.Histories.{counted_more, is_busy, is_failed_read, is_failed_write}

-- ---- a reply and its kind

-- why a call ended so
abbrev pub CauseBy : Opening → Opening → Kind → Type 0
CauseBy old new FailedRead = Rose old.read_faults new.read_faults × (old.steady ≡ false)
CauseBy old new FailedWrite = Rose old.write_faults new.write_faults × (old.sound ≡ false)
CauseBy old new Ruled = Unit {0}
CauseBy old new Mismatched = Unit {0}
CauseBy old new Wanted = Unit {0}

pub record Sorted (old new : Opening) (reply : Reply) (kind : Kind) : Type 0 where
  pub cause : CauseBy old new kind
  pub wanted : kind ≡ Wanted → reply ≡ Refused error.Memory

abbrev wants : Kind → Bool
wants Wanted = true
wants Ruled = false
wants FailedRead = false
wants FailedWrite = false
wants Mismatched = false

pub sorted : (old new : Opening) (reply : Reply) → IsCause old new reply → Sorted old new reply (kind_of reply)
sorted old new Done is = record { cause = tt; wanted = λ k. absurd (false≢true (ap wants k)) }
sorted old new (Value l) is = record { cause = tt; wanted = λ k. absurd (false≢true (ap wants k)) }
sorted old new (Facts n flags) is = record { cause = tt; wanted = λ k. absurd (false≢true (ap wants k)) }
sorted old new (Found l) is = record { cause = tt; wanted = λ k. absurd (false≢true (ap wants k)) }
sorted old new End is = record { cause = tt; wanted = λ k. absurd (false≢true (ap wants k)) }
sorted old new (Refused error.NotFound) is = record { cause = tt; wanted = λ k. absurd (false≢true (ap wants k)) }
sorted old new (Refused error.InvalidKey) is = record { cause = tt; wanted = λ k. absurd (false≢true (ap wants k)) }
sorted old new (Refused error.InvalidFlags) is = record { cause = tt; wanted = λ k. absurd (false≢true (ap wants k)) }
sorted old new (Refused error.InvalidSize) is = record { cause = tt; wanted = λ k. absurd (false≢true (ap wants k)) }
sorted old new (Refused error.WriteProtected) is = record { cause = tt; wanted = λ k. absurd (false≢true (ap wants k)) }
sorted old new (Refused (error.MediaFull need room)) is = record { cause = tt; wanted = λ k. absurd (false≢true (ap wants k)) }
sorted old new (Refused error.TooManyIterators) is = record { cause = tt; wanted = λ k. absurd (false≢true (ap wants k)) }
sorted old new (Refused error.NoIterator) is = record { cause = tt; wanted = λ k. absurd (false≢true (ap wants k)) }
sorted old new (Refused error.SetOpen) is = record { cause = tt; wanted = λ k. absurd (false≢true (ap wants k)) }
sorted old new (Refused error.NoSet) is = record { cause = tt; wanted = λ k. absurd (false≢true (ap wants k)) }
sorted old new (Refused (error.Busy owner)) is = record { cause = tt; wanted = λ k. absurd (false≢true (ap wants k)) }
sorted old new (Refused error.Stopped) is = record { cause = tt; wanted = λ k. absurd (false≢true (ap wants k)) }
sorted old new (Refused error.ReadFault) is = record { cause = is; wanted = λ k. absurd (false≢true (ap wants k)) }
sorted old new (Refused error.WriteFault) is = record { cause = is; wanted = λ k. absurd (false≢true (ap wants k)) }
sorted old new (Refused (error.Corrupt stored computed)) is = record { cause = tt; wanted = λ k. absurd (false≢true (ap wants k)) }
sorted old new (Refused error.AuthFailed) is = record { cause = tt; wanted = λ k. absurd (false≢true (ap wants k)) }
sorted old new (Refused error.RollbackFailed) is = record { cause = tt; wanted = λ k. absurd (false≢true (ap wants k)) }
sorted old new (Refused error.IvSpent) is = record { cause = tt; wanted = λ k. absurd (false≢true (ap wants k)) }
sorted old new (Refused error.Memory) is = record { cause = tt; wanted = λ k. refl }

-- ---- faults by the kind

pub no_failed_read : (old new : Opening) (kind : Kind) → CauseBy old new kind → old.steady ≡ true → is_failed_read kind ≡ false
no_failed_read old new Ruled cause steady = refl
no_failed_read old new FailedRead cause steady = absurd (true≢false (sym steady ∙ cause.1))
no_failed_read old new FailedWrite cause steady = refl
no_failed_read old new Mismatched cause steady = refl
no_failed_read old new Wanted cause steady = refl

pub no_failed_write : (old new : Opening) (kind : Kind) → CauseBy old new kind → old.sound ≡ true → is_failed_write kind ≡ false
no_failed_write old new Ruled cause sound = refl
no_failed_write old new FailedRead cause sound = refl
no_failed_write old new FailedWrite cause sound = absurd (true≢false (sym sound ∙ cause.1))
no_failed_write old new Mismatched cause sound = refl
no_failed_write old new Wanted cause sound = refl

-- a count of 64 bits that rose once more
counted_up : (first n before now : ℕ) → counted_more first n ≤ before → Rose before now → counted_more first (n + 1) ≤ now
counted_up first n before now so_far rose = ⊎_elim (λ more. omega (arith, so_far, more)) (λ end. omega (arith, so_far, end)) rose

pub reads_counted : (old new : Opening) (kind : Kind) (first n m : ℕ) → CauseBy old new kind → (is_failed_read kind ≡ true → m ≡ n + 1) → (is_failed_read kind ≡ false → m ≡ n)
    → counted_more first n ≤ old.read_faults → old.read_faults ≤ new.read_faults → counted_more first m ≤ new.read_faults
reads_counted old new FailedRead first n m cause one none so_far le =
    subst (λ (k : ℕ). counted_more first k ≤ new.read_faults) (sym (one refl)) (counted_up first n old.read_faults new.read_faults so_far cause.0)
reads_counted old new Ruled first n m cause one none so_far le = let same : m ≡ n = none refl in omega (arith, same, so_far, le)
reads_counted old new FailedWrite first n m cause one none so_far le = let same : m ≡ n = none refl in omega (arith, same, so_far, le)
reads_counted old new Mismatched first n m cause one none so_far le = let same : m ≡ n = none refl in omega (arith, same, so_far, le)
reads_counted old new Wanted first n m cause one none so_far le = let same : m ≡ n = none refl in omega (arith, same, so_far, le)

pub writes_counted : (old new : Opening) (kind : Kind) (first n m : ℕ) → CauseBy old new kind → (is_failed_write kind ≡ true → m ≡ n + 1) → (is_failed_write kind ≡ false → m ≡ n)
    → counted_more first n ≤ old.write_faults → old.write_faults ≤ new.write_faults → counted_more first m ≤ new.write_faults
writes_counted old new FailedWrite first n m cause one none so_far le =
    subst (λ (k : ℕ). counted_more first k ≤ new.write_faults) (sym (one refl)) (counted_up first n old.write_faults new.write_faults so_far cause.0)
writes_counted old new Ruled first n m cause one none so_far le = let same : m ≡ n = none refl in omega (arith, same, so_far, le)
writes_counted old new FailedRead first n m cause one none so_far le = let same : m ≡ n = none refl in omega (arith, same, so_far, le)
writes_counted old new Mismatched first n m cause one none so_far le = let same : m ≡ n = none refl in omega (arith, same, so_far, le)
writes_counted old new Wanted first n m cause one none so_far le = let same : m ≡ n = none refl in omega (arith, same, so_far, le)

pub unless_failed : {P : Type 0} (kind : Kind) → is_failed_write kind ≡ false → UnlessFailedWrite kind P → P
unless_failed Ruled none p = p
unless_failed FailedRead none p = p
unless_failed FailedWrite none p = absurd (true≢false none)
unless_failed Mismatched none p = p
unless_failed Wanted none p = p

-- ---- the state that a call leaves, by its kind

not_some : {X : Type 0} (o : Option X) → o ≡ None → is_some o ≡ true → ⊥
not_some o none some = true≢false (sym some ∙ ap is_some none)

pub none_of : {X : Type 0} (o : Option X) → is_some o ≡ false → o ≡ None
none_of None is = refl
none_of (Some x) is = absurd (true≢false is)

module _ (rules : Rules) (old new : StoreState) (who : ℕ) (operation : Operation) (reply : Reply) where
  abbrev outcome : Bool → Outcome
  outcome stopped = if stopped then refuses old error.Stopped else refused_or rules old who operation (first_refusal (rules.checks old who operation))

  stopped_step : is_some old.doubt ≡ true → step rules old who operation ≡ refuses old error.Stopped
  stopped_step is = ap outcome is

  -- a store that is stopped stays so, and no device of it fails
  pub stays_stopped : (kind : Kind) → is_some old.doubt ≡ true → LeadsTo rules old (answered who operation reply) new kind → is_some new.doubt ≡ true
  stays_stopped Ruled stopped leads = let same : new ≡ old = ap (λ (o : Outcome). o.state) (sym leads ∙ stopped_step stopped) in ap (λ (s : StoreState). is_some s.doubt) same ∙ stopped
  stays_stopped FailedRead stopped leads = absurd (not_some old.doubt leads.0 stopped)
  stays_stopped FailedWrite stopped leads = absurd (not_some old.doubt leads.0 stopped)
  stays_stopped Mismatched stopped leads = absurd leads
  stays_stopped Wanted stopped leads = ap (λ (s : StoreState). is_some s.doubt) leads ∙ stopped

  pub no_read_of_stopped : (kind : Kind) → is_some old.doubt ≡ true → LeadsTo rules old (answered who operation reply) new kind → is_failed_read kind ≡ false
  no_read_of_stopped Ruled stopped leads = refl
  no_read_of_stopped FailedRead stopped leads = absurd (not_some old.doubt leads.0 stopped)
  no_read_of_stopped FailedWrite stopped leads = refl
  no_read_of_stopped Mismatched stopped leads = refl
  no_read_of_stopped Wanted stopped leads = refl

  -- a failed write stops a store
  pub stops : (kind : Kind) → is_failed_write kind ≡ true → LeadsTo rules old (answered who operation reply) new kind → is_some new.doubt ≡ true
  stops FailedWrite is leads = ap (λ (o : Outcome). is_some o.state.doubt) leads.2
  stops Ruled is leads = absurd (false≢true is)
  stops FailedRead is leads = absurd (false≢true is)
  stops Mismatched is leads = absurd (false≢true is)
  stops Wanted is leads = absurd (false≢true is)

  -- a call that ended by the rules, or by a fault, is a step
  pub steps_by : (kind : Kind) → (kind ≡ Wanted → ⊥) → LeadsTo rules old (answered who operation reply) new kind → Steps rules old who operation (record { state = new; reply = reply })
  steps_by Ruled never leads = inl (sym leads)
  steps_by FailedRead never leads = inr (inl leads)
  steps_by FailedWrite never leads = inr (inr leads)
  steps_by Mismatched never leads = absurd leads
  steps_by Wanted never leads = absurd (never refl)

-- ---- another caller's set stands in the way

after_busy : (state : StoreState) (operation : Operation) (owner : ℕ) → after_refusal state operation (error.Busy owner) ≡ state
after_busy state (Get key) owner = refl
after_busy state (Part key offset count) owner = refl
after_busy state (Info key) owner = refl
after_busy state (Set key value flags) owner = refl
after_busy state (Remove key) owner = refl
after_busy state (RemoveStart key) owner = refl
after_busy state (Start key size flags) owner = refl
after_busy state (Add value) owner = refl
after_busy state Finish owner = refl
after_busy state Abort owner = refl
after_busy state (OpenIterator n prefix) owner = refl
after_busy state (Next n) owner = refl
after_busy state (CloseIterator n) owner = refl
after_busy state Reset owner = refl

abbrev error_in : Reply → KvError
error_in (Refused e) = e
error_in Done = error.Stopped
error_in (Value l) = error.Stopped
error_in (Facts n flags) = error.Stopped
error_in (Found l) = error.Stopped
error_in End = error.Stopped

module _ (rules : Rules) (are : AreRules rules) (old new : StoreState) (who : ℕ) (operation : Operation) (owner : ℕ) where
  busy_by : (stopped : Bool) (found : Option KvError)
      → (if stopped then refuses old error.Stopped else refused_or rules old who operation found) ≡ record { state = new; reply = Refused (error.Busy owner) }
      → (new ≡ old) × (stopped ≡ false)
  busy_by true found is = absurd (false≢true (ap (λ (o : Outcome). is_busy o.reply) is))
  busy_by false (Some e) is =
      let same : e ≡ error.Busy owner = ap (λ (o : Outcome). error_in o.reply) is in
      (sym (ap (λ (o : Outcome). o.state) is) ∙ ap (after_refusal old operation) same ∙ after_busy old operation owner, refl)
  busy_by false None is =
      absurd (true≢false (sym (ap (λ (o : Outcome). is_refusal o.reply) is) ∙ are.grants old who operation))

  -- the store is running, and stays as it was
  pub busy_stays : step rules old who operation ≡ record { state = new; reply = Refused (error.Busy owner) } → (new ≡ old) × (old.doubt ≡ None)
  busy_stays is =
      let found = busy_by (is_some old.doubt) (first_refusal (rules.checks old who operation)) is in
      (found.0, none_of old.doubt found.1)
