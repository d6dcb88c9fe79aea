-- A value is read by an info and then a read of its size: together they are one step.
use Rattle.std.proofs.Common.{◌≡◌, ℕ, ◌+◌, ◌-◌, ◌<◌, ◌≤◌, Bool, true, false, nat_lt, List, [], ◌∷◌, ◌++◌, length, length-drop, take, drop, Option, Some, None, refl, sym, ◌∙◌, ap, subst, inl, inr, arith}
use Rattle.std.specs.Prelude.{if◌then◌else◌, is_some, min, IsTrue}
use Rattle.std.proofs.lemmas.Bool.Decides.{nat_tests}
use Rattle.std.proofs.lemmas.List.{take_all, take_min}
use mathlib.Core.Bool.{false≢true, true≢false}
use Rattle.std.specs.Option.{ForSome}
use Rattle.kv_model.specs.declared.error.KvError.{KvError}
use Rattle.kv_model.specs.declared.error.KvError.TheVariants as error
use Rattle.kv_model.specs.declared.call.Reply.{Reply}
use Rattle.kv_model.specs.declared.call.Reply.TheVariants.{Done, Value, Facts, Found, End, Refused}
use Rattle.kv_model.specs.declared.flags.Flags.{Flags}
use Rattle.kv_model.specs.Checks.{Check, Refuses, first_refusal, may_fail_reading, may_fail_writing}
use Rattle.kv_model.specs.FlaggedMap.{FlaggedMap}
use Rattle.kv_model.specs.Constants.{Constants}
use Rattle.kv_model.specs.StoreState.{StoreState}
use Rattle.kv_model.specs.Operations.{Operation, Get, Part, Info}
use Rattle.kv_model.specs.Opening.{Log, Opening}
use Rattle.kv_model.specs.Rules.{AreRules, Outcome, Rules, after_refusal, refused_or, refuses, step}
use Rattle.kv_model.specs.Kv.{Answered, Clock, Does, IsCause, Keeps, Kind, KvState, LeadsTo, TellsOnly, UnlessFailedWrite, answered, kind_of, may_end, Ruled, FailedRead, FailedWrite, Mismatched, Wanted}
use Rattle.kv_model.specs.LogStep.{LogFollows}
use Rattle.base_core.proofs.CountLemmas.{Rose-since}
use Rattle.kv_model.proofs.CheckLemmas.{first_refusal-behind, first_refusal-some, may_fail_reading-behind, may_fail_writing-behind}

abbrev as_reply : Reply → Reply
as_reply reply = reply

module _ (rules : Rules) (are : AreRules rules) (state : StoreState) (who : ℕ) (key : List ℕ) where
  abbrev pub bytes : List ℕ
  bytes = (are.held state key).bytes

  abbrev outcome : Option KvError → Operation → Outcome
  outcome found operation = if is_some state.doubt then refuses state error.Stopped else refused_or rules state who operation found

  -- the info found the value
  pub record Passed : Type 0 where
    pub running : is_some state.doubt ≡ false
    pub none : first_refusal (rules.checks state who (Info key)) ≡ None

  info_passed : (stopped : Bool) (found : Option KvError) (after : StoreState) (size : ℕ) (flags : Flags)
      → (if stopped then refuses state error.Stopped else refused_or rules state who (Info key) found) ≡ record { state = after; reply = Facts size flags }
      → (stopped ≡ false) × (found ≡ None) × (rules.effect state who (Info key) ≡ record { state = after; reply = Facts size flags })
  info_passed true found after size flags is = let same : Refused error.Stopped ≡ Facts size flags = ap (λ (o : Outcome). o.reply) is in absurd (cc)
  info_passed false (Some e) after size flags is = let same : Refused e ≡ Facts size flags = ap (λ (o : Outcome). o.reply) is in absurd (cc)
  info_passed false None after size flags is = (refl, refl, is)

  -- a step of a call that nothing stops
  step_is : (operation : Operation) (found : Option KvError) → is_some state.doubt ≡ false → first_refusal (rules.checks state who operation) ≡ found
      → step rules state who operation ≡ refused_or rules state who operation found
  step_is operation found running first =
      ap (λ (b : Bool). if b then refuses state error.Stopped else refused_or rules state who operation (first_refusal (rules.checks state who operation))) running
      ∙ ap (refused_or rules state who operation) first

  -- what an info that answered says
  pub record Told (after : StoreState) (size : ℕ) : Type 0 where
    pub passed : Passed
    pub same : after ≡ state
    pub size_is : size ≡ length bytes

  abbrev facts_size : Reply → ℕ
  facts_size (Facts n flags) = n
  facts_size reply = 0

  pub told_by : (after : StoreState) (size : ℕ) (flags : Flags) → step rules state who (Info key) ≡ record { state = after; reply = Facts size flags } → Told after size
  told_by after size flags is =
      let found = info_passed (is_some state.doubt) (first_refusal (rules.checks state who (Info key))) after size flags is in
      let effect = sym found.2 ∙ are.info_reply state who key in
      record {
        passed = record { running = found.0; none = found.1 };
        same = ap (λ (o : Outcome). o.state) effect;
        size_is = ap (λ (o : Outcome). facts_size o.reply) effect;
      }

  -- ---- reading a part of the value that an info found

  abbrev no_such_part : ℕ → List Check
  no_such_part offset = Refuses (nat_lt (length bytes) offset) error.InvalidSize ∷ []

  part_first : (offset count : ℕ) → Passed → first_refusal (rules.checks state who (Part key offset count)) ≡ first_refusal (no_such_part offset)
  part_first offset count passed =
      ap first_refusal (are.part_checks state who key offset count) ∙ first_refusal-behind (rules.checks state who (Info key)) (no_such_part offset) passed.none

  beyond : (large : Bool) → large ≡ true → (if large then Some error.InvalidSize else None) ≡ Some error.InvalidSize
  beyond true is = refl
  beyond false is = absurd (true≢false (sym is))

  within : (large : Bool) → large ≡ false → (if large then Some error.InvalidSize else None) ≡ None
  within true is = absurd (true≢false is)
  within false is = refl

  part_beyond : (offset count : ℕ) → Passed → nat_lt (length bytes) offset ≡ true → step rules state who (Part key offset count) ≡ refuses state error.InvalidSize
  part_beyond offset count passed large =
      step_is (Part key offset count) (Some error.InvalidSize) passed.running (part_first offset count passed ∙ beyond (nat_lt (length bytes) offset) large)

  part_within : (offset count : ℕ) → Passed → nat_lt (length bytes) offset ≡ false
      → step rules state who (Part key offset count) ≡ record { state = state; reply = Value (take count (drop offset bytes)) }
  part_within offset count passed fits =
      step_is (Part key offset count) None passed.running (part_first offset count passed ∙ within (nat_lt (length bytes) offset) fits)
      ∙ are.part_reply state who key offset count

  -- Two operations are one to the store: the same step, and the same places at which a device may fail.
  pub record AreAlike (one other : Operation) : Type 0 where
    pub step_is_same : step rules state who one ≡ step rules state who other
    pub reads_alike : may_fail_reading (rules.checks state who one) ≡ may_fail_reading (rules.checks state who other)
    pub writes_alike : may_fail_writing (rules.checks state who one) ≡ may_fail_writing (rules.checks state who other)

  reads_as_info : (offset count : ℕ) → may_fail_reading (rules.checks state who (Part key offset count)) ≡ may_fail_reading (rules.checks state who (Info key))
  reads_as_info offset count =
      ap may_fail_reading (are.part_checks state who key offset count) ∙ may_fail_reading-behind (rules.checks state who (Info key)) (nat_lt (length bytes) offset) error.InvalidSize

  writes_as_info : (offset count : ℕ) → may_fail_writing (rules.checks state who (Part key offset count)) ≡ may_fail_writing (rules.checks state who (Info key))
  writes_as_info offset count =
      ap may_fail_writing (are.part_checks state who key offset count) ∙ may_fail_writing-behind (rules.checks state who (Info key)) (nat_lt (length bytes) offset) error.InvalidSize

  -- as many bytes as there are and are wanted
  same_bytes : (xs : List ℕ) (n count : ℕ) → n ≡ min count (length xs) → take n xs ≡ take count xs
  same_bytes xs n count is = ap (λ (k : ℕ). take k xs) is ∙ take_min count xs

  same_part : (offset n count : ℕ) (large : Bool) → nat_lt (length bytes) offset ≡ large → Passed → n ≡ min count (length (drop offset bytes))
      → step rules state who (Part key offset n) ≡ step rules state who (Part key offset count)
  same_part offset n count true is passed least = part_beyond offset n passed is ∙ sym (part_beyond offset count passed is)
  same_part offset n count false is passed least =
      part_within offset n passed is
      ∙ ap (λ (l : List ℕ). record { state = state; reply = Value l }) (same_bytes (drop offset bytes) n count least)
      ∙ sym (part_within offset count passed is)

  pub parts_alike : (offset n count : ℕ) → Passed → n ≡ min count (length (drop offset bytes)) → AreAlike (Part key offset n) (Part key offset count)
  parts_alike offset n count passed least = record {
    step_is_same = same_part offset n count (nat_lt (length bytes) offset) refl passed least;
    reads_alike = reads_as_info offset n ∙ sym (reads_as_info offset count);
    writes_alike = writes_as_info offset n ∙ sym (writes_as_info offset count);
  }

  whole_step : Passed → step rules state who (Get key) ≡ record { state = state; reply = Value bytes }
  whole_step passed =
      step_is (Get key) None passed.running (ap first_refusal (are.get_checks state who key) ∙ passed.none) ∙ are.get_reply state who key

  never_below_none : (n : ℕ) → nat_lt n 0 ≡ false
  never_below_none n = grind (arith, nat_tests)

  pub whole_alike : (n : ℕ) → Passed → n ≡ length bytes → AreAlike (Part key 0 n) (Get key)
  whole_alike n passed is = record {
    step_is_same = part_within 0 n passed (never_below_none (length bytes))
        ∙ ap (λ (l : List ℕ). record { state = state; reply = Value l }) (take_all n bytes (omega (arith, is)))
        ∙ sym (whole_step passed);
    reads_alike = reads_as_info 0 n ∙ ap may_fail_reading (sym (are.get_checks state who key));
    writes_alike = writes_as_info 0 n ∙ ap may_fail_writing (sym (are.get_checks state who key));
  }

  pub alike_leads : {one other : Operation} → AreAlike one other → (reply : Reply) (after : StoreState) (kind : Kind) → (kind ≡ FailedWrite → ⊥)
      → LeadsTo rules state (answered who one reply) after kind → LeadsTo rules state (answered who other reply) after kind
  alike_leads alike reply after Ruled reads leads = sym alike.step_is_same ∙ leads
  alike_leads alike reply after FailedRead reads leads = (leads.0, subst IsTrue alike.reads_alike leads.1, leads.2)
  alike_leads alike reply after FailedWrite reads leads = absurd (reads refl)
  alike_leads alike reply after Mismatched reads leads = leads
  alike_leads alike reply after Wanted reads leads = leads

  -- ---- an info that was refused refuses a read alike

  -- a get or a part of the key, with the checks of an info and none or one behind them
  pub record Reading (operation : Operation) : Type 0 where
    pub first : (e : KvError) → first_refusal (rules.checks state who (Info key)) ≡ Some e → first_refusal (rules.checks state who operation) ≡ Some e
    pub fails : may_fail_reading (rules.checks state who operation) ≡ may_fail_reading (rules.checks state who (Info key))
    pub stays : (e : KvError) → after_refusal state operation e ≡ state
    pub gives : (rules.effect state who operation).state ≡ state

  pub part_reading : (offset count : ℕ) → Reading (Part key offset count)
  part_reading offset count = record {
    first = λ e is. ap first_refusal (are.part_checks state who key offset count) ∙ first_refusal-some (rules.checks state who (Info key)) (no_such_part offset) e is;
    fails = reads_as_info offset count;
    stays = λ e. refl;
    gives = ap (λ (o : Outcome). o.state) (are.part_reply state who key offset count);
  }

  pub get_reading : Reading (Get key)
  get_reading = record {
    first = λ e is. ap first_refusal (are.get_checks state who key) ∙ is;
    fails = ap may_fail_reading (are.get_checks state who key);
    stays = λ e. refl;
    gives = ap (λ (o : Outcome). o.state) (are.get_reply state who key);
  }

  refused_alike : {operation : Operation} → Reading operation → (stopped : Bool) (found : Option KvError) (after : StoreState) (e : KvError)
      → is_some state.doubt ≡ stopped → first_refusal (rules.checks state who (Info key)) ≡ found
      → (if stopped then refuses state error.Stopped else refused_or rules state who (Info key) found) ≡ record { state = after; reply = Refused e }
      → step rules state who operation ≡ record { state = after; reply = Refused e }
  refused_alike {operation} reading true found after e running first is =
      ap (λ (b : Bool). if b then refuses state error.Stopped else refused_or rules state who operation (first_refusal (rules.checks state who operation))) running ∙ is
  refused_alike {operation} reading false (Some f) after e running first is =
      step_is operation (Some f) running (reading.first f first) ∙ ap (λ (s : StoreState). refuses s f) (reading.stays f) ∙ is
  refused_alike {operation} reading false None after e running first is =
      let effect : as_reply (Facts (length bytes) (record { bits = (are.held state key).flags })) ≡ as_reply (Refused e) =
      ap (λ (o : Outcome). o.reply) (sym (are.info_reply state who key) ∙ is) in
      absurd (cc)

  pub refused_leads : {operation : Operation} → Reading operation → (after : StoreState) (e : KvError) (kind : Kind) → (kind ≡ FailedWrite → ⊥)
      → LeadsTo rules state (answered who (Info key) (Refused e)) after kind → LeadsTo rules state (answered who operation (Refused e)) after kind
  refused_leads reading after e Ruled reads leads = refused_alike reading (is_some state.doubt) (first_refusal (rules.checks state who (Info key))) after e refl refl leads
  refused_leads reading after e FailedRead reads leads = (leads.0, subst IsTrue (sym reading.fails) leads.1, leads.2)
  refused_leads reading after e FailedWrite reads leads = absurd (reads refl)
  refused_leads reading after e Mismatched reads leads = leads
  refused_leads reading after e Wanted reads leads = leads

  pub info_reading : Reading (Info key)
  info_reading = record {
    first = λ e is. is;
    fails = refl;
    stays = λ e. refl;
    gives = ap (λ (o : Outcome). o.state) (are.info_reply state who key);
  }

  stays_by : {operation : Operation} → Reading operation → (stopped : Bool) (found : Option KvError)
      → (if stopped then refuses state error.Stopped else refused_or rules state who operation found).state ≡ state
  stays_by reading true found = refl
  stays_by reading false (Some e) = reading.stays e
  stays_by reading false None = reading.gives

  -- reading changes no state
  pub step_stays : {operation : Operation} → Reading operation → (step rules state who operation).state ≡ state
  step_stays {operation} reading = stays_by reading (is_some state.doubt) (first_refusal (rules.checks state who operation))

-- ---- whole calls

-- a log that stands follows each refusal
pub refused_follows : (constants : Constants) (state : StoreState) (log : Log) (operation : Operation) (e : KvError) → LogFollows constants state log log operation (Refused e)
refused_follows constants state log operation error.ReadFault = refl
refused_follows constants state log operation (error.Corrupt stored computed) = refl
refused_follows constants state log operation e = refl

-- such an operation leaves the log where it is done
pub record KeepsLog (operation : Operation) : Type 0 where
  pub to : (constants : Constants) (state : StoreState) (old new : Log) → LogFollows constants state old new operation Done → new ≡ old
  pub back : (constants : Constants) (state : StoreState) (old new : Log) → new ≡ old → LogFollows constants state old new operation Done

-- it leaves it whole by every answer of the rules
pub log_stands : (operation : Operation) → KeepsLog operation → (constants : Constants) (state : StoreState) (old new : Log) (reply : Reply) → kind_of reply ≡ Ruled
    → LogFollows constants state old new operation reply → new ≡ old
log_stands operation keeps constants state old new Done ruled follows = keeps.to constants state old new follows
log_stands operation keeps constants state old new (Value l) ruled follows = follows
log_stands operation keeps constants state old new (Facts n flags) ruled follows = follows
log_stands operation keeps constants state old new (Found l) ruled follows = follows
log_stands operation keeps constants state old new End ruled follows = follows
log_stands operation keeps constants state old new (Refused error.ReadFault) ruled follows = let is : FailedRead ≡ Ruled = ruled in absurd (cc)
log_stands operation keeps constants state old new (Refused (error.Corrupt stored computed)) ruled follows = let is : Mismatched ≡ Ruled = ruled in absurd (cc)
log_stands operation keeps constants state old new (Refused e) ruled follows = follows

-- what one such operation does to the log behind another call that left it, the other does too
log_carried : (one other : Operation) → KeepsLog one → KeepsLog other → (first second : Constants) (state : StoreState) (old mid new : Log) (reply : Reply) → mid ≡ old
    → LogFollows second state mid new one reply → LogFollows first state old new other reply
log_carried one other to back first second state old mid new Done same follows = back.back first state old new (to.to second state mid new follows ∙ same)
log_carried one other to back first second state old mid new (Value l) same follows = follows ∙ same
log_carried one other to back first second state old mid new (Facts n flags) same follows = follows ∙ same
log_carried one other to back first second state old mid new (Found l) same follows = follows ∙ same
log_carried one other to back first second state old mid new End same follows = follows ∙ same
log_carried one other to back first second state old mid new (Refused error.ReadFault) same follows = follows ∙ (λ i. record (same i) { other = new.other })
log_carried one other to back first second state old mid new (Refused (error.Corrupt stored computed)) same follows = follows ∙ (λ i. record (same i) { other = new.other })
log_carried one other to back first second state old mid new (Refused e) same follows = follows ∙ same

pub part_log : (key : List ℕ) (offset count : ℕ) → KeepsLog (Part key offset count)
part_log key offset count = record { to = λ constants state old new same. same; back = λ constants state old new same. same }

pub get_log : (key : List ℕ) → KeepsLog (Get key)
get_log key = record { to = λ constants state old new same. same; back = λ constants state old new same. same }

pub info_log : (key : List ℕ) → KeepsLog (Info key)
info_log key = record { to = λ constants state old new same. same; back = λ constants state old new same. same }

some_of : {X : Type 0} (o : Option X) → is_some o ≡ true → (x : X) × (o ≡ Some x)
some_of None is = absurd (true≢false (sym is))
some_of (Some x) is = (x, refl)

is_told : {X : Type 0} (o : Option X) (x : X) → o ≡ Some x → is_some o ≡ true
is_told o x is = ap is_some is

pub Keeps-trans : {old mid new : KvState} → Keeps old mid → Keeps mid new → Keeps old new
Keeps-trans first second = record {
  constants = second.constants ∙ first.constants;
  labels = second.labels ∙ first.labels;
  tells_state = second.tells_state ∙ first.tells_state;
  tells_log = second.tells_log ∙ first.tells_log;
  tells_moments = second.tells_moments ∙ first.tells_moments;
  read_faults = omega (arith, first.read_faults, second.read_faults);
  write_faults = omega (arith, first.write_faults, second.write_faults);
  sound = λ sound. second.sound (first.sound sound);
}

pub TellsOnly-trans : {old mid new : Clock} {before after : FlaggedMap} → TellsOnly old mid before after → TellsOnly mid new before after → TellsOnly old new before after
TellsOnly-trans first second = record {
  moment = omega (arith, first.moment, second.moment);
  told = λ t map early later. elim (second.told t map (omega (arith, early, first.moment)) later) [
    | inl earlier ↦ first.told t map early earlier
    | inr one ↦ inr one
  ];
}

false_before : (old mid : Bool) → (old ≡ true → mid ≡ true) → mid ≡ false → old ≡ false
false_before true mid kept not_now = absurd (true≢false (sym (kept refl) ∙ not_now))
false_before false mid kept not_now = refl

none_before : {X : Type 0} (old mid : Option X) → is_some mid ≡ is_some old → mid ≡ None → old ≡ None
none_before None mid same none = refl
none_before (Some x) mid same none = absurd (true≢false (sym same ∙ ap is_some none))

-- what a second call answers has its cause in both
cause_before : (old mid new : KvState) → Keeps old mid → (old.known.steady ≡ true → mid.known.steady ≡ true) → (reply : Reply) → IsCause mid.known new.known reply → IsCause old.known new.known reply
cause_before old mid new keeps steady Done cause = tt
cause_before old mid new keeps steady (Value l) cause = tt
cause_before old mid new keeps steady (Facts n flags) cause = tt
cause_before old mid new keeps steady (Found l) cause = tt
cause_before old mid new keeps steady End cause = tt
cause_before old mid new keeps steady (Refused error.NotFound) cause = tt
cause_before old mid new keeps steady (Refused error.InvalidKey) cause = tt
cause_before old mid new keeps steady (Refused error.InvalidFlags) cause = tt
cause_before old mid new keeps steady (Refused error.InvalidSize) cause = tt
cause_before old mid new keeps steady (Refused error.WriteProtected) cause = tt
cause_before old mid new keeps steady (Refused (error.MediaFull need room)) cause = tt
cause_before old mid new keeps steady (Refused error.TooManyIterators) cause = tt
cause_before old mid new keeps steady (Refused error.NoIterator) cause = tt
cause_before old mid new keeps steady (Refused error.SetOpen) cause = tt
cause_before old mid new keeps steady (Refused error.NoSet) cause = tt
cause_before old mid new keeps steady (Refused (error.Busy owner)) cause = tt
cause_before old mid new keeps steady (Refused error.Stopped) cause = tt
cause_before old mid new keeps steady (Refused error.ReadFault) cause = (Rose-since keeps.read_faults cause.0, false_before old.known.steady mid.known.steady steady cause.1)
cause_before old mid new keeps steady (Refused error.WriteFault) cause = (Rose-since keeps.write_faults cause.0, false_before old.known.sound mid.known.sound keeps.sound cause.1)
cause_before old mid new keeps steady (Refused (error.Corrupt stored computed)) cause = (cause.0, none_before old.known.state mid.known.state keeps.tells_state cause.1)
cause_before old mid new keeps steady (Refused error.AuthFailed) cause = tt
cause_before old mid new keeps steady (Refused error.RollbackFailed) cause = tt
cause_before old mid new keeps steady (Refused error.IvSpent) cause = tt
cause_before old mid new keeps steady (Refused error.Memory) cause = tt

-- what is said unless a write failed, of a call that does not write
unless : {P Q : Type 0} (kind : Kind) → (kind ≡ FailedWrite → ⊥) → (P → Q) → UnlessFailedWrite kind P → UnlessFailedWrite kind Q
unless Ruled reads then_q p = then_q p
unless FailedRead reads then_q p = then_q p
unless FailedWrite reads then_q p = p
unless Mismatched reads then_q p = then_q p
unless Wanted reads then_q p = then_q p

module _ (rules_by : Constants → Rules) (are_by : (constants : Constants) → AreRules (rules_by constants)) (who : ℕ) (key : List ℕ) where
  abbrev Reads : Operation → Type 0
  Reads operation = (constants : Constants) (state : StoreState) → Reading (rules_by constants) (are_by constants) state who key operation

  -- an info that was refused, as a read that was refused
  pub refused_does : (old new : KvState) (operation : Operation) (e : KvError) → (kind_of (Refused e) ≡ FailedWrite → ⊥) → Reads operation → KeepsLog operation
      → Does rules_by old new (answered who (Info key) (Refused e)) → Does rules_by old new (answered who operation (Refused e))
  refused_does old new operation e reads reading log does = record {
    keeps = does.keeps;
    cause = does.cause;
    steady = does.steady;
    leads = λ before is after later.
        refused_leads (rules_by old.known.constants) (are_by old.known.constants) before who key (reading old.known.constants before) after e (kind_of (Refused e)) reads (does.leads before is after later);
    log = λ before is first first_is last last_is. does.log before is first first_is last last_is;
    cuts = λ tells before is.
        let rules = rules_by old.known.constants in
        let are = are_by old.known.constants in
        let told = does.cuts tells before is in
        let same : (step rules before who (Info key)).state ≡ (step rules before who operation).state =
        step_stays rules are before who key (info_reading rules are before who key) ∙ sym (step_stays rules are before who key (reading old.known.constants before)) in
        subst (λ (after : StoreState). TellsOnly old.crash.primary new.crash.primary before.primary after.primary × TellsOnly old.crash.rollback new.crash.rollback before.rollback after.rollback) same told;
  }

  -- an info that answered, and then a read that is one with another
  pub then_does : (old mid new : KvState) (one other : Operation) (size : ℕ) (flags : Flags) (reply : Reply) → (kind_of reply ≡ FailedWrite → ⊥)
      → Reads one → Reads other → KeepsLog one → KeepsLog other
      → ((constants : Constants) (state : StoreState) → Told (rules_by constants) (are_by constants) state who key state size → AreAlike (rules_by constants) (are_by constants) state who key one other)
      → Does rules_by old mid (answered who (Info key) (Facts size flags)) → Does rules_by mid new (answered who one reply)
      → Does rules_by old new (answered who other reply)
  then_does old mid new one other size flags reply reads reading_one reading_other log_one log_other alike first second = record {
    keeps = Keeps-trans first.keeps second.keeps;
    cause = cause_before old mid new first.keeps first.steady reply second.cause;
    steady = λ steady. second.steady (first.steady steady);
    leads = λ before is after later.
        let constants = old.known.constants in
        let rules = rules_by constants in
        let there = some_of mid.known.state (first.keeps.tells_state ∙ is_told old.known.state before is) in
        let told = told_by rules (are_by constants) before who key there.0 size flags (first.leads before is there.0 there.1) in
        let stood : Told rules (are_by constants) before who key before size = record { passed = told.passed; same = refl; size_is = told.size_is } in
        let leads = second.leads before (there.1 ∙ ap (λ (s : StoreState). Some s) told.same) after later in
        let here : LeadsTo rules before (answered who one reply) after (kind_of reply) = subst (λ (c : Constants). LeadsTo (rules_by c) before (answered who one reply) after (kind_of reply)) first.keeps.constants leads in
        alike_leads rules (are_by constants) before who key (alike constants before stood) reply after (kind_of reply) reads here;
    log = λ before is log log_is last last_is.
        let constants = old.known.constants in
        let there = some_of mid.known.state (first.keeps.tells_state ∙ is_told old.known.state before is) in
        let mid_log = some_of mid.known.log (first.keeps.tells_log ∙ is_told old.known.log log log_is) in
        let told = told_by (rules_by constants) (are_by constants) before who key there.0 size flags (first.leads before is there.0 there.1) in
        let same : mid_log.0 ≡ log = first.log before is log log_is mid_log.0 mid_log.1 in
        let steps = second.log before (there.1 ∙ ap (λ (s : StoreState). Some s) told.same) mid_log.0 mid_log.1 last last_is in
        unless (kind_of reply) reads (log_carried one other log_one log_other constants mid.known.constants before log mid_log.0 last reply same) steps;
    cuts = λ tells before is.
        let constants = old.known.constants in
        let rules = rules_by constants in
        let are = are_by constants in
        let there = some_of mid.known.state (first.keeps.tells_state ∙ is_told old.known.state before is) in
        let told = told_by rules are before who key there.0 size flags (first.leads before is there.0 there.1) in
        let Both : KvState → KvState → StoreState → Type 0 = λ a b after.
        TellsOnly a.crash.primary b.crash.primary before.primary after.primary × TellsOnly a.crash.rollback b.crash.rollback before.rollback after.rollback in
        let one_stays = step_stays (rules_by mid.known.constants) (are_by mid.known.constants) before who key (reading_one mid.known.constants before) in
        let begun : Both old mid before = subst (Both old mid) (step_stays rules are before who key (info_reading rules are before who key)) (first.cuts tells before is) in
        let ended : Both mid new before = subst (Both mid new) one_stays (second.cuts (subst IsTrue (sym first.keeps.tells_moments) tells) before (there.1 ∙ ap (λ (s : StoreState). Some s) told.same)) in
        let whole : Both old new before = (TellsOnly-trans begun.0 ended.0, TellsOnly-trans begun.1 ended.1) in
        subst (Both old new) (sym (step_stays rules are before who key (reading_other constants before))) whole;
  }

-- a call that reads ends with no failed write
pub reads_only : (key : List ℕ) (offset count : ℕ) (kind : Kind) → IsTrue (may_end (Part key offset count) kind) → kind ≡ FailedWrite → ⊥
reads_only key offset count kind may is = false≢true (subst (λ (k : Kind). IsTrue (may_end (Part key offset count) k)) is may)

pub info_only : (key : List ℕ) (kind : Kind) → IsTrue (may_end (Info key) kind) → kind ≡ FailedWrite → ⊥
info_only key kind may is = false≢true (subst (λ (k : Kind). IsTrue (may_end (Info key) k)) is may)

pub rest_size : (bytes : List ℕ) (size offset count n rest : ℕ) → size ≡ length bytes → rest ≡ size - offset → n ≡ min count rest → n ≡ min count (length (drop offset bytes))
rest_size bytes size offset count n rest size_is rest_is least = least ∙ ap (min count) (rest_is ∙ ap (λ (k : ℕ). k - offset) size_is ∙ sym (length-drop offset bytes))
