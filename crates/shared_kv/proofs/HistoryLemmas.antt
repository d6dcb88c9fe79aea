-- How the history of a shared store goes on.
use Rattle.std.proofs.Common.{◌≡◌, ◌≢◌, ℕ, Bool, true, false, List, [], ◌∷◌, ◌++◌, Option, Some, None, Ok, Err, refl, sym, inl, inr, ◌∙◌, ap, subst, arith}
use Rattle.std.specs.Prelude.{is_some, MatchOption}
use Rattle.std.proofs.lemmas.Bool.{cases_lt}
use mathlib.Core.Bool.{false≢true, true≢false}
use Rattle.kv_model.specs.declared.error.KvError.TheVariants as error
use Rattle.kv_model.specs.declared.call.Call.{Call}
use Rattle.kv_model.specs.declared.call.Reply.{Reply}
use Rattle.kv_model.specs.declared.call.Reply.TheVariants.{Done, Refused}
use Rattle.kv_model.specs.declared.call.Entry.{Entry}
use Rattle.kv_model.specs.Constants.{Constants}
use Rattle.kv_model.specs.StoreState.{StoreState}
use Rattle.kv_model.specs.Opening.{Opening}
use Rattle.kv_model.specs.Operations.{Operation, operation_of}
use Rattle.kv_model.specs.Rules.{AreRules, Mounts, Outcome, Rules, Steps, step}
use Rattle.kv_model.specs.History.{Follows, Runs}
use Rattle.kv_model.specs.Kv.{Does, IsLawful, Keeps, Kind, KvState, LeadsTo, answered, kind_of}
use Rattle.kv_model.specs.Performs.{Performs}
use Rattle.kv_model.proofs.HistoryLemmas.{AreNumbered-push, runs_more}
use Rattle.base_core.specs.declared.no_memory.NoMemory.{NoMemory}
use Rattle.journal_core.specs.JournalState.{next_entry}
use Rattle.shared_kv.specs.Attempts.{IsBusyFor, IsBusyIn}
use Rattle.shared_kv.specs.Histories.{AreLed, IsCounted, IsHistory, IsLed, HasFewFaults, StandsFor, failed_reads, failed_writes, is_busy, is_failed_read, is_failed_write}
use Rattle.std.specs.Option.{ForSome}
use Rattle.shared_kv.proofs.CountLemmas.{is_counted, not_counted}
use Rattle.shared_kv.proofs.KindLemmas.{Sorted, busy_stays, no_failed_read, no_failed_write, no_read_of_stopped, reads_counted, sorted, stays_stopped, steps_by, stops, unless_failed, writes_counted}

pub some_of : {X : Type 0} (o : Option X) → is_some o ≡ true → (x : X) × (o ≡ Some x)
some_of None is = absurd (true≢false (sym is))
some_of (Some x) is = (x, refl)

told_too : {X Y : Type 0} (now : Option X) (first : Option Y) (y : Y) → is_some now ≡ is_some first → first ≡ Some y → (x : X) × (now ≡ Some x)
told_too now first y same is = some_of now (same ∙ ap is_some is)

follows_by : (rules : Rules) (old new : StoreState) (entry : Entry) (operation : Operation) → operation_of entry.call ≡ Some operation
    → Steps rules old entry.who operation (record { state = new; reply = entry.reply }) → Follows rules old entry new
follows_by rules old new entry operation is steps =
    subst (λ (o : Option Operation). MatchOption o ((entry.reply ≡ Done) × Mounts rules old new) (λ (op : Operation). Steps rules old entry.who op (record { state = new; reply = entry.reply }))) (sym is) steps

abbrev reads_of : Entry → Bool
reads_of e = is_failed_read (kind_of e.reply)

abbrev writes_of : Entry → Bool
writes_of e = is_failed_write (kind_of e.reply)

by_test : {P : Type 0} (b : Bool) → (b ≡ true → P) → (b ≡ false → P) → P
by_test true yes_p no_p = yes_p refl
by_test false yes_p no_p = no_p refl

led_more : (rules : Rules) (first mid last : StoreState) (entries : List Entry) (entry : Entry) → AreLed rules first entries mid → IsLed rules mid entry last
    → AreLed rules first (entries ++ entry ∷ []) last
led_more rules first mid last [] entry led is = (last, subst (λ (s : StoreState). IsLed rules s entry last) led is, refl)
led_more rules first mid last (e ∷ entries) entry led is = (led.0, led.1, led_more rules led.0 mid last entries entry led.2 is)

-- ---- one call more

module _ (rules_by : Constants → Rules) (old new : KvState) (lawful : IsLawful rules_by old) (opening : Opening) (entries : List Entry) (stands : StandsFor rules_by old.known entries opening) where
  module _ (who : ℕ) (call : Call) (operation : Operation) (reply : Reply) (is : operation_of call ≡ Some operation) (no_memory : reply ≢ Refused error.Memory) (not_busy : is_busy reply ≡ false) (does : Does rules_by old new (answered who operation reply)) where
    abbrev entry : Entry
    entry = next_entry entries who call reply

    abbrev kind : Kind
    kind = kind_of reply

    sort : Sorted old.known new.known reply kind
    sort = sorted old.known new.known reply does.cause

    -- the state before the call, and what the call makes of it
    leads : (before after : StoreState) → old.known.state ≡ Some before → new.known.state ≡ Some after → LeadsTo (rules_by opening.constants) before (answered who operation reply) after kind
    leads before after told later =
        subst (λ (c : Constants). LeadsTo (rules_by c) before (answered who operation reply) after kind) stands.constants (does.leads before told after later)

    runs : (first after : StoreState) → opening.state ≡ Some first → new.known.state ≡ Some after → Runs (rules_by opening.constants) first (entries ++ entry ∷ []) after
    runs first after told later =
        let rules = rules_by opening.constants in
        let there = told_too old.known.state opening.state first stands.tells told in
        let steps = steps_by rules there.0 after who operation reply kind (λ wanted. no_memory (sort.wanted wanted)) (leads there.0 after there.1 later) in
        runs_more rules first there.0 after entries entry (stands.runs first told there.0 there.1) (follows_by rules there.0 after entry operation is steps)

    led : (first after : StoreState) → opening.state ≡ Some first → new.known.state ≡ Some after → AreLed (rules_by opening.constants) first (entries ++ entry ∷ []) after
    led first after told later =
        let there = told_too old.known.state opening.state first stands.tells told in
        led_more (rules_by opening.constants) first there.0 after entries entry (stands.led first told there.0 there.1)
        (record { operation = operation; is = is; leads = leads there.0 after there.1 later; granted = λ wanted. no_memory (sort.wanted wanted) })

    few : HasFewFaults opening (entries ++ entry ∷ [])
    few = record {
      busy = not_counted (λ (e : Entry). is_busy e.reply) entries entry not_busy ∙ stands.faults.busy;
      sound = λ sound.
          let now = stands.sound sound in (
            not_counted reads_of entries entry (no_failed_read old.known new.known kind sort.cause (lawful.sound_is_steady now)) ∙ (stands.faults.sound sound).0,
            not_counted writes_of entries entry (no_failed_write old.known new.known kind sort.cause now) ∙ (stands.faults.sound sound).1,
          );
      steady = λ steady told.
          let before = some_of opening.state told in
          let there = told_too old.known.state opening.state before.0 stands.tells before.1 in
          let after = some_of new.known.state (does.keeps.tells_state ∙ ap is_some there.1) in
          let none : is_failed_read kind ≡ false = elim (cases_lt 0 (failed_writes entries)) [
            | inl some ↦ no_read_of_stopped (rules_by opening.constants) there.0 after.0 who operation reply kind (stands.counted.stopped some there.0 there.1) (leads there.0 after.0 there.1 after.1)
            | inr none ↦ no_failed_read old.known new.known kind sort.cause (stands.steady steady (omega (arith, none)))
          ] in
          not_counted reads_of entries entry none ∙ stands.faults.steady steady told;
    }

    counted : IsCounted opening new.known (entries ++ entry ∷ [])
    counted = record {
      reads = reads_counted old.known new.known kind opening.read_faults (failed_reads entries) (failed_reads (entries ++ entry ∷ [])) sort.cause
          (is_counted reads_of entries entry) (not_counted reads_of entries entry) stands.counted.reads does.keeps.read_faults;
      writes = writes_counted old.known new.known kind opening.write_faults (failed_writes entries) (failed_writes (entries ++ entry ∷ [])) sort.cause
          (is_counted writes_of entries entry) (not_counted writes_of entries entry) stands.counted.writes does.keeps.write_faults;
      stopped = λ some after later.
          let there = told_too old.known.state new.known.state after (sym does.keeps.tells_state) later in
          let rules = rules_by opening.constants in
          by_test (is_failed_write kind)
          (λ failed. stops rules there.0 after who operation reply kind failed (leads there.0 after there.1 later))
          (λ none.
          let same = not_counted writes_of entries entry none in
          stays_stopped rules there.0 after who operation reply kind (stands.counted.stopped (omega (arith, some, same)) there.0 there.1) (leads there.0 after there.1 later));
    }

    steady_so : opening.steady ≡ true → failed_writes (entries ++ entry ∷ []) ≡ 0 → new.known.steady ≡ true
    steady_so steady none =
        by_test (is_failed_write kind)
        (λ failed. let one = is_counted writes_of entries entry failed in absurd (omega (arith, one, none)))
        (λ fine. let same = not_counted writes_of entries entry fine in
        unless_failed kind fine (does.steady (stands.steady steady (sym same ∙ none))))

    pub one_more : StandsFor rules_by new.known (entries ++ entry ∷ []) opening
    one_more = record {
      constants = does.keeps.constants ∙ stands.constants;
      labels = does.keeps.labels ∙ stands.labels;
      tells = does.keeps.tells_state ∙ stands.tells;
      numbered = AreNumbered-push [] entries entry stands.numbered (refl, refl, tt);
      runs = λ first told after later. runs first after told later;
      led = λ first told after later. led first after told later;
      faults = few;
      counted = counted;
      sound = λ sound. does.keeps.sound (stands.sound sound);
      steady = steady_so;
    }

  -- ---- a call that left the state

  module _ (keeps : Keeps old new) (steady : old.known.steady ≡ true → new.known.steady ≡ true) (same : (before after : StoreState) → old.known.state ≡ Some before → new.known.state ≡ Some after → after ≡ before) where
    pub same_more : StandsFor rules_by new.known entries opening
    same_more = record {
      constants = keeps.constants ∙ stands.constants;
      labels = keeps.labels ∙ stands.labels;
      tells = keeps.tells_state ∙ stands.tells;
      numbered = stands.numbered;
      runs = λ first told after later.
          let there = told_too old.known.state opening.state first stands.tells told in
          subst (Runs (rules_by opening.constants) first entries) (sym (same there.0 after there.1 later)) (stands.runs first told there.0 there.1);
      led = λ first told after later.
          let there = told_too old.known.state opening.state first stands.tells told in
          subst (AreLed (rules_by opening.constants) first entries) (sym (same there.0 after there.1 later)) (stands.led first told there.0 there.1);
      faults = stands.faults;
      counted = record {
        reads = omega (arith, stands.counted.reads, keeps.read_faults);
        writes = omega (arith, stands.counted.writes, keeps.write_faults);
        stopped = λ some after later.
            let there = told_too old.known.state new.known.state after (sym keeps.tells_state) later in
            ap (λ (s : StoreState). is_some s.doubt) (same there.0 after there.1 later) ∙ stands.counted.stopped some there.0 there.1;
      };
      sound = λ sound. keeps.sound (stands.sound sound);
      steady = λ first none. steady (stands.steady first none);
    }

-- ---- a call by its name

abbrev Performed : (Constants → Rules) → KvState → KvState → ℕ → Option Operation → Reply → Type 0
Performed rules_by old new who found reply = MatchOption found ⊥ (λ (operation : Operation). Does rules_by old new (answered who operation reply))

module _ (rules_by : Constants → Rules) (old new : KvState) (lawful : IsLawful rules_by old) (opening : Opening) (entries : List Entry) where
  completed_by : (who : ℕ) (call : Call) (reply : Reply) (found : Option Operation) → operation_of call ≡ found → (reply ≢ Refused error.Memory) → is_busy reply ≡ false
      → Performed rules_by old new who found reply → StandsFor rules_by old.known entries opening
      → StandsFor rules_by new.known (entries ++ next_entry entries who call reply ∷ []) opening
  completed_by who call reply None is no_memory not_busy does stands = absurd does
  completed_by who call reply (Some operation) is no_memory not_busy does stands =
      one_more rules_by old new lawful opening entries stands who call operation reply is no_memory not_busy does

  -- a call that was performed and is noted
  pub completed : (who : ℕ) (call : Call) (reply : Reply) → (reply ≢ Refused error.Memory) → is_busy reply ≡ false
      → Performs rules_by old new who call (Ok reply) → StandsFor rules_by old.known entries opening
      → StandsFor rules_by new.known (entries ++ next_entry entries who call reply ∷ []) opening
  completed who call reply no_memory not_busy does stands = completed_by who call reply (operation_of call) refl no_memory not_busy does stands

-- ---- a call that left the state, by its name

pub record Left (rules_by : Constants → Rules) (old new : KvState) : Type 0 where
  pub keeps : Keeps old new
  pub steady : old.known.steady ≡ true → new.known.steady ≡ true
  pub same : (before after : StoreState) → old.known.state ≡ Some before → new.known.state ≡ Some after → after ≡ before

wanted_by : (rules_by : Constants → Rules) (old new : KvState) (who : ℕ) (found : Option Operation) → Performed rules_by old new who found (Refused error.Memory) → Left rules_by old new
wanted_by rules_by old new who None does = absurd does
wanted_by rules_by old new who (Some operation) does = record {
  keeps = does.keeps;
  steady = does.steady;
  same = λ before after told later. does.leads before told after later;
}

-- there was no memory for it
pub wanted : (rules_by : Constants → Rules) (old new : KvState) (who : ℕ) (call : Call) (none : NoMemory) → Performs rules_by old new who call (Err none) → Left rules_by old new
wanted rules_by old new who call none does = wanted_by rules_by old new who (operation_of call) does

pub record LeftBusy (rules_by : Constants → Rules) (old new : KvState) (who : ℕ) (call : Call) (owner : ℕ) : Type 0 where
  pub left : Left rules_by old new
  pub busy : IsBusyFor rules_by old.known who call owner

abbrev BusyBy : Rules → StoreState → ℕ → Option Operation → ℕ → Type 0
BusyBy rules state who found owner = (state.doubt ≡ None) × MatchOption found ⊥ (λ (operation : Operation). (step rules state who operation).reply ≡ Refused (error.Busy owner))

busy_in : (rules_by : Constants → Rules) (are_by : (constants : Constants) → AreRules (rules_by constants)) (old new : KvState) (who owner : ℕ) (found : Option Operation)
    → Performed rules_by old new who found (Refused (error.Busy owner))
    → Left rules_by old new × ((before after : StoreState) → old.known.state ≡ Some before → new.known.state ≡ Some after → BusyBy (rules_by old.known.constants) before who found owner)
busy_in rules_by are_by old new who owner None does = absurd does
busy_in rules_by are_by old new who owner (Some operation) does = (
  record {
    keeps = does.keeps;
    steady = does.steady;
    same = λ before after told later. (busy_stays (rules_by old.known.constants) (are_by old.known.constants) before after who operation owner (does.leads before told after later)).0;
  },
  (λ before after told later.
      let leads = does.leads before told after later in
      ((busy_stays (rules_by old.known.constants) (are_by old.known.constants) before after who operation owner leads).1, ap (λ (o : Outcome). o.reply) leads)),
)

-- another caller's set stood in its way
pub busy : (rules_by : Constants → Rules) (are_by : (constants : Constants) → AreRules (rules_by constants)) (old new : KvState) (who owner : ℕ) (call : Call)
    → Performs rules_by old new who call (Ok (Refused (error.Busy owner))) → LeftBusy rules_by old new who call owner
busy rules_by are_by old new who owner call does =
    let found = busy_in rules_by are_by old new who owner (operation_of call) does in
    record {
      left = found.0;
      busy = λ before told.
          let after = some_of new.known.state (found.0.keeps.tells_state ∙ ap is_some told) in
          found.1 before after.0 told after.1;
    }

same_option : (o n : Option StoreState) → is_some n ≡ is_some o → ((x y : StoreState) → o ≡ Some x → n ≡ Some y → y ≡ x) → n ≡ o
same_option None None told same = refl
same_option None (Some y) told same = absurd (true≢false told)
same_option (Some x) None told same = absurd (false≢true told)
same_option (Some x) (Some y) told same = ap (λ (s : StoreState). Some s) (same x y refl refl)

pub same_state : (rules_by : Constants → Rules) (old new : KvState) → Left rules_by old new → new.known.state ≡ old.known.state
same_state rules_by old new left = same_option old.known.state new.known.state left.keeps.tells_state left.same

pub left_stands : (rules_by : Constants → Rules) (old new : KvState) → IsLawful rules_by old → Left rules_by old new → (opening : Opening) (entries : List Entry)
    → StandsFor rules_by old.known entries opening → StandsFor rules_by new.known entries opening
left_stands rules_by old new lawful left opening entries stands = same_more rules_by old new lawful opening entries stands left.keeps left.steady left.same

-- ---- what a pass sees

pub history_of : (rules_by : Constants → Rules) (now : Opening) (entries : List Entry) (opening : Opening) → StandsFor rules_by now entries opening → IsHistory rules_by opening entries
history_of rules_by now entries opening stands = record {
  numbered = stands.numbered;
  legal = λ first told.
      let there = told_too now.state opening.state first stands.tells told in
      (there.0, record { numbered = stands.numbered; runs = stands.runs first told there.0 there.1 });
  faults = stands.faults;
}

abbrev pub BusyAfter : (Constants → Rules) → Opening → List Entry → ℕ → Call → ℕ → Type 0
BusyAfter rules_by opening entries who call owner = ForSome opening.state (λ before.
    (state : StoreState) × Runs (rules_by opening.constants) before entries state × IsBusyIn (rules_by opening.constants) state who call owner)

pub busy_after : (rules_by : Constants → Rules) (now : Opening) (entries : List Entry) (opening : Opening) (who owner : ℕ) (call : Call)
    → StandsFor rules_by now entries opening → IsBusyFor rules_by now who call owner → BusyAfter rules_by opening entries who call owner
busy_after rules_by now entries opening who owner call stands is = λ first told.
    let there = told_too now.state opening.state first stands.tells told in
    (there.0, stands.runs first told there.0 there.1, subst (λ (c : Constants). IsBusyIn (rules_by c) there.0 who call owner) stands.constants (is there.0 there.1))
