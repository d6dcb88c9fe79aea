-- What becomes of a session's power in a history that tells by its replies how its device failed.
use Rattle.std.proofs.Common.{◌≡◌, ◌≢◌, ℕ, ◌+◌, ◌<◌, ◌≤◌, Bool, true, false, cond, IsTrue, List, [], ◌∷◌, ◌++◌, map, refl, sym, ◌∙◌, ap, subst, arith}
use Rattle.std.specs.Prelude.{Option, Some, None, is_some, count_by}
use Rattle.std.specs.Option.{option_map_or}
use Rattle.std.proofs.lemmas.List.{append-nil}
use Rattle.std.proofs.lemmas.List.Sums.{sum_by-cons}
use mathlib.Core.Bool.{false≢true, true≢false}
use Rattle.kv_model.specs.declared.call.Entry.{Entry}
use Rattle.kv_model.specs.declared.call.Reply.{Reply}
use Rattle.kv_model.specs.declared.call.Reply.TheVariants.{Refused}
use Rattle.kv_model.specs.declared.error.KvError.TheVariants as error
use Rattle.kv_model.specs.Constants.{Constants}
use Rattle.kv_model.specs.Kv.{Kind, LeadsTo, answered, kind_of, Ruled, FailedRead, FailedWrite, Mismatched, Wanted}
use Rattle.kv_model.specs.Operations.{Operation, operation_of}
use Rattle.kv_model.specs.PlainStep.{plain_rules}
use Rattle.kv_model.specs.Checks.{first_refusal}
use Rattle.kv_model.specs.Rules.{Outcome, Rules, refused_or, refuses, step}
use Rattle.kv_model.specs.StoreState.{StoreState}
use Rattle.script_core.specs.declared.line.Act.{Act}
use Rattle.script_core.specs.declared.line.Line.{Line}
use Rattle.script_core.specs.LineOrder.{line_for}
use Rattle.shared_kv.specs.Histories.{AreLed, IsLed, StandsFor, failed_reads, failed_writes, is_failed_read, is_failed_write}
use Rattle.shared_kv.proofs.HistoryLemmas.{some_of}
use Rattle.session_core.specs.declared.session.Session.{Session}
use Rattle.session_core.specs.Backing.{session_rules}
use Rattle.session_core.specs.Power.{HasDevice, HasPower, LeavesPower, Power, Steady, Armed, Lost, Shows, ShowsCuts, acts_of, after_call, after_reply, is_armed, is_lost, is_write_fault, may_reply}
use Rattle.session_core.specs.Views.{state_in}
use Rattle.session_core.proofs.CutLemmas.{lost_by_fault, shows_cuts}
use Rattle.session_core.proofs.RunningLemmas.{runs_on, says_stop}
use Rattle.serve_core.specs.Serving.{ShowsPower}
use Rattle.serve_core.proofs.OwnsLemmas.{by_test}

not_none : {X P : Type 0} (o : Option X) → is_some o ≡ true → o ≡ None → P
not_none o some none = absurd (false≢true (sym (ap is_some none) ∙ some))

stopped_step : (rules : Rules) (state : StoreState) (who : ℕ) (operation : Operation) → is_some state.doubt ≡ true → step rules state who operation ≡ refuses state error.Stopped
stopped_step rules state who operation is =
    ap (λ (b : Bool). cond b (refuses state error.Stopped) (refused_or rules state who operation (first_refusal (rules.checks state who operation)))) is

-- ---- replies

-- a write that failed, by its reply and by its kind
same_fault : (reply : Reply) → is_failed_write (kind_of reply) ≡ is_write_fault reply
same_fault (Refused error.WriteFault) = refl
same_fault (Refused error.ReadFault) = refl
same_fault (Refused (error.Corrupt stored computed)) = refl
same_fault (Refused error.Memory) = refl
same_fault (Refused e) = refl
same_fault reply = refl

-- what the rules answer may be answered, where it is that a store is stopped only without power
may_ruled : (power : Power) (reply : Reply) → (says_stop reply ≡ true → is_lost power ≡ true) → kind_of reply ≡ Ruled → IsTrue (may_reply power reply)
may_ruled power (Refused error.Stopped) says ruled = says refl
may_ruled power (Refused error.ReadFault) says ruled = let is : FailedRead ≡ Ruled = ruled in absurd (cc)
may_ruled power (Refused error.WriteFault) says ruled = let is : FailedWrite ≡ Ruled = ruled in absurd (cc)
may_ruled power (Refused (error.Corrupt stored computed)) says ruled = let is : Mismatched ≡ Ruled = ruled in absurd (cc)
may_ruled power (Refused error.Memory) says ruled = let is : Wanted ≡ Ruled = ruled in absurd (cc)
may_ruled power (Refused e) says ruled = refl
may_ruled power reply says ruled = refl

after_other : (power : Power) (reply : Reply) → is_write_fault reply ≡ false → after_reply power reply ≡ power
after_other power reply other = ap (λ (b : Bool). cond b Lost power) other

after_fault : (power : Power) (reply : Reply) → is_write_fault reply ≡ true → after_reply power reply ≡ Lost
after_fault power reply is = ap (λ (b : Bool). cond b Lost power) is

-- ---- one entry

module _ (constants : Constants) (power : Power) (old new : StoreState) (who : ℕ) (operation : Operation) (reply : Reply) (doubt : is_some old.doubt ≡ is_lost power) where
  abbrev rules : Rules
  rules = plain_rules constants

  -- it may be answered so, and whether the store is stopped afterwards
  pub record Goes : Type 0 where
    pub may : IsTrue (may_reply power reply)
    pub doubt_after : is_some new.doubt ≡ is_lost (after_reply power reply)

  ruled : kind_of reply ≡ Ruled → LeadsTo rules old (answered who operation reply) new Ruled → Goes
  ruled is leads =
      let other : is_write_fault reply ≡ false = sym (same_fault reply) ∙ ap is_failed_write is in
      let stays : is_some old.doubt ≡ true → refuses old error.Stopped ≡ record { state = new; reply = reply } =
      λ stopped. sym (stopped_step rules old who operation stopped) ∙ leads in
      record {
        may = may_ruled power reply
            (λ says. by_test (is_some old.doubt)
            (λ stopped. sym doubt ∙ stopped)
            (λ running. absurd (false≢true (sym (runs_on constants old who operation (record { state = new; reply = reply }) running leads).reply ∙ says))))
            is;
        doubt_after =
            by_test (is_some old.doubt)
            (λ stopped. ap (λ (o : Outcome). is_some o.state.doubt) (sym (stays stopped)))
            (λ running. ap is_some (runs_on constants old who operation (record { state = new; reply = reply }) running leads).doubt)
            ∙ doubt ∙ sym (ap is_lost (after_other power reply other));
      }

  goes_by : (kind : Kind) → kind_of reply ≡ kind → LeadsTo rules old (answered who operation reply) new kind → (kind ≢ Wanted) → (is_lost power ≡ false → is_failed_read kind ≡ false)
      → (power ≡ Steady → is_failed_write kind ≡ false) → Goes
  goes_by Ruled is leads granted no_read no_write = ruled is leads
  goes_by FailedRead is leads granted no_read no_write = absurd (true≢false (no_read (sym doubt ∙ ap is_some leads.0)))
  goes_by FailedWrite is leads granted no_read no_write =
      let fault : reply ≡ Refused error.WriteFault = ap (λ (o : Outcome). o.reply) leads.2 in
      record {
        may = subst (λ (r : Reply). IsTrue (may_reply power r)) (sym fault) (is_cut power doubt no_write);
        doubt_after = ap (λ (o : Outcome). is_some o.state.doubt) leads.2 ∙ sym (ap is_lost (after_fault power reply (ap is_write_fault fault)));
      }
    where
      is_cut : (p : Power) → is_some old.doubt ≡ is_lost p → (p ≡ Steady → is_failed_write FailedWrite ≡ false) → IsTrue (may_reply p (Refused error.WriteFault))
      is_cut Steady stopped none = absurd (true≢false (none refl))
      is_cut Armed stopped none = refl
      is_cut Lost stopped none = not_none old.doubt stopped leads.0
  goes_by Mismatched is leads granted no_read no_write = absurd leads
  goes_by Wanted is leads granted no_read no_write = absurd (granted refl)

-- ---- all entries

abbrev acts : List Entry → List Act
acts entries = acts_of (map line_for entries)

-- the replies show what becomes of the power, and the store is stopped where it is lost
pub record Led (power : Power) (entries : List Entry) (new : StoreState) : Type 0 where
  pub final : Power
  pub shows : Shows power (acts entries) entries final
  pub doubt : is_some new.doubt ≡ is_lost final
  pub still : is_lost final ≡ false → (final ≡ power) × (failed_writes entries ≡ 0)

abbrev one_if : Bool → ℕ
one_if b = cond b 1 0

counted : (p : Entry → Bool) (e : Entry) (entries : List Entry) → count_by p (e ∷ entries) ≡ one_if (p e) + count_by p entries
counted p e entries = sum_by-cons (λ (x : Entry). cond (p x) 1 0) e entries

abbrev read_test : Entry → Bool
read_test e = is_failed_read (kind_of e.reply)

abbrev write_test : Entry → Bool
write_test e = is_failed_write (kind_of e.reply)

module _ (p : Entry → Bool) (e : Entry) (entries : List Entry) (none : count_by p (e ∷ entries) ≡ 0) where
  none_here : p e ≡ false
  none_here = by_test (p e) (λ is. let one : one_if (p e) ≡ 1 = ap one_if is in absurd (omega (arith, counted p e entries, one, none))) (λ other. other)

  none_behind : count_by p entries ≡ 0
  none_behind = omega (arith, counted p e entries, none)

module _ (constants : Constants) where
  led : (power : Power) (old new : StoreState) (entries : List Entry) → is_some old.doubt ≡ is_lost power → AreLed (plain_rules constants) old entries new
      → (is_lost power ≡ false → failed_reads entries ≡ 0) → (power ≡ Steady → failed_writes entries ≡ 0) → Led power entries new
  led power old new [] doubt leads no_reads no_writes = record {
    final = power;
    shows = refl;
    doubt = ap (λ (s : StoreState). is_some s.doubt) leads ∙ doubt;
    still = λ runs. (refl, refl);
  }
  led power old new (e ∷ entries) doubt leads no_reads no_writes =
      let one : IsLed (plain_rules constants) old e leads.0 = leads.1 in
      let next : Power = after_reply power e.reply in
      let goes = goes_by constants power old leads.0 e.who one.operation e.reply doubt (kind_of e.reply) refl one.leads one.granted
      (λ runs. none_here read_test e entries (no_reads runs)) (λ steady. none_here write_test e entries (no_writes steady)) in
      let kept : is_lost next ≡ false → (is_write_fault e.reply ≡ false) × (next ≡ power) =
      λ runs. by_test (is_write_fault e.reply)
      (λ fault. absurd (true≢false (sym (ap is_lost (after_fault power e.reply fault)) ∙ runs)))
      (λ other. (other, after_other power e.reply other)) in
      let rest = led next leads.0 new entries goes.doubt_after leads.2
      (λ runs. none_behind read_test e entries (no_reads (ap is_lost (sym (kept runs).1) ∙ runs)))
      (λ steady. none_behind write_test e entries (no_writes (sym (kept (ap is_lost steady)).1 ∙ steady))) in
      record {
        final = rest.final;
        shows = (
          goes.may,
          subst (λ (p : Power). Shows p (acts entries) entries rest.final)
              (sym (ap (λ (o : Option Operation). option_map_or (λ _. after_reply power e.reply) o Steady) one.is)) rest.shows,
        );
        doubt = rest.doubt;
        still = λ runs.
            let behind = rest.still runs in
            let here = kept (ap is_lost (sym behind.0) ∙ runs) in
            let none : one_if (write_test e) ≡ 0 = ap one_if (same_fault e.reply ∙ here.0) in
            (behind.0 ∙ here.1, omega (arith, counted write_test e entries, none, behind.1));
      }

-- ---- a session

module _ (old new : Session) (entries : List Entry) (stands : StandsFor session_rules (state_in new).known entries (state_in old).known) where
  no_read : (power : Power) → HasPower (state_in old) power → is_lost power ≡ false → failed_reads entries ≡ 0
  no_read Steady has runs = stands.faults.steady has.device.1 (ap is_some has.told)
  no_read Armed has runs = stands.faults.steady has.device (ap is_some has.told)
  no_read Lost has runs = absurd (true≢false runs)

  no_write : (power : Power) → HasPower (state_in old) power → power ≡ Steady → failed_writes entries ≡ 0
  no_write Steady has is = (stands.faults.sound has.device.0).1
  no_write Armed has is = absurd (true≢false (ap is_armed is))
  no_write Lost has is = absurd (true≢false (ap is_lost is))

  device_left : (power final : Power) → HasDevice (state_in old) power → (is_lost final ≡ false → (final ≡ power) × (failed_writes entries ≡ 0)) → HasDevice (state_in new) final
  device_left Steady Steady device still = (stands.sound device.0, stands.steady device.1 (still refl).1)
  device_left Armed Steady device still = absurd (false≢true (ap is_armed (still refl).0))
  device_left Lost Steady device still = absurd (false≢true (ap is_lost (still refl).0))
  device_left Steady Armed device still = absurd (true≢false (ap is_armed (still refl).0))
  device_left Armed Armed device still = stands.steady device (still refl).1
  device_left Lost Armed device still = absurd (false≢true (ap is_lost (still refl).0))
  device_left power Lost device still = tt

  pub shows_power : ShowsPower old new entries
  shows_power power has =
      let after = some_of (state_in new).known.state (stands.tells ∙ ap is_some has.told) in
      let leads = stands.led has.state has.told after.0 after.1 in
      let all = led (state_in old).known.constants power has.state after.0 entries has.stopped leads (no_read power has) (no_write power has) in (
        subst (λ (l : List Line). ShowsCuts power l entries) (append-nil (map line_for entries)) (shows_cuts power all.final (map line_for entries) [] entries all.shows),
        record {
          after = all.final;
          has = record { state = after.0; told = after.1; stopped = all.doubt; device = device_left power all.final has.device all.still };
          failed = λ runs lost. lost_by_fault power all.final (acts entries) entries all.shows runs lost;
        },
      )
