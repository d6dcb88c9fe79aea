-- A value that was read changes nothing, so want of memory may be answered in its place.
use Rattle.std.proofs.Common.{◌≡◌, ℕ, true, List, Ok, Err, sym, ◌∙◌, ap, subst}
use Rattle.std.specs.Prelude.{IsTrue}
use mathlib.Core.Bool.{false≢true}
use Rattle.base_core.specs.declared.no_memory.NoMemory.{NoMemory}
use Rattle.kv_model.specs.declared.error.KvError.TheVariants.{Memory}
use Rattle.kv_model.specs.declared.call.Call.{Call}
use Rattle.kv_model.specs.declared.call.Call.TheVariants as call
use Rattle.kv_model.specs.declared.call.Reply.{Reply}
use Rattle.kv_model.specs.declared.call.Reply.TheVariants.{Refused}
use Rattle.kv_model.specs.Constants.{Constants}
use Rattle.kv_model.specs.StoreState.{StoreState}
use Rattle.kv_model.specs.Operations.{Operation, Get, Part}
use Rattle.kv_model.specs.Rules.{AreRules, Outcome, Rules}
use Rattle.kv_model.specs.LogStep.{LogFollows}
use Rattle.kv_model.specs.Kv.{Does, Kind, KvState, LeadsTo, UnlessFailedWrite, answered, kind_of, Ruled}
use Rattle.kv_model.specs.Performs.{Performs}
use Rattle.kv_model.proofs.PerformLemmas.{KeepsLog, Reading, get_log, get_reading, log_stands, part_log, part_reading, step_stays}
use Rattle.shared_kv.specs.Twice.{reads_value}

module _ (rules_by : Constants → Rules) (are_by : (constants : Constants) → AreRules (rules_by constants)) (old new : KvState) (who : ℕ) (reply : Reply) (ruled : kind_of reply ≡ Ruled) where
  wanted : (key : List ℕ) (operation : Operation) → ((constants : Constants) (state : StoreState) → Reading (rules_by constants) (are_by constants) state who key operation) → KeepsLog operation
      → Does rules_by old new (answered who operation reply) → Does rules_by old new (answered who operation (Refused Memory))
  wanted key operation reading log does =
      let constants = old.known.constants in
      let rules = rules_by constants in
      record {
        keeps = does.keeps;
        cause = tt;
        steady = λ steady. subst (λ (k : Kind). UnlessFailedWrite k (new.known.steady ≡ true)) ruled (does.steady steady);
        leads = λ before is after later.
            let leads : LeadsTo rules before (answered who operation reply) after Ruled =
            subst (λ (k : Kind). LeadsTo rules before (answered who operation reply) after k) ruled (does.leads before is after later) in
            sym (ap (λ (o : Outcome). o.state) leads) ∙ step_stays rules (are_by constants) before who key (reading constants before);
        log = λ before is first first_is last last_is.
            let follows : LogFollows constants before first last operation reply =
            subst (λ (k : Kind). UnlessFailedWrite k (LogFollows constants before first last operation reply)) ruled (does.log before is first first_is last last_is) in
            log_stands operation log constants before first last reply ruled follows;
        cuts = does.cuts;
      }

  pub unread : (asked : Call) (none : NoMemory) → IsTrue (reads_value asked) → Performs rules_by old new who asked (Ok reply) → Performs rules_by old new who asked (Err none)
  unread (call.Get key) none reads does =
      wanted key (Get key) (λ constants state. get_reading (rules_by constants) (are_by constants) state who key) (get_log key) does
  unread (call.Part key offset count) none reads does =
      wanted key (Part key offset count) (λ constants state. part_reading (rules_by constants) (are_by constants) state who key offset count) (part_log key offset count) does
  unread (call.Info key) none reads does = absurd (false≢true reads)
  unread (call.Set key value flags) none reads does = absurd (false≢true reads)
  unread (call.Remove key) none reads does = absurd (false≢true reads)
  unread (call.Start key size flags) none reads does = absurd (false≢true reads)
  unread (call.Add value) none reads does = absurd (false≢true reads)
  unread call.Finish none reads does = absurd (false≢true reads)
  unread call.Abort none reads does = absurd (false≢true reads)
  unread (call.IterOpen n prefix) none reads does = absurd (false≢true reads)
  unread (call.Next n) none reads does = absurd (false≢true reads)
  unread (call.IterClose n) none reads does = absurd (false≢true reads)
  unread call.Reset none reads does = absurd (false≢true reads)
  unread call.Mount none reads does = absurd (false≢true reads)
