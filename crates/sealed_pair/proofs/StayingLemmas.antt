-- The calls of a walk leave the map of a store.
use Rattle.std.proofs.Common.{◌≡◌, ℕ, Bool, true, List, [], Option, Some, None, refl, sym, ◌∙◌, ap, subst}
use Rattle.std.specs.Prelude.{if◌then◌else◌, is_some, IsTrue}
use mathlib.Core.Bool.{false≢true}
use Rattle.kv_model.specs.declared.error.KvError.{KvError}
use Rattle.kv_model.specs.declared.error.KvError.TheVariants.{Stopped}
use Rattle.kv_model.specs.declared.call.Reply.{Reply}
use Rattle.kv_model.specs.Constants.{Constants}
use Rattle.kv_model.specs.FlaggedMap.{FlaggedMap}
use Rattle.kv_model.specs.StoreState.{StoreState}
use Rattle.kv_model.specs.Operations.{Operation, CloseIterator, Next, OpenIterator}
use Rattle.kv_model.specs.PlainStep.{plain_rules}
use Rattle.kv_model.specs.Rows.{advanced, position_of}
use Rattle.kv_model.specs.NextKey.{next_key}
use Rattle.kv_model.specs.Checks.{first_refusal}
use Rattle.kv_model.specs.Rules.{Outcome, Rules, refused_or, refuses, step}
use Rattle.kv_model.specs.Kv.{Answers, Kind, KvState, LeadsTo, TellsOnly, UnlessFailedWrite, answered, kind_of, may_end, Ruled, FailedRead, FailedWrite, Mismatched, Wanted}
use Rattle.kv_model.proofs.PerformLemmas.{Keeps-trans, TellsOnly-trans}
use Rattle.sealed_pair.specs.Reading.{HasRead, TellsPlain}
use Rattle.sealed_pair.specs.Walking.{HasStayed}
use Rattle.sealed_pair.proofs.PairLemmas.{read_none}
use Rattle.sealed_pair.proofs.ReadingLemmas.{some_of}

-- the calls of a walk
pub data Turning : Type 0 where
  Opens : Turning
  Gives : Turning
  Closes : Turning

abbrev pub operation_of : Turning → Operation
operation_of Opens = OpenIterator 0 []
operation_of Gives = Next 0
operation_of Closes = CloseIterator 0

module _ (constants : Constants) (state : StoreState) (who : ℕ) where
  -- a state with the same map that runs as well
  abbrev IsAlike : StoreState → Type 0
  IsAlike after = (after.primary ≡ state.primary) × (after.doubt ≡ state.doubt)

  advanced_alike : (found : Option (List ℕ)) → IsAlike (advanced state who 0 found).state
  advanced_alike None = (refl, refl)
  advanced_alike (Some key) = (refl, refl)

  refused_alike : (call : Turning) (found : Option KvError) → IsAlike (refused_or (plain_rules constants) state who (operation_of call) found).state
  refused_alike Opens (Some e) = (refl, refl)
  refused_alike Opens None = (refl, refl)
  refused_alike Gives (Some e) = (refl, refl)
  refused_alike Gives None = advanced_alike (next_key constants.hash_bits state.primary (position_of state who 0))
  refused_alike Closes (Some e) = (refl, refl)
  refused_alike Closes None = (refl, refl)

  abbrev found : Turning → Option KvError
  found call = first_refusal ((plain_rules constants).checks state who (operation_of call))

  running_is : (call : Turning) → state.doubt ≡ None
      → step (plain_rules constants) state who (operation_of call) ≡ refused_or (plain_rules constants) state who (operation_of call) (found call)
  running_is call running = ap (λ (b : Bool). if b then refuses state Stopped else refused_or (plain_rules constants) state who (operation_of call) (found call)) (ap is_some running)

  step_alike : (call : Turning) → state.doubt ≡ None → IsAlike (step (plain_rules constants) state who (operation_of call)).state
  step_alike call running = subst (λ (o : Outcome). IsAlike o.state) (sym (running_is call running)) (refused_alike call (found call))

  pub step_map : (call : Turning) → state.doubt ≡ None → (step (plain_rules constants) state who (operation_of call)).state.primary ≡ state.primary
  step_map call running = (step_alike call running).0

  never_writes : (call : Turning) → IsTrue (may_end (operation_of call) FailedWrite) → ⊥
  never_writes Opens may = false≢true may
  never_writes Gives may = false≢true may
  never_writes Closes may = false≢true may

  pub leads_alike : (call : Turning) (after : StoreState) (reply : Reply) (kind : Kind) → state.doubt ≡ None → IsTrue (may_end (operation_of call) kind)
      → LeadsTo (plain_rules constants) state (answered who (operation_of call) reply) after kind → IsAlike after
  leads_alike call after reply Ruled running may leads = subst (λ (o : Outcome). IsAlike o.state) leads (step_alike call running)
  leads_alike call after reply FailedRead running may leads = subst (λ (o : Outcome). IsAlike o.state) (sym leads.2) (refl, refl)
  leads_alike call after reply FailedWrite running may leads = absurd (never_writes call may)
  leads_alike call after reply Mismatched running may leads = absurd leads
  leads_alike call after reply Wanted running may leads = subst IsAlike (sym leads) (refl, refl)

unless_writes : (call : Turning) (P : Type 0) (kind : Kind) → IsTrue (may_end (operation_of call) kind) → UnlessFailedWrite kind P → P
unless_writes call P Ruled may p = p
unless_writes call P FailedRead may p = p
unless_writes Opens P FailedWrite may p = absurd (false≢true may)
unless_writes Gives P FailedWrite may p = absurd (false≢true may)
unless_writes Closes P FailedWrite may p = absurd (false≢true may)
unless_writes call P Mismatched may p = p
unless_writes call P Wanted may p = p

module _ (by : Constants → Rules) (who : ℕ) (call : Turning) (old new : KvState) (reply : Reply) (answers : Answers by old new (answered who (operation_of call) reply)) where
  -- what a plain store tells afterwards, and how it came to it
  pub record Went (state : StoreState) : Type 0 where
    pub after : StoreState
    pub told : new.known.state ≡ Some after
    pub leads : LeadsTo (plain_rules old.known.constants) state (answered who (operation_of call) reply) after (kind_of reply)

  pub went : (state : StoreState) → TellsPlain by old state → Went state
  went state tells =
      let there = some_of new.known.state (answers.does.keeps.tells_state ∙ ap is_some tells.told) in
      record {
        after = there.0;
        told = there.1;
        leads = subst (λ (rules : Constants → Rules). LeadsTo (rules old.known.constants) state (answered who (operation_of call) reply) there.0 (kind_of reply))
            tells.rules (answers.does.leads state tells.told there.0 there.1);
      }

  pub turn_stayed : HasStayed by old new
  turn_stayed = record {
    keeps = answers.does.keeps;
    steady = λ steady. unless_writes call (new.known.steady ≡ true) (kind_of reply) answers.may_end (answers.does.steady steady);
    still = λ state tells.
        let w = went state tells in
        let alike = leads_alike old.known.constants state who call w.after reply (kind_of reply) tells.running answers.may_end w.leads in
        (w.after, record { rules = tells.rules; told = w.told; running = alike.1 ∙ tells.running }, alike.0);
    moments = λ tells state is.
        subst (λ (m : FlaggedMap). TellsOnly old.crash.primary new.crash.primary state.primary m) (step_map old.known.constants state who call is.running)
        (subst (λ (rules : Constants → Rules). TellsOnly old.crash.primary new.crash.primary state.primary (step (rules old.known.constants) state who (operation_of call)).state.primary)
        is.rules (answers.does.cuts tells state is.told).0);
  }

-- reads leave it, and one call leaves it after another
pub stayed_read : {by : Constants → Rules} {old new : KvState} → HasRead old new → HasStayed by old new
stayed_read {by} {old} {new} read = record {
  keeps = read.keeps;
  steady = read.steady;
  still = λ state tells. (state, record { rules = tells.rules; told = read.state ∙ tells.told; running = tells.running }, refl);
  moments = λ tells state is. read.moments tells state is.told;
}

pub stayed_none : {by : Constants → Rules} (s : KvState) → HasStayed by s s
stayed_none s = stayed_read (read_none s)

pub stayed_then : {by : Constants → Rules} {a b c : KvState} → HasStayed by a b → HasStayed by b c → HasStayed by a c
stayed_then {by} {a} {b} {c} one two = record {
  keeps = Keeps-trans one.keeps two.keeps;
  steady = λ steady. two.steady (one.steady steady);
  still = λ state tells.
      let mid = one.still state tells in
      let end = two.still mid.0 mid.1 in
      (end.0, end.1, end.2 ∙ mid.2);
  moments = λ tells state is.
      let mid = one.still state is in
      TellsOnly-trans (one.moments tells state is)
      (subst (λ (m : FlaggedMap). TellsOnly b.crash.primary c.crash.primary m m) mid.2
      (two.moments (subst IsTrue (sym one.keeps.tells_moments) tells) mid.0 mid.1));
}
