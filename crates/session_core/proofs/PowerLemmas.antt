-- What becomes of a store's power, line by line.
use Rattle.std.proofs.Common.{◌≡◌, ◌≢◌, ℕ, Bool, true, false, IsTrue, List, [], ◌∷◌, ◌++◌, refl, sym, ◌∙◌, ap, subst}
use Rattle.std.specs.Prelude.{Option, Some, None, MatchOption, Result, Ok, is_some}
use Rattle.std.specs.Option.{option_map_or}
use Rattle.std.specs.FinMap as map
use mathlib.Core.Bool.{false≢true}
use Rattle.base_core.specs.declared.no_memory.NoMemory.{NoMemory}
use Rattle.kv_model.specs.declared.call.Call.{Call}
use Rattle.kv_model.specs.declared.call.Entry.{Entry}
use Rattle.kv_model.specs.declared.call.Reply.{Reply}
use Rattle.kv_model.specs.declared.call.Reply.TheVariants.{Done, Value, Facts, Found, End, Refused}
use Rattle.kv_model.specs.declared.error.KvError.TheVariants as error
use Rattle.kv_model.specs.declared.pattern.Pattern.{Pattern}
use Rattle.kv_model.specs.Arming.{Arms}
use Rattle.kv_model.specs.FlaggedMap.{FlaggedMap}
use Rattle.kv_model.specs.Kv.{Does, IsLawful, Kind, KvState, LeadsTo, UnlessFailedWrite, answered, kind_of, Ruled}
use Rattle.kv_model.specs.Operations.{Operation, operation_of}
use Rattle.kv_model.specs.Performs.{Performs}
use Rattle.kv_model.specs.PlainStep.{plain_rules, plain_step}
use Rattle.kv_model.specs.Rules.{Outcome, Rules, failed_write, refuses}
use Rattle.kv_model.specs.StoreState.{StoreState, fresh_state}
use Rattle.kv_model.specs.Write.{map_of}
use Rattle.flash_core.specs.Sizes.{IsValid}
use Rattle.flash_sim.specs.ChipState.{ChipState}
use Rattle.record_core.specs.Mounts.{Contents, Holds}
use Rattle.record_core.proofs.Existence.{some_contents}
use Rattle.plain_store.proofs.CallLemmas.{stopped_step}
use Rattle.script_core.specs.declared.line.Act.{Act}
use Rattle.script_core.specs.declared.line.Act.TheVariants.{Do, Cut}
use Rattle.session_core.specs.Backing.{session_rules}
use Rattle.session_core.specs.Mounting.{HasMounted}
use Rattle.session_core.specs.Power.{HasDevice, HasPower, Power, Steady, Armed, Lost, Shows, after_call, after_cut, after_reply, is_lost, may_reply}
use Rattle.session_core.proofs.RunningLemmas.{runs_on, says_stop}

there_is : {X : Type 0} (o : Option X) → is_some o ≡ true → (x : X) × (o ≡ Some x)
there_is None is = absurd (false≢true is)
there_is (Some x) is = (x, refl)

not_none : {X P : Type 0} (o : Option X) → is_some o ≡ true → o ≡ None → P
not_none o some none = absurd (false≢true (sym (ap is_some none) ∙ some))

-- ---- one call

module _ (old new : KvState) (who : ℕ) (operation : Operation) (before after : StoreState) (told : old.known.state ≡ Some before) (later : new.known.state ≡ Some after) where
  abbrev rules_here : Rules
  rules_here = plain_rules old.known.constants

  -- a call that ended by the rules
  module _ (reply : Reply) (does : Does plain_rules old new (answered who operation reply)) (ruled : kind_of reply ≡ Ruled) where
    leads_ruled : plain_step old.known.constants before who operation ≡ record { state = after; reply = reply }
    leads_ruled = subst (LeadsTo rules_here before (answered who operation reply) after) ruled (does.leads before told after later)

    still_steady : old.known.steady ≡ true → new.known.steady ≡ true
    still_steady is = subst (λ (k : Kind). UnlessFailedWrite k (new.known.steady ≡ true)) ruled (does.steady is)

    device_on : (power : Power) → HasDevice old power → HasDevice new power
    device_on Steady device = (does.keeps.sound device.0, still_steady device.1)
    device_on Armed device = still_steady device
    device_on Lost device = tt

    runs_still : is_some before.doubt ≡ false → is_some after.doubt ≡ false
    runs_still running =
        let on = runs_on old.known.constants before who operation (record { state = after; reply = reply }) running leads_ruled in
        ap is_some on.doubt ∙ running

    says_no : is_some before.doubt ≡ false → says_stop reply ≡ false
    says_no running = (runs_on old.known.constants before who operation (record { state = after; reply = reply }) running leads_ruled).reply

    module _ (stopped : is_some before.doubt ≡ true) where
      stays : refuses before error.Stopped ≡ record { state = after; reply = reply }
      stays = sym (stopped_step old.known.constants before who operation stopped) ∙ leads_ruled

      doubt_on : is_some after.doubt ≡ true
      doubt_on = ap (λ (o : Outcome). is_some o.state.doubt) (sym stays) ∙ stopped

      says_so : Refused error.Stopped ≡ reply
      says_so = ap (λ (o : Outcome). o.reply) stays

    same_doubt : (b : Bool) → is_some before.doubt ≡ b → is_some after.doubt ≡ b
    same_doubt true is = doubt_on is
    same_doubt false is = runs_still is

    goes_on : (power : Power) → is_some before.doubt ≡ is_lost power → HasDevice old power → HasPower new power
    goes_on power doubt device = record { state = after; told = later; stopped = same_doubt (is_lost power) doubt; device = device_on power device }

  -- a write that failed: the next write was to be cut
  module _ (does : Does plain_rules old new (answered who operation (Refused error.WriteFault))) where
    failed_is : record { state = after; reply = Refused error.WriteFault } ≡ refuses (failed_write rules_here before who operation) error.WriteFault
    failed_is = (does.leads before told after later).2

    is_cut : (power : Power) → HasDevice old power → is_some before.doubt ≡ is_lost power → IsTrue (may_reply power (Refused error.WriteFault))
    is_cut Steady device doubt = absurd (false≢true (sym does.cause.1 ∙ device.0))
    is_cut Armed device doubt = refl
    is_cut Lost device doubt = not_none before.doubt doubt (does.leads before told after later).0

    now_lost : HasPower new Lost
    now_lost = record { state = after; told = later; stopped = ap (λ (o : Outcome). is_some o.state.doubt) failed_is; device = tt }

  is_steady : (power : Power) → HasDevice old power → is_some before.doubt ≡ is_lost power → before.doubt ≡ None → old.known.steady ≡ true
  is_steady Steady device doubt none = device.1
  is_steady Armed device doubt none = device
  is_steady Lost device doubt none = not_none before.doubt doubt none

  says_lost : (power : Power) → is_some before.doubt ≡ is_lost power → (is_some before.doubt ≡ false → says_stop (Refused error.Stopped) ≡ false) → is_lost power ≡ true
  says_lost Steady doubt says = absurd (false≢true (sym (says doubt)))
  says_lost Armed doubt says = absurd (false≢true (sym (says doubt)))
  says_lost Lost doubt says = refl

  abbrev Shown : Power → Reply → Type 0
  Shown power reply = IsTrue (may_reply power reply) × HasPower new (after_reply power reply)

  module _ (power : Power) (doubt : is_some before.doubt ≡ is_lost power) (device : HasDevice old power) where
    ruled_call : (reply : Reply) → Does plain_rules old new (answered who operation reply) → kind_of reply ≡ Ruled → IsTrue (may_reply power reply) → after_reply power reply ≡ power
        → Shown power reply
    ruled_call reply does ruled may stays = (may, subst (HasPower new) (sym stays) (goes_on reply does ruled power doubt device))

    one_call : (reply : Reply) → (reply ≢ Refused error.Memory) → Does plain_rules old new (answered who operation reply) → Shown power reply
    one_call Done other does = ruled_call Done does refl refl refl
    one_call (Value bytes) other does = ruled_call (Value bytes) does refl refl refl
    one_call (Facts size flags) other does = ruled_call (Facts size flags) does refl refl refl
    one_call (Found key) other does = ruled_call (Found key) does refl refl refl
    one_call End other does = ruled_call End does refl refl refl
    one_call (Refused error.NotFound) other does = ruled_call (Refused error.NotFound) does refl refl refl
    one_call (Refused error.InvalidKey) other does = ruled_call (Refused error.InvalidKey) does refl refl refl
    one_call (Refused error.InvalidFlags) other does = ruled_call (Refused error.InvalidFlags) does refl refl refl
    one_call (Refused error.InvalidSize) other does = ruled_call (Refused error.InvalidSize) does refl refl refl
    one_call (Refused error.WriteProtected) other does = ruled_call (Refused error.WriteProtected) does refl refl refl
    one_call (Refused (error.MediaFull need room)) other does = ruled_call (Refused (error.MediaFull need room)) does refl refl refl
    one_call (Refused error.TooManyIterators) other does = ruled_call (Refused error.TooManyIterators) does refl refl refl
    one_call (Refused error.NoIterator) other does = ruled_call (Refused error.NoIterator) does refl refl refl
    one_call (Refused error.SetOpen) other does = ruled_call (Refused error.SetOpen) does refl refl refl
    one_call (Refused error.NoSet) other does = ruled_call (Refused error.NoSet) does refl refl refl
    one_call (Refused (error.Busy owner)) other does = ruled_call (Refused (error.Busy owner)) does refl refl refl
    one_call (Refused error.Stopped) other does = ruled_call (Refused error.Stopped) does refl (says_lost power doubt (says_no (Refused error.Stopped) does refl)) refl
    one_call (Refused error.ReadFault) other does =
        absurd (false≢true (sym does.cause.1 ∙ is_steady power device doubt (does.leads before told after later).0))
    one_call (Refused error.WriteFault) other does = (is_cut does power device doubt, now_lost does)
    one_call (Refused (error.Corrupt stored computed)) other does = absurd (does.leads before told after later)
    one_call (Refused error.AuthFailed) other does = ruled_call (Refused error.AuthFailed) does refl refl refl
    one_call (Refused error.RollbackFailed) other does = ruled_call (Refused error.RollbackFailed) does refl refl refl
    one_call (Refused error.IvSpent) other does = ruled_call (Refused error.IvSpent) does refl refl refl
    one_call (Refused error.Memory) other does = absurd (other refl)

same_lost : (power : Power) → is_lost power ≡ is_lost (after_cut power)
same_lost Steady = refl
same_lost Armed = refl
same_lost Lost = refl

armed_device : (old new : KvState) (power : Power) → (old.known.steady ≡ true → new.known.steady ≡ true) → HasDevice old power → HasDevice new (after_cut power)
armed_device old new Steady still device = still device.1
armed_device old new Armed still device = still device
armed_device old new Lost still device = tt

abbrev ShownAfter : KvState → Power → Reply → Power → Type 0
ShownAfter new power reply after = IsTrue (may_reply power reply) × HasPower new after

module _ (old new : KvState) (who : ℕ) (power : Power) (has : HasPower old power) where
  does_show : (operation : Operation) (reply : Reply) → (reply ≢ Refused error.Memory) → Does plain_rules old new (answered who operation reply)
      → ShownAfter new power reply (after_reply power reply)
  does_show operation reply other does =
      let there = there_is new.known.state (does.keeps.tells_state ∙ ap is_some has.told) in
      one_call old new who operation has.state there.0 has.told there.1 power has.stopped has.device reply other does

  shows_by : (asked : Call) (found : Option Operation) (reply : Reply) → operation_of asked ≡ found → (reply ≢ Refused error.Memory)
      → MatchOption found ⊥ (λ (operation : Operation). Does plain_rules old new (answered who operation reply))
      → ShownAfter new power reply (after_call power asked reply)
  shows_by asked None reply is other does = absurd does
  shows_by asked (Some operation) reply is other does =
      subst (ShownAfter new power reply) (sym (ap (λ (o : Option Operation). option_map_or (λ _. after_reply power reply) o Steady) is))
      (does_show operation reply other does)

  -- a call that was performed
  pub call_shows : (asked : Call) (reply : Reply) → (reply ≢ Refused error.Memory) → Performs plain_rules old new who asked (Ok reply)
      → ShownAfter new power reply (after_call power asked reply)
  call_shows asked reply other does = shows_by asked (operation_of asked) reply refl other does

  -- a cut that was armed
  pub arm_shows : (pattern : Pattern) (result : Result Unit NoMemory) → Arms old new pattern result → HasPower new (after_cut power)
  arm_shows pattern result arms = record {
    state = has.state;
    told = arms.state ∙ has.told;
    stopped = has.stopped ∙ same_lost power;
    device = armed_device old new power arms.steady has.device;
  }

-- a chip that was mounted has power
pub mounted_power : (chip new : ChipState) (bits : ℕ) (s : KvState) → IsValid chip.geometry → HasMounted chip new bits s → IsLawful session_rules s → HasPower s Steady
mounted_power chip new bits s valid mounted lawful =
    let contents : (c : Contents) × Holds chip.geometry chip.image c = some_contents chip.geometry valid chip.image in
    let m : FlaggedMap = map_of contents.0.records in
    record {
      state = fresh_state m map.empty 1;
      told = mounted.fresh.state chip.image refl m (contents.0, contents.1, refl);
      stopped = refl;
      device = (mounted.sound, lawful.sound_is_steady mounted.sound);
    }

-- ---- a run and then another

pub shows_joined : (first mid final : Power) (acts more : List Act) (entries later : List Entry) → Shows first acts entries mid → Shows mid more later final
    → Shows first (acts ++ more) (entries ++ later) final
shows_joined first mid final [] more [] later shows next = subst (λ (p : Power). Shows p more later final) shows next
shows_joined first mid final [] more (e ∷ entries) later shows next = absurd shows
shows_joined first mid final (Cut side n pattern ∷ acts) more entries later shows next = shows_joined (after_cut first) mid final acts more entries later shows next
shows_joined first mid final (Do asked ∷ acts) more [] later shows next = absurd shows
shows_joined first mid final (Do asked ∷ acts) more (e ∷ entries) later shows next =
    (shows.0, shows_joined (after_call first asked e.reply) mid final acts more entries later shows.1 next)
