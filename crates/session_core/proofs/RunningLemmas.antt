-- What a store that runs answers by its rules: never that it is stopped, and it runs on.
use Rattle.std.proofs.Common.{◌≡◌, ◌≢◌, ℕ, Bool, true, false, List, [], ◌∷◌, inl, inr, refl, ap, subst, sym, ◌∙◌}
use Rattle.std.specs.Prelude.{not, ◌&&◌, Contains, MatchOption, Option, Some, None, is_some, if◌then◌else◌}
use Rattle.std.specs.Option.{option_map_or}
use mathlib.Core.Bool.{false≢true}
use Rattle.kv_model.specs.declared.error.KvError.{KvError}
use Rattle.kv_model.specs.declared.error.KvError.TheVariants as error
use Rattle.kv_model.specs.declared.call.Reply.{Reply}
use Rattle.kv_model.specs.declared.call.Reply.TheVariants.{Done, Refused}
use Rattle.kv_model.specs.Checks.{Check, Refuses, Reads, Writes, first_refusal}
use Rattle.kv_model.specs.Constants.{Constants}
use Rattle.kv_model.specs.NextKey.{next_key}
use Rattle.kv_model.specs.Operations.{Operation, Get, Part, Info, Set, Remove, RemoveStart, Start, Add, Finish, Abort, OpenIterator, Next, CloseIterator, Reset}
use Rattle.kv_model.specs.PlainStep.{finished_map, plain_checks, plain_effect, plain_rules, plain_step}
use Rattle.kv_model.specs.Rows.{advanced, opened, position_of, with_more}
use Rattle.kv_model.specs.Rules.{Mounts, Outcome, Rules, Steps, after_refusal, cuts, mounted, refused_or, refuses}
use Rattle.kv_model.specs.StoreState.{Doubt, Maps, OpenSet, StoreState, maps_of}

abbrev is_stop : KvError → Bool
is_stop error.Stopped = true
is_stop e = false

abbrev pub says_stop : Reply → Bool
says_stop (Refused e) = is_stop e
says_stop reply = false

abbrev lacks_stop : List Check → Bool
lacks_stop [] = true
lacks_stop ((Refuses applies e) ∷ checks) = not (is_stop e) && lacks_stop checks
lacks_stop (Reads ∷ checks) = lacks_stop checks
lacks_stop (Writes ∷ checks) = lacks_stop checks

both : (a b : Bool) → (a && b) ≡ true → (a ≡ true) × (b ≡ true)
both true b is = (refl, is)
both false b is = absurd (false≢true is)

negated : (b : Bool) → not b ≡ true → b ≡ false
negated true is = absurd (false≢true is)
negated false is = refl

some_same : {X : Type 0} {x y : X} → Some x ≡ Some y → x ≡ y
some_same is = cc

none_some : {X P : Type 0} {x : X} → None ≡ Some x → P
none_some is = absurd (false≢true (ap is_some is))

first_is : (checks : List Check) (e : KvError) → lacks_stop checks ≡ true → first_refusal checks ≡ Some e → is_stop e ≡ false
first_is [] e lacks is = none_some is
first_is ((Refuses true other) ∷ checks) e lacks is =
    subst (λ (x : KvError). is_stop x ≡ false) (some_same is) (negated (is_stop other) (both (not (is_stop other)) (lacks_stop checks) lacks).0)
first_is ((Refuses false other) ∷ checks) e lacks is = first_is checks e (both (not (is_stop other)) (lacks_stop checks) lacks).1 is
first_is (Reads ∷ checks) e lacks is = first_is checks e lacks is
first_is (Writes ∷ checks) e lacks is = first_is checks e lacks is

module _ (constants : Constants) (state : StoreState) (who : ℕ) where
  -- it is in doubt of the same call as before, and does not say that it is stopped
  pub record RunsOn (outcome : Outcome) : Type 0 where
    pub doubt : outcome.state.doubt ≡ state.doubt
    pub reply : says_stop outcome.reply ≡ false

  none_stops : (operation : Operation) → lacks_stop (plain_checks constants state who operation) ≡ true
  none_stops (Get key) = refl
  none_stops (Part key offset count) = refl
  none_stops (Info key) = refl
  none_stops (Set key value flags) = refl
  none_stops (Remove key) = refl
  none_stops (RemoveStart key) = refl
  none_stops (Start key size flags) = refl
  none_stops (Add value) = refl
  none_stops Finish = refl
  none_stops Abort = refl
  none_stops (OpenIterator n prefix) = refl
  none_stops (Next n) = refl
  none_stops (CloseIterator n) = refl
  none_stops Reset = refl

  after_finish : (e : KvError) → (after_refusal state Finish e).doubt ≡ state.doubt
  after_finish error.NotFound = refl
  after_finish error.InvalidKey = refl
  after_finish error.InvalidFlags = refl
  after_finish error.InvalidSize = refl
  after_finish error.WriteProtected = refl
  after_finish (error.MediaFull need room) = refl
  after_finish error.TooManyIterators = refl
  after_finish error.NoIterator = refl
  after_finish error.SetOpen = refl
  after_finish error.NoSet = refl
  after_finish (error.Busy owner) = refl
  after_finish error.Stopped = refl
  after_finish error.ReadFault = refl
  after_finish error.WriteFault = refl
  after_finish (error.Corrupt stored computed) = refl
  after_finish error.AuthFailed = refl
  after_finish error.RollbackFailed = refl
  after_finish error.IvSpent = refl
  after_finish error.Memory = refl

  refused_doubt : (operation : Operation) (e : KvError) → (after_refusal state operation e).doubt ≡ state.doubt
  refused_doubt (Get key) e = refl
  refused_doubt (Part key offset count) e = refl
  refused_doubt (Info key) e = refl
  refused_doubt (Set key value flags) e = refl
  refused_doubt (Remove key) e = refl
  refused_doubt (RemoveStart key) e = refl
  refused_doubt (Start key size flags) e = refl
  refused_doubt (Add value) e = refl
  refused_doubt Finish e = after_finish e
  refused_doubt Abort e = refl
  refused_doubt (OpenIterator n prefix) e = refl
  refused_doubt (Next n) e = refl
  refused_doubt (CloseIterator n) e = refl
  refused_doubt Reset e = refl

  added : (value : List ℕ) (found : Option OpenSet) → (option_map_or (λ (s : OpenSet). opened state who (with_more state who value s)) found state).doubt ≡ state.doubt
  added value None = refl
  added value (Some set) = refl

  ended : (found : Option OpenSet)
      → (option_map_or (λ (s : OpenSet). record state { primary = finished_map state.primary s; rollback = state.rollback; open_set = None }) found state).doubt ≡ state.doubt
  ended None = refl
  ended (Some set) = refl

  next_runs : (n : ℕ) (found : Option (List ℕ)) → RunsOn (advanced state who n found)
  next_runs n None = record { doubt = refl; reply = refl }
  next_runs n (Some key) = record { doubt = refl; reply = refl }

  effect_runs : (operation : Operation) → RunsOn (plain_effect constants state who operation)
  effect_runs (Get key) = record { doubt = refl; reply = refl }
  effect_runs (Part key offset count) = record { doubt = refl; reply = refl }
  effect_runs (Info key) = record { doubt = refl; reply = refl }
  effect_runs (Set key value flags) = record { doubt = refl; reply = refl }
  effect_runs (Remove key) = record { doubt = refl; reply = refl }
  effect_runs (RemoveStart key) = record { doubt = refl; reply = refl }
  effect_runs (Start key size flags) = record { doubt = refl; reply = refl }
  effect_runs (Add value) = record { doubt = added value state.open_set; reply = refl }
  effect_runs Finish = record { doubt = ended state.open_set; reply = refl }
  effect_runs Abort = record { doubt = refl; reply = refl }
  effect_runs (OpenIterator n prefix) = record { doubt = refl; reply = refl }
  effect_runs (Next n) = next_runs n (next_key constants.hash_bits state.primary (position_of state who n))
  effect_runs (CloseIterator n) = record { doubt = refl; reply = refl }
  effect_runs Reset = record { doubt = refl; reply = refl }

  answered : (operation : Operation) (found : Option KvError) → first_refusal (plain_checks constants state who operation) ≡ found
      → RunsOn (refused_or (plain_rules constants) state who operation found)
  answered operation None is = effect_runs operation
  answered operation (Some e) is = record { doubt = refused_doubt operation e; reply = first_is (plain_checks constants state who operation) e (none_stops operation) is }

  running_by : (operation : Operation) (stopped : Bool) → stopped ≡ false
      → RunsOn (if stopped then refuses state error.Stopped else refused_or (plain_rules constants) state who operation (first_refusal (plain_checks constants state who operation)))
  running_by operation true is = absurd (false≢true (sym is))
  running_by operation false is = answered operation (first_refusal (plain_checks constants state who operation)) refl

  -- a store that runs
  pub runs_on : (operation : Operation) (outcome : Outcome) → is_some state.doubt ≡ false → plain_step constants state who operation ≡ outcome → RunsOn outcome
  runs_on operation outcome running is = subst RunsOn is (running_by operation (is_some state.doubt) running)

-- a store that was mounted runs
runs_mounted : (before after : StoreState) (found : Option Doubt) → before.doubt ≡ found → (rules : Rules)
    → MatchOption found (after ≡ mounted before (rules.heal (maps_of before)))
    (λ (d : Doubt). (maps : Maps) × Contains (cuts rules before d.who d.operation) maps × (after ≡ mounted before (rules.heal maps)))
    → is_some after.doubt ≡ false
runs_mounted before after None is rules mounts = ap (λ (s : StoreState). is_some s.doubt) mounts
runs_mounted before after (Some d) is rules mounts = ap (λ (s : StoreState). is_some s.doubt) mounts.2

pub mounted_runs : (rules : Rules) (before after : StoreState) → Mounts rules before after → is_some after.doubt ≡ false
mounted_runs rules before after mounts = runs_mounted before after before.doubt refl rules mounts

-- a store that runs does behind an entry which no device made to fail
module _ (constants : Constants) (old new : StoreState) (who : ℕ) (reply : Reply) (running : is_some old.doubt ≡ false)
    (no_read : reply ≢ Refused error.ReadFault) (no_write : reply ≢ Refused error.WriteFault) where
  runs_stepped : (operation : Operation) → Steps (plain_rules constants) old who operation (record { state = new; reply = reply }) → is_some new.doubt ≡ false
  runs_stepped operation (inl is) = ap is_some (runs_on constants old who operation (record { state = new; reply = reply }) running (sym is)).doubt ∙ running
  runs_stepped operation (inr (inl (runs, may, is))) = absurd (no_read (ap (λ (o : Outcome). o.reply) is))
  runs_stepped operation (inr (inr (runs, may, is))) = absurd (no_write (ap (λ (o : Outcome). o.reply) is))

  pub runs_after : (found : Option Operation) → MatchOption found ((reply ≡ Done) × Mounts (plain_rules constants) old new)
      (λ (operation : Operation). Steps (plain_rules constants) old who operation (record { state = new; reply = reply })) → is_some new.doubt ≡ false
  runs_after None follows = mounted_runs (plain_rules constants) old new follows.1
  runs_after (Some operation) follows = runs_stepped operation follows
