-- What one of the two stores does of a remove that is begun, finished or given up.
use Rattle.std.proofs.Common.{◌≡◌, ℕ, true, List, Some, None, refl, sym, ◌∙◌, ap, subst, inl, inr}
use Rattle.std.specs.Prelude.{◌==◌, IsTrue, is_some}
use Rattle.std.specs.FinMap.{get}
use Rattle.kv_model.specs.declared.error.KvError.{KvError}
use Rattle.kv_model.specs.declared.error.KvError.TheVariants as error
use Rattle.kv_model.specs.declared.call.Reply.{Reply}
use Rattle.kv_model.specs.declared.call.Reply.TheVariants.{Done, Refused}
use Rattle.kv_model.specs.Constants.{Constants}
use Rattle.kv_model.specs.FlaggedMap.{FlaggedMap}
use Rattle.kv_model.specs.Keys.{is_key}
use Rattle.kv_model.specs.StoreState.{OpenSet, StoreState, begun_remove}
use Rattle.kv_model.specs.Operations.{Abort, Finish, RemoveStart}
use Rattle.kv_model.specs.PlainStep.{plain_rules}
use Rattle.kv_model.specs.Rules.{Outcome, Rules, refuses, step}
use Rattle.kv_model.specs.Kv.{Answers, Kind, KvState, LeadsTo, TellsOnly, UnlessFailedWrite, answered, kind_of, Ruled}
use Rattle.kv_model.proofs.PerformLemmas.{Keeps-trans}
use Rattle.sealed_pair.specs.Begun.{begins_remove, finishes_remove, with_key_gone, with_share}
use Rattle.sealed_pair.specs.Going.{Failed, HasGone, WhereOpen, WhereStill, map_after}
use Rattle.sealed_pair.specs.Removing.{MayLose}
use Rattle.sealed_pair.specs.Running.{IsOpen}
use Rattle.sealed_pair.specs.Shares.{Share, NoShare, HasSet, LacksKey}
use Rattle.sealed_pair.proofs.GoingLemmas.{gone_fails, gone_more, gone_none, quiet_abort, tells_more}
use Rattle.sealed_pair.proofs.HeldLemmas.{remove_lacking}
use Rattle.sealed_pair.proofs.ReadingLemmas.{some_of}
use Rattle.sealed_pair.proofs.RemovingLemmas.{begins, same_who}
use Rattle.sealed_pair.proofs.RunningLemmas.{Runs, runs_of}

-- ---- a store that has no part in it

-- a store that is not called tells what it told
pub gone_same : (share : Share) (by : Constants → Rules) (s : KvState) (now : StoreState → StoreState) (goal : StoreState → FlaggedMap)
    → ((state : StoreState) → IsOpen share by s state → state ≡ now state) → HasGone share by s s now goal
gone_same share by s now goal same =
    let none = gone_none {share = share} by s goal in
    record { keeps = none.keeps; steady = none.steady; told = λ state at. at.told ∙ ap (λ (t : StoreState). Some t) (same state at); moments = none.moments }

without_set : (s : StoreState) → s.open_set ≡ None → s ≡ record s { open_set = None }
without_set s is = λ i. record s { open_set = is i }

module _ (key : List ℕ) (who : ℕ) where
  pub begun_elsewhere : (by : Constants → Rules) (s : KvState) → HasGone NoShare by s s (with_share (LacksKey key)) (map_after (begins_remove who key (LacksKey key)))
  begun_elsewhere by s =
      gone_same NoShare by s (with_share (LacksKey key)) (map_after (begins_remove who key (LacksKey key))) (λ state at. without_set state at.holds)

  key_gone : (s : StoreState) → s.open_set ≡ None → get s.primary key ≡ None → s ≡ with_key_gone key s
  key_gone s none lacks = without_set s none ∙ ap (λ (m : FlaggedMap). record s { primary = m; open_set = None }) (sym (remove_lacking s.primary key lacks))

  pub finished_elsewhere : (by : Constants → Rules) (s : KvState) → HasGone (LacksKey key) by s s (with_key_gone key) (map_after (finishes_remove who key (LacksKey key)))
  finished_elsewhere by s =
      gone_same (LacksKey key) by s (with_key_gone key) (map_after (finishes_remove who key (LacksKey key))) (λ state at. key_gone state at.holds.0 at.holds.1)

-- ---- a store that has the key

module _ (key : List ℕ) (who : ℕ) (by : Constants → Rules) (s s' : KvState) where
  abbrev begun : Share
  begun = HasSet (begun_remove who key)

  module _ (good : is_key key ≡ true) (may : WhereStill by s (MayLose key)) where
    begins_here : WhereStill by s (λ state. step (plain_rules s.known.constants) state who (RemoveStart key) ≡ record { state = with_share begun state; reply = Done })
    begins_here state at = begins key good who s.known.constants state (runs_of at) (may state at)

    pub has_begun : Answers by s s' (answered who (RemoveStart key) Done) → HasGone NoShare by s s' (with_share begun) (map_after (begins_remove who key begun))
    has_begun answers =
        gone_more by s s s' (λ x. x) (with_share begun) (map_after (begins_remove who key begun)) who (RemoveStart key) (gone_none by s (map_after (begins_remove who key begun)))
        begins_here (λ state at. inl refl) (λ state at. inl refl) answers

    pub not_begun : (e : KvError) → Answers by s s' (answered who (RemoveStart key) (Refused e)) → Failed by (begins_remove who key begun) s s' e
    not_begun e answers = record {
      grants = begins_here;
      failed = gone_fails by s s s' (λ x. x) (with_share begun) (map_after (begins_remove who key begun)) who (RemoveStart key) (gone_none by s (map_after (begins_remove who key begun)))
          begins_here (λ state at. inl refl) (λ state at. inl refl) e answers;
    }

  finishes_in : (c : Constants) (state : StoreState) → state.doubt ≡ None → state.open_set ≡ Some (begun_remove who key)
      → step (plain_rules c) state who Finish ≡ record { state = with_key_gone key state; reply = Done }
  finishes_in c state running its = simp (running, its, same_who who) refl

  finishes_here : WhereOpen begun by s (λ state. step (plain_rules s.known.constants) state who Finish ≡ record { state = with_key_gone key state; reply = Done })
  finishes_here state at = finishes_in s.known.constants state at.running at.holds

  pub has_finished : Answers by s s' (answered who Finish Done) → HasGone begun by s s' (with_key_gone key) (map_after (finishes_remove who key begun))
  has_finished answers =
      gone_more by s s s' (λ x. x) (with_key_gone key) (map_after (finishes_remove who key begun)) who Finish (gone_none by s (map_after (finishes_remove who key begun)))
      finishes_here (λ state at. inl refl) (λ state at. inr refl) answers

  pub not_finished : (e : KvError) → Answers by s s' (answered who Finish (Refused e)) → Failed by (finishes_remove who key begun) s s' e
  not_finished e answers = record {
    grants = finishes_here;
    failed = gone_fails by s s s' (λ x. x) (with_key_gone key) (map_after (finishes_remove who key begun)) who Finish (gone_none by s (map_after (finishes_remove who key begun)))
        finishes_here (λ state at. inl refl) (λ state at. inr refl) e answers;
  }

-- ---- what was begun is given up

-- the share is this caller's
abbrev pub IsOwned : Share → ℕ → Type 0
IsOwned NoShare who = Unit {0}
IsOwned (HasSet set) who = set.owner ≡ who
IsOwned (LacksKey key) who = Unit {0}

none_to_abort : (c : Constants) (state : StoreState) (who : ℕ) → state.doubt ≡ None → state.open_set ≡ None → step (plain_rules c) state who Abort ≡ refuses state error.NoSet
none_to_abort c state who running none = simp (running, none) refl

aborts_own : (c : Constants) (state : StoreState) (set : OpenSet) (who : ℕ) → state.doubt ≡ None → state.open_set ≡ Some set → (set.owner == who) ≡ true
    → step (plain_rules c) state who Abort ≡ record { state = record state { open_set = None }; reply = Done }
aborts_own c state set who running its own = simp (running, its, own) refl

gives_up : (c : Constants) (share : Share) (state : StoreState) (who : ℕ) → Runs share state → IsOwned share who
    → (step (plain_rules c) state who Abort).state ≡ record state { open_set = None }
gives_up c NoShare state who runs owned = ap (λ (o : Outcome). o.state) (none_to_abort c state who runs.running runs.holds) ∙ without_set state runs.holds
gives_up c (HasSet set) state who runs owned =
    ap (λ (o : Outcome). o.state) (aborts_own c state set who runs.running runs.holds (ap (λ (o : ℕ). o == who) owned ∙ same_who who))
gives_up c (LacksKey key) state who runs owned = ap (λ (o : Outcome). o.state) (none_to_abort c state who runs.running runs.holds.0) ∙ without_set state runs.holds.0

-- an abort, whatever it answers, behind calls that left the map
module _ (share later : Share) (by : Constants → Rules) (old mid new : KvState) (now : StoreState → StoreState) (goal : StoreState → FlaggedMap) (who : ℕ) (gone : HasGone share by old mid now goal)
    (runs : (state : StoreState) → IsOpen share by old state → Runs later (now state)) (owned : IsOwned later who)
    (kept : (state : StoreState) → IsOpen share by old state → (now state).primary ≡ state.primary) (reply : Reply) (answers : Answers by mid new (answered who Abort reply)) where
  abbrev after : StoreState → StoreState
  after state = record (now state) { open_set = None }

  quiet : kind_of reply ≡ Ruled
  quiet = quiet_abort (kind_of reply) answers.may_end

  abort_step : (state : StoreState) → IsOpen share by old state → (step (by mid.known.constants) (now state) who Abort).state ≡ after state
  abort_step state at =
      subst (λ (rules_by : Constants → Rules). (step (rules_by mid.known.constants) (now state) who Abort).state ≡ after state) (sym at.rules)
      (gives_up mid.known.constants later (now state) who (runs state at) owned)

  pub gone_given_up : HasGone share by old new after goal
  gone_given_up = record {
    keeps = Keeps-trans gone.keeps answers.does.keeps;
    steady = λ steady. subst (λ (kind : Kind). UnlessFailedWrite kind (new.known.steady ≡ true)) quiet (answers.does.steady (gone.steady steady));
    told = λ state at.
        let there = some_of new.known.state (answers.does.keeps.tells_state ∙ ap is_some (gone.told state at)) in
        let leads = subst (λ (kind : Kind). LeadsTo (by mid.known.constants) (now state) (answered who Abort reply) there.0 kind) quiet
        (answers.does.leads (now state) (gone.told state at) there.0 there.1) in
        there.1 ∙ ap (λ (t : StoreState). Some t) (ap (λ (o : Outcome). o.state) (sym leads) ∙ abort_step state at);
    moments = λ tells state at.
        let second = (answers.does.cuts (subst IsTrue (sym gone.keeps.tells_moments) tells) (now state) (gone.told state at)).0 in
        tells_more (gone.moments tells state at)
        (subst (λ (t : StoreState). TellsOnly mid.crash.primary new.crash.primary (now state).primary t.primary) (abort_step state at) second)
        (inl (kept state at)) (inl (kept state at));
  }
