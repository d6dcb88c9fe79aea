-- Calls that write both stores, as one call of the secure store.
use Rattle.std.proofs.Common.{◌≡◌, ◌⊎◌, ℕ, true, List, Option, Some, None, refl, sym, ◌∙◌, ap, subst, inl, inr, arith}
use Rattle.std.specs.Prelude.{IsTrue, Contains, [], ◌∷◌}
use Rattle.kv_model.specs.declared.error.KvError.{KvError}
use Rattle.kv_model.specs.declared.call.Reply.TheVariants.{Done, Refused}
use Rattle.kv_model.specs.Checks.{may_fail_reading, may_fail_writing}
use Rattle.kv_model.specs.Constants.{Constants}
use Rattle.kv_model.specs.FlaggedMap.{FlaggedMap}
use Rattle.kv_model.specs.StoreState.{Maps, StoreState, maps_of}
use Rattle.kv_model.specs.Operations.{Operation}
use Rattle.kv_model.specs.PlainStep.{plain_rules}
use Rattle.kv_model.specs.Rules.{Outcome, Rules, cuts, failed_write, step}
use Rattle.kv_model.specs.Kv.{Answered, IsLawful, Kind, LeadsTo, KvState, TellsOnly, UnlessFailedWrite, answered, kind_of, may_end, Ruled, FailedRead, FailedWrite, Mismatched, Wanted}
use Rattle.sealed_pair.specs.Going.{Fails, FailsAs, HasFailed, HasGone}
use Rattle.sealed_pair.specs.Running.{BothRun, HasEnded, HasRun, HasStopped, IsOpen, LeavesCut, Parts, StaysOpen, TellsOnlyBoth, WhereRun, one_of, rules_of}
use Rattle.sealed_pair.specs.Shares.{Holds, NoShare, Share}
use Rattle.sealed_pair.specs.Store.{Own, joined_by}
use Rattle.sealed_pair.proofs.PairLemmas.{carries_above, carries_below, cause_all}
use Rattle.sealed_pair.proofs.GoingLemmas.{IsEither, failed_mounts, running_mounts}

-- a state in which a store runs with its share of the active set
pub record Runs (share : Share) (state : StoreState) : Type 0 where
  pub running : state.doubt ≡ None
  pub holds : Holds share state

-- the same with no active set
abbrev pub IsStill : StoreState → Type 0
IsStill = Runs NoShare

-- a pair of maps that a cut leaves of a call from one pair to another
abbrev pub PairCut : Maps → Maps → FlaggedMap → FlaggedMap → Type 0
PairCut before after x y =
    ((x ≡ before.primary) × (y ≡ before.rollback)) ⊎ (((x ≡ after.primary) × (y ≡ before.rollback)) ⊎ ((x ≡ after.primary) × (y ≡ after.rollback)))

as_maps : (maps : Maps) (x y : FlaggedMap) → maps.primary ≡ x → maps.rollback ≡ y → record { primary = x; rollback = y } ≡ maps
as_maps maps x y one two = λ i. record { primary = sym one i; rollback = sym two i }

unfoldable pub three_cuts : Rules → StoreState → ℕ → Operation → List Maps
three_cuts rules before who operation =
    maps_of before ∷ record { primary = (step rules before who operation).state.primary; rollback = before.rollback }
    ∷ maps_of (step rules before who operation).state ∷ []

found_in : (rules : Rules) (before : StoreState) (who : ℕ) (operation : Operation) (maps : Maps)
    → PairCut (maps_of before) (maps_of (step rules before who operation).state) maps.primary maps.rollback → Contains (three_cuts rules before who operation) maps
unfolding three_cuts
found_in rules before who operation maps (inl is) = (0, omega arith, as_maps maps before.primary before.rollback is.0 is.1)
found_in rules before who operation maps (inr (inl is)) = (1, omega arith, as_maps maps (step rules before who operation).state.primary before.rollback is.0 is.1)
found_in rules before who operation maps (inr (inr is)) =
    (2, omega arith, as_maps maps (step rules before who operation).state.primary (step rules before who operation).state.rollback is.0 is.1)

pub cuts_are : (rules : Rules) (before : StoreState) (who : ℕ) (operation : Operation) → before.doubt ≡ None → cuts rules before who operation ≡ three_cuts rules before who operation
unfolding three_cuts
cuts_are rules before who operation running =
    let same : before ≡ record before { doubt = None } = λ i. record before { doubt = running i } in
    ap (λ (s : StoreState). cuts rules s who operation) same ∙ ap (λ (s : StoreState). three_cuts rules s who operation) (sym same)

pub cut_is_one : (rules : Rules) (before : StoreState) (who : ℕ) (operation : Operation) (maps : Maps) → before.doubt ≡ None
    → PairCut (maps_of before) (maps_of (step rules before who operation).state) maps.primary maps.rollback
    → Contains (cuts rules before who operation) maps
cut_is_one rules before who operation maps running cut =
    subst (λ (l : List Maps). Contains l maps) (sym (cuts_are rules before who operation running)) (found_in rules before who operation maps cut)

pub unless_two : (P Q : Type 0) (kind : Kind) → UnlessFailedWrite kind P → Q → UnlessFailedWrite kind (P × Q)
unless_two P Q Ruled p q = (p, q)
unless_two P Q FailedRead p q = (p, q)
unless_two P Q FailedWrite p q = tt
unless_two P Q Mismatched p q = (p, q)
unless_two P Q Wanted p q = (p, q)

pub unless_after : (P Q : Type 0) (kind : Kind) → P → UnlessFailedWrite kind Q → UnlessFailedWrite kind (P × Q)
unless_after P Q Ruled p q = (p, q)
unless_after P Q FailedRead p q = (p, q)
unless_after P Q FailedWrite p q = tt
unless_after P Q Mismatched p q = (p, q)
unless_after P Q Wanted p q = (p, q)

-- ---- a store that ran with one share runs with another

pub open_by : {share later : Share} {by : Constants → Rules} {s s' : KvState} {state now : StoreState} → IsOpen share by s state → s'.known.state ≡ Some now → Runs later now → IsOpen later by s' now
open_by open_at told runs = record { rules = open_at.rules; told = told; running = runs.running; holds = runs.holds }

pub runs_of : {share : Share} {by : Constants → Rules} {s : KvState} {state : StoreState} → IsOpen share by s state → Runs share state
runs_of open_at = record { running = open_at.running; holds = open_at.holds }

gone_open : {share later : Share} {by : Constants → Rules} {s s' : KvState} {now : StoreState → StoreState} {goal : StoreState → FlaggedMap} → HasGone share by s s' now goal
    → ((state : StoreState) → IsOpen share by s state → Runs later (now state)) → StaysOpen share later by s s'
gone_open {now = now} gone runs state open_at = (now state, open_by open_at (gone.told state open_at) (runs state open_at))

-- the call that failed is one of those that may fail to read or want memory
abbrev pub Prepares : Operation → Type 0
Prepares operation = IsTrue (may_end operation FailedRead) ⊎ IsTrue (may_end operation Wanted)

module _ (share later : Share) (by : Constants → Rules) (s s' : KvState) where
  failed_open : (e : KvError) (operation : Operation) (now stopped : StoreState → StoreState) (kind : Kind)
      → IsTrue (may_end operation kind) → (Prepares operation → (state : StoreState) → IsOpen share by s state → Runs later (now state))
      → ((state : StoreState) → IsOpen share by s state → FailsAs s'.known.state e (now state) (stopped state) kind) → UnlessFailedWrite kind (StaysOpen share later by s s')
  failed_open e operation now stopped Ruled may runs fails = λ state open_at. absurd (fails state open_at)
  failed_open e operation now stopped FailedRead may runs fails = λ state open_at. (now state, open_by open_at (fails state open_at).1 (runs (inl may) state open_at))
  failed_open e operation now stopped FailedWrite may runs fails = tt
  failed_open e operation now stopped Mismatched may runs fails = λ state open_at. absurd (fails state open_at)
  failed_open e operation now stopped Wanted may runs fails = λ state open_at. (now state, open_by open_at (fails state open_at) (runs (inr may) state open_at))

-- what a call leaves of the parts
abbrev pub left : Parts → Own → KvState → Share → KvState → Share → Parts
left old own primary above rollback below = record old { own = own; primary = primary; share_above = above; rollback = rollback; share_below = below }

module _ (old : Parts) (who : ℕ) (operation : Operation) (goal_above goal_below : StoreState → FlaggedMap) where
  abbrev u : KvState
  u = old.primary

  abbrev r : KvState
  r = old.rollback

  abbrev by_above : Constants → Rules
  by_above = old.above

  abbrev by_below : Constants → Rules
  by_below = old.below

  abbrev OpenAbove : StoreState → Type 0
  OpenAbove = IsOpen old.share_above by_above u

  abbrev OpenBelow : StoreState → Type 0
  OpenBelow = IsOpen old.share_below by_below r

  abbrev outcome : StoreState → StoreState → Outcome
  outcome above below = step (rules_of old) (one_of old above below) who operation

  -- the goals of the two stores are what the secure step makes of their maps
  abbrev pub AreGoals : StoreState → StoreState → Type 0
  AreGoals above below = ((outcome above below).state.primary ≡ goal_above above) × ((outcome above below).state.rollback ≡ goal_below below)

  module _ (goals : WhereRun old AreGoals) (own : Own) (u' : KvState) (share : Share) (r' : KvState) (share_too : Share) where
    abbrev new : Parts
    new = left old own u' share r' share_too

    abbrev TellsAbove : Type 0
    TellsAbove = IsTrue u.crash.tells_moments → (above : StoreState) → OpenAbove above → TellsOnly u.crash.primary u'.crash.primary above.primary (goal_above above)

    abbrev TellsBelow : Type 0
    TellsBelow = IsTrue r.crash.tells_moments → (below : StoreState) → OpenBelow below → TellsOnly r.crash.primary r'.crash.primary below.primary (goal_below below)

    moments_of : TellsAbove → TellsBelow → IsTrue u.crash.tells_moments → IsTrue r.crash.tells_moments
        → WhereRun old (λ above below. TellsOnlyBoth old new (one_of old above below) (outcome above below).state)
    moments_of one two tells tells_too above below at at_too = (
      subst (λ (m : FlaggedMap). TellsOnly u.crash.primary u'.crash.primary above.primary m) (sym (goals above below at at_too).0) (one tells above at),
      subst (λ (m : FlaggedMap). TellsOnly r.crash.primary r'.crash.primary below.primary m) (sym (goals above below at at_too).1) (two tells_too below at_too),
    )

    -- ---- a call that is done

    pub run_done : (now_above now_below : StoreState → StoreState) → HasGone old.share_above by_above u u' now_above goal_above → HasGone old.share_below by_below r r' now_below goal_below
        → ((above : StoreState) → OpenAbove above → Runs share (now_above above)) → ((below : StoreState) → OpenBelow below → Runs share_too (now_below below))
        → WhereRun old (λ above below. outcome above below ≡ record { state = joined_by own (now_above above) (now_below below); reply = Done })
        → HasRun old new (answered who operation Done)
    run_done now_above now_below one two runs runs_too granted = record {
      above = one.keeps;
      below = two.keeps;
      cause = λ before after. tt;
      may_end = refl;
      steady = λ steady steady_too. (one.steady steady, two.steady steady_too);
      stays = (gone_open one runs, gone_open two runs_too);
      ends = λ above below at at_too. inr (record {
        after = joined_by own (now_above above) (now_below below);
        both = record {
          above = now_above above;
          below = now_below below;
          primary = open_by at (one.told above at) (runs above at);
          rollback = open_by at_too (two.told below at_too) (runs_too below at_too);
          one = refl;
        };
        leads = granted above below at at_too;
      });
      cuts = moments_of one.moments two.moments;
    }

    -- ---- a call that failed

    module _ (f : Fails)
        (kinds : (kind : Kind) → IsTrue (may_end f.operation kind) → IsTrue (may_end operation kind))
        (reads : IsTrue (may_end f.operation FailedRead) → WhereRun old (λ above below. IsTrue (may_fail_reading ((rules_of old).checks (one_of old above below) who operation))))
        (writes : WhereRun old (λ above below. IsTrue (may_fail_writing ((rules_of old).checks (one_of old above below) who operation)))) where
      abbrev call : Answered
      call = answered who operation (Refused f.error)

      -- how the call ended, by its kind
      abbrev EndsBy : StoreState → StoreState → Kind → Type 0
      EndsBy above below kind = HasStopped old new (one_of old above below) call
          ⊎ (BothRun new (one_of old above below) × LeadsTo (rules_of old) (one_of old above below) call (one_of old above below) kind)

      ends_by : (above below : StoreState) → OpenAbove above → OpenBelow below → (told : Option StoreState) (here stopped : StoreState) (kind : Kind)
          → IsTrue (may_end f.operation kind) → FailsAs told f.error here stopped kind
          → (Prepares f.operation → told ≡ Some here → BothRun new (one_of old above below))
          → (told ≡ Some stopped → LeavesCut old new (one_of old above below) call) → EndsBy above below kind
      ends_by above below at at_too told here stopped Ruled may fails still cut = absurd fails
      ends_by above below at at_too told here stopped FailedRead may fails still cut =
          inr (still (inl may) fails.1, (refl, reads may above below at at_too, ap (λ (e : KvError). record { state = one_of old above below; reply = Refused e }) fails.0))
      ends_by above below at at_too told here stopped FailedWrite may fails still cut =
          inl (record { error = ap (λ (e : KvError). Refused e) fails.0; fails = writes above below at at_too; cut = cut fails.1 })
      ends_by above below at at_too told here stopped Mismatched may fails still cut = absurd fails
      ends_by above below at at_too told here stopped Wanted may fails still cut = inr (still (inr may) fails, refl)

      ended : (above below : StoreState) → EndsBy above below (kind_of (Refused f.error)) → HasStopped old new (one_of old above below) call ⊎ HasEnded old new (one_of old above below) call
      ended above below (inl stopped) = inl stopped
      ended above below (inr ends) = inr (record { after = one_of old above below; both = ends.0; leads = ends.1 })

      abbrev InCut : StoreState → StoreState → FlaggedMap → FlaggedMap → Type 0
      InCut above below x y = PairCut (maps_of (one_of old above below)) (maps_of (outcome above below).state) x y

      module _ (lawful_above : IsLawful by_above u') (lawful_below : IsLawful by_below r') (now_above now_below : StoreState → StoreState)
          (same : Prepares f.operation → WhereRun old (λ above below. one_of old above below ≡ joined_by own (now_above above) (now_below below))) where
        -- in the primary store
        pub run_above_fails : HasFailed old.share_above by_above u u' now_above goal_above f → HasGone old.share_below by_below r r' now_below goal_below
            → ((above : StoreState) → OpenAbove above → (now_above above).doubt ≡ None)
            → (Prepares f.operation → (above : StoreState) → OpenAbove above → Runs share (now_above above))
            → ((below : StoreState) → OpenBelow below → Runs share_too (now_below below))
            → WhereRun old (λ above below. (x : FlaggedMap)
            → IsEither x (now_above above).primary (step (plain_rules u.known.constants) (now_above above) f.who f.operation).state.primary
            → InCut above below x (now_below below).primary)
            → HasRun old new call
        run_above_fails one two running runs runs_too in_cut =
            let kind = kind_of (Refused f.error) in
            let plain = plain_rules u.known.constants in
            record {
              above = one.keeps;
              below = two.keeps;
              cause = λ before after. cause_all (carries_above old.root u u' r r' before after two.keeps) (Refused f.error) one.cause;
              may_end = kinds kind one.may_end;
              steady = λ steady steady_too. unless_two (u'.known.steady ≡ true) (r'.known.steady ≡ true) kind (one.steady steady) (two.steady steady_too);
              stays = unless_two (StaysOpen old.share_above share by_above u u') (StaysOpen old.share_below share_too by_below r r') kind
                  (failed_open old.share_above share by_above u u' f.error f.operation now_above (λ (s : StoreState). failed_write plain (now_above s) f.who f.operation) kind one.may_end runs one.told)
                  (gone_open two runs_too);
              ends = λ above below at at_too.
                  ended above below (ends_by above below at at_too u'.known.state (now_above above) (failed_write plain (now_above above) f.who f.operation) kind one.may_end (one.told above at)
                  (λ prepares told. record {
                    above = now_above above;
                    below = now_below below;
                    primary = open_by at told (runs prepares above at);
                    rollback = open_by at_too (two.told below at_too) (runs_too below at_too);
                    one = same prepares above below at at_too;
                  })
                  (λ told maps stands.
                  let told_now = subst (λ (c : Constants). u'.known.state ≡ Some (failed_write (plain_rules c) (now_above above) f.who f.operation)) (sym one.keeps.constants) told in
                  let x = subst (λ (c : Constants). IsEither maps.primary (now_above above).primary (step (plain_rules c) (now_above above) f.who f.operation).state.primary) one.keeps.constants
                  (failed_mounts by_above u' lawful_above at.rules (now_above above) (record { primary = maps.primary; rollback = stands.beside }) f.who f.operation (running above at) told_now stands.primary_stands) in
                  let y = running_mounts by_below r' lawful_below at_too.rules (now_below below) (record { primary = maps.rollback; rollback = stands.beside_rollback }) (two.told below at_too)
                  (runs_too below at_too).running stands.rollback_stands in
                  cut_is_one (rules_of old) (one_of old above below) who operation maps refl
                  (subst (InCut above below maps.primary) (sym y) (in_cut above below at at_too maps.primary x))));
              cuts = moments_of one.moments two.moments;
            }

        -- in the rollback store
        pub run_below_fails : HasGone old.share_above by_above u u' now_above goal_above → HasFailed old.share_below by_below r r' now_below goal_below f
            → ((below : StoreState) → OpenBelow below → (now_below below).doubt ≡ None)
            → ((above : StoreState) → OpenAbove above → Runs share (now_above above))
            → (Prepares f.operation → (below : StoreState) → OpenBelow below → Runs share_too (now_below below))
            → WhereRun old (λ above below. (y : FlaggedMap)
            → IsEither y (now_below below).primary (step (plain_rules r.known.constants) (now_below below) f.who f.operation).state.primary
            → InCut above below (now_above above).primary y)
            → HasRun old new call
        run_below_fails one two running runs runs_too in_cut =
            let kind = kind_of (Refused f.error) in
            let plain = plain_rules r.known.constants in
            record {
              above = one.keeps;
              below = two.keeps;
              cause = λ before after. cause_all (carries_below old.root u u' r r' before after one.keeps) (Refused f.error) two.cause;
              may_end = kinds kind two.may_end;
              steady = λ steady steady_too. unless_after (u'.known.steady ≡ true) (r'.known.steady ≡ true) kind (one.steady steady) (two.steady steady_too);
              stays = unless_after (StaysOpen old.share_above share by_above u u') (StaysOpen old.share_below share_too by_below r r') kind (gone_open one runs)
                  (failed_open old.share_below share_too by_below r r' f.error f.operation now_below (λ (s : StoreState). failed_write plain (now_below s) f.who f.operation) kind two.may_end runs_too two.told);
              ends = λ above below at at_too.
                  ended above below (ends_by above below at at_too r'.known.state (now_below below) (failed_write plain (now_below below) f.who f.operation) kind two.may_end (two.told below at_too)
                  (λ prepares told. record {
                    above = now_above above;
                    below = now_below below;
                    primary = open_by at (one.told above at) (runs above at);
                    rollback = open_by at_too told (runs_too prepares below at_too);
                    one = same prepares above below at at_too;
                  })
                  (λ told maps stands.
                  let told_now = subst (λ (c : Constants). r'.known.state ≡ Some (failed_write (plain_rules c) (now_below below) f.who f.operation)) (sym two.keeps.constants) told in
                  let y = subst (λ (c : Constants). IsEither maps.rollback (now_below below).primary (step (plain_rules c) (now_below below) f.who f.operation).state.primary) two.keeps.constants
                  (failed_mounts by_below r' lawful_below at_too.rules (now_below below) (record { primary = maps.rollback; rollback = stands.beside_rollback }) f.who f.operation (running below at_too) told_now stands.rollback_stands) in
                  let x = running_mounts by_above u' lawful_above at.rules (now_above above) (record { primary = maps.primary; rollback = stands.beside }) (one.told above at)
                  (runs above at).running stands.primary_stands in
                  cut_is_one (rules_of old) (one_of old above below) who operation maps refl
                  (subst (λ (m : FlaggedMap). InCut above below m maps.rollback) (sym x) (in_cut above below at at_too maps.rollback y))));
              cuts = moments_of one.moments two.moments;
            }
