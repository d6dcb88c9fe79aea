-- What is kept of a key's numbers along a history.
use Rattle.std.proofs.Common.{◌≡◌, inl, inr, ℕ, zero, suc, ◌<◌, ◌≤◌, ◌^◌, Bool, true, false, List, [], ◌∷◌, length, Option, Some, None, IfSome, MatchOption, slice_index_or, refl, sym, ◌∙◌, ap, subst, arith, true≢false}
use Rattle.std.specs.Prelude.{if◌then◌else◌, is_some}
use Rattle.std.specs.Option.{option_map_or}
use Rattle.std.specs.Ordering.{nat_cmp}
use Rattle.std.specs.Cmp.Lexicographic.{slice_cmp}
use Rattle.std.specs.FinMap.{empty, get, get-empty}
use Rattle.std.specs.List.{Contains}
use Rattle.kv_model.specs.declared.error.KvError.{KvError}
use Rattle.kv_model.specs.declared.error.KvError.TheVariants as error
use Rattle.kv_model.specs.declared.call.Call.TheVariants.{Mount}
use Rattle.kv_model.specs.declared.call.Entry.{Entry}
use Rattle.kv_model.specs.declared.call.Reply.TheVariants.{Done}
use Rattle.kv_model.specs.Checks.{first_refusal}
use Rattle.kv_model.specs.Constants.{Constants, Secure}
use Rattle.kv_model.specs.FlaggedMap.{Stored}
use Rattle.kv_model.specs.Operations.{Operation}
use Rattle.kv_model.specs.Rules.{FailsWriting, Outcome, Steps, before_doubt, cuts, failed_write, mounted, number_given_back, number_taken, refused_or, refuses}
use Rattle.kv_model.specs.StoreState.{Doubt, Maps, StoreState, fresh_state, maps_of}
use Rattle.kv_model.proofs.LimitLemmas.{one_of_three}
use Rattle.sealed_pair.specs.Heal.{heal}
use Rattle.sealed_pair.specs.Laws.{HealsKey}
use Rattle.sealed_pair.specs.Limits.{IsSecure}
use Rattle.sealed_pair.specs.Sealing.{secure_of}
use Rattle.sealed_pair.specs.SecureStep.{secure_checks, secure_rules, secure_step, takes_number}
use Rattle.sealed_pair.proofs.CutLemmas.{small_before}
use Rattle.sealed_pair.proofs.LimitLemmas.{ShortMaps, failed_write_keeps_limits, follows_keeps_limits, fresh_keeps_limits, maps_short, step_keeps_limits, step_short}
use Rattle.sealed_pair.proofs.SealLemmas.{HaveForm}
use Rattle.fresh_numbers.specs.Histories.{Begins, Event, Called, Began, Finds, Follows, PassesThrough}
use Rattle.fresh_numbers.proofs.NumberLemmas.{HasBeen, Keeps, KeepsIn, floor, floor_most, heal_keeps, keeps_later, rollback_later}
use Rattle.fresh_numbers.proofs.StepLemmas.{not_less, step_keeps, step_rest}

-- what healing does to each key
abbrev pub Heals : Type 0
Heals = (secure : Secure) (maps : Maps) (key : List ℕ) → HealsKey secure maps key (get maps.rollback key) (get (heal secure maps).rollback key)

-- the next number before the call in doubt took one
abbrev pub number_before : StoreState → ℕ
number_before state = option_map_or (λ (d : Doubt). number_given_back (takes_number d.operation) state.next_vector) state.doubt state.next_vector

-- What every state of a history keeps: of a stopped one the maps and the number are those before its call in doubt.
pub record KeepsAll (Was : List ℕ → Type 0) (key past : List ℕ) (constants : Constants) (low : ℕ) (state : StoreState) : Type 0 where
  pub within : IsSecure state
  pub keeps : KeepsIn Was (secure_of constants).root key past low (number_before state) (maps_of state) state.open_set
  pub counted : IfSome state.doubt (λ (d : Doubt). takes_number d.operation ≡ true → 1 ≤ state.next_vector)

-- ---- numbers around a doubt

given_back : (takes : Bool) (n : ℕ) → number_given_back takes (number_taken takes n) ≡ n
given_back true n = omega arith
given_back false n = refl

one_more : (takes : Bool) (n : ℕ) → takes ≡ true → 1 ≤ number_taken takes n
one_more true n is = omega arith
one_more false n is = absurd (true≢false (sym is))

no_more : (takes : Bool) (n : ℕ) → number_given_back takes n ≤ n
no_more true n = omega arith
no_more false n = omega arith

taken_again : (takes : Bool) (n : ℕ) → (takes ≡ true → 1 ≤ n) → number_taken takes (number_given_back takes n) ≤ n
taken_again true n some = let one = some refl in omega (arith, one)
taken_again false n some = omega arith

module _ (Was : List ℕ → Type 0) (key past : List ℕ) (form : HaveForm) (heals : Heals) (constants : Constants) (low : ℕ) where
  abbrev root : List ℕ
  root = (secure_of constants).root

  abbrev All : StoreState → Type 0
  All = KeepsAll Was key past constants low

  -- a state that is not in doubt
  running : (state : StoreState) → state.doubt ≡ None → IsSecure state → KeepsIn Was root key past low state.next_vector (maps_of state) state.open_set → All state
  running state runs within keeps = record {
    within = within;
    keeps =
        subst (λ (d : Option Doubt). KeepsIn Was root key past low (option_map_or (λ (x : Doubt). number_given_back (takes_number x.operation) state.next_vector) d state.next_vector) (maps_of state) state.open_set)
        (sym runs) keeps;
    counted = subst (λ (d : Option Doubt). IfSome d (λ (x : Doubt). takes_number x.operation ≡ true → 1 ≤ state.next_vector)) (sym runs) tt;
  }

  module _ (old : StoreState) (kept : All old) where
    of_running : old.doubt ≡ None → KeepsIn Was root key past low old.next_vector (maps_of old) old.open_set
    of_running runs =
        subst (λ (d : Option Doubt). KeepsIn Was root key past low (option_map_or (λ (x : Doubt). number_given_back (takes_number x.operation) old.next_vector) d old.next_vector) (maps_of old) old.open_set)
        runs kept.keeps

    -- ---- a call

    step_is : (who : ℕ) (operation : Operation) → old.doubt ≡ None
        → secure_step constants old who operation ≡ refused_or (secure_rules constants) old who operation (first_refusal (secure_checks constants old who operation))
    step_is who operation runs =
        ap (λ (d : Option Doubt). if is_some d then refuses old error.Stopped else refused_or (secure_rules constants) old who operation (first_refusal (secure_checks constants old who operation))) runs

    stepped : (who : ℕ) (operation : Operation) (doubt : Option Doubt) → old.doubt ≡ doubt → HasBeen Was key (secure_step constants old who operation).state.primary
        → All (secure_step constants old who operation).state
    stepped who operation (Some d) is been =
        subst (λ (o : Outcome). All o.state)
        (sym (ap (λ (x : Option Doubt). if is_some x then refuses old error.Stopped else refused_or (secure_rules constants) old who operation (first_refusal (secure_checks constants old who operation))) is)) kept
    stepped who operation None runs been =
        let found : Option KvError = first_refusal (secure_checks constants old who operation) in
        let is = step_is who operation runs in
        let after : Outcome = refused_or (secure_rules constants) old who operation found in
        let rest = step_rest constants old who operation found in
        let within : IsSecure after.state = subst (λ (o : Outcome). IsSecure o.state) is (step_keeps_limits constants old who kept.within form operation) in
        subst (λ (o : Outcome). All o.state) (sym is)
        (running after.state (rest.doubt ∙ runs) within
        (step_keeps Was key past constants old who low old.next_vector kept.within.next_vector kept.within.open_set (of_running runs) operation found refl
        (subst (λ (o : Outcome). HasBeen Was key o.state.primary) is been)))

    failed : (who : ℕ) (operation : Operation) → FailsWriting (secure_rules constants) old who operation (refuses (failed_write (secure_rules constants) old who operation) error.WriteFault)
        → All (failed_write (secure_rules constants) old who operation)
    failed who operation (runs, may, is) = record {
      within = failed_write_keeps_limits constants old who kept.within operation may;
      keeps = subst (λ (n : ℕ). KeepsIn Was root key past low n (maps_of old) old.open_set) (sym (given_back (takes_number operation) old.next_vector)) (of_running runs);
      counted = one_more (takes_number operation) old.next_vector;
    }

    pub called : (who : ℕ) (operation : Operation) (outcome : Outcome) → Steps (secure_rules constants) old who operation outcome → HasBeen Was key outcome.state.primary → All outcome.state
    called who operation outcome (inl is) been =
        subst (λ (o : Outcome). All o.state) (sym is) (stepped who operation old.doubt refl (subst (λ (o : Outcome). HasBeen Was key o.state.primary) is been))
    called who operation outcome (inr (inl (runs, may, is))) been = subst (λ (o : Outcome). All o.state) (sym is) kept
    called who operation outcome (inr (inr (runs, may, is))) been = subst (λ (o : Outcome). All o.state) (sym is) (failed who operation (runs, may, refl))

    -- the next number doesn't fall
    step_rises : (who : ℕ) (operation : Operation) (doubt : Option Doubt) → old.doubt ≡ doubt → old.next_vector ≤ (secure_step constants old who operation).state.next_vector
    step_rises who operation (Some d) is =
        subst (λ (o : Outcome). old.next_vector ≤ o.state.next_vector)
        (sym (ap (λ (x : Option Doubt). if is_some x then refuses old error.Stopped else refused_or (secure_rules constants) old who operation (first_refusal (secure_checks constants old who operation))) is)) (omega arith)
    step_rises who operation None runs =
        subst (λ (o : Outcome). old.next_vector ≤ o.state.next_vector) (sym (step_is who operation runs))
        ((step_rest constants old who operation (first_refusal (secure_checks constants old who operation))).rises)

    pub rises : (who : ℕ) (operation : Operation) (outcome : Outcome) → Steps (secure_rules constants) old who operation outcome → old.next_vector ≤ outcome.state.next_vector
    rises who operation outcome (inl is) = subst (λ (o : Outcome). old.next_vector ≤ o.state.next_vector) (sym is) (step_rises who operation old.doubt refl)
    rises who operation outcome (inr (inl (runs, may, is))) = subst (λ (o : Outcome). old.next_vector ≤ o.state.next_vector) (sym is) (omega arith)
    rises who operation outcome (inr (inr (runs, may, is))) =
        subst (λ (o : Outcome). old.next_vector ≤ o.state.next_vector) (sym is) (not_less (takes_number operation) old.next_vector)

    -- ---- a mount

    abbrev before : StoreState
    before = before_doubt (secure_rules constants) old

    abbrev Left : Maps → Type 0
    Left maps = HasBeen Was key maps.primary → Keeps Was root key past low old.next_vector maps

    not_above : (doubt : Option Doubt) → option_map_or (λ (x : Doubt). number_given_back (takes_number x.operation) old.next_vector) doubt old.next_vector ≤ old.next_vector
    not_above None = omega arith
    not_above (Some d) = no_more (takes_number d.operation) old.next_vector

    number_again : (d : Doubt) → old.doubt ≡ Some d → number_taken (takes_number d.operation) before.next_vector ≤ old.next_vector
    number_again d is =
        subst (λ (n : ℕ). number_taken (takes_number d.operation) n ≤ old.next_vector)
        (sym (ap (λ (x : Option Doubt). option_map_or (λ (y : Doubt). number_given_back (takes_number y.operation) old.next_vector) x old.next_vector) is))
        (taken_again (takes_number d.operation) old.next_vector
        (subst (λ (x : Option Doubt). IfSome x (λ (y : Doubt). takes_number y.operation ≡ true → 1 ≤ old.next_vector)) is kept.counted))

    cut_kept : (d : Doubt) → old.doubt ≡ Some d → (maps : Maps) → Contains (cuts (secure_rules constants) old d.who d.operation) maps → Left maps
    cut_kept d is maps cut =
        let found : Option KvError = first_refusal (secure_checks constants before d.who d.operation) in
        let after : StoreState = (refused_or (secure_rules constants) before d.who d.operation found).state in
        let rest = step_rest constants before d.who d.operation found in
        let most : after.next_vector ≤ old.next_vector = let again = number_again d is in let number = rest.number in omega (arith, number, again) in
        let below : floor old.open_set before.next_vector ≤ old.next_vector = let least = floor_most old.open_set before.next_vector in let more = not_above old.doubt in omega (arith, least, more) in
        let first : Left (maps_of before) = λ been. keeps_later Was root key past low (floor old.open_set before.next_vector) old.next_vector (maps_of before) below kept.keeps.both in
        let whole : HasBeen Was key after.primary → KeepsIn Was root key past low after.next_vector (maps_of after) after.open_set =
        step_keeps Was key past constants before d.who low old.next_vector (small_before old.next_vector old.doubt kept.within.next_vector) kept.within.open_set kept.keeps d.operation found refl in
        let above : floor after.open_set after.next_vector ≤ old.next_vector = let least = floor_most after.open_set after.next_vector in omega (arith, least, most) in
        let third : Left (maps_of after) = λ been. keeps_later Was root key past low (floor after.open_set after.next_vector) old.next_vector (maps_of after) above (whole been).both in
        let second : Left (record { primary = after.primary; rollback = before.rollback }) = λ been. record {
          early = (third been).early;
          primary = (third been).primary;
          tag = rollback_later Was root key past (floor old.open_set before.next_vector) old.next_vector (get before.rollback key) below kept.keeps.both.tag;
        } in
        one_of_three Left (maps_of before) (record { primary = after.primary; rollback = before.rollback }) (maps_of after) maps first second third cut.0 cut.1 cut.2

    pub found_kept : (doubt : Option Doubt) → old.doubt ≡ doubt → (maps : Maps)
        → MatchOption doubt (maps ≡ maps_of old) (λ (d : Doubt). Contains (cuts (secure_rules constants) old d.who d.operation) maps) → Left maps
    found_kept None runs maps is been = subst (λ (m : Maps). Keeps Was root key past low old.next_vector m) (sym is)
        (keeps_later Was root key past low (floor old.open_set old.next_vector) old.next_vector (maps_of old) (floor_most old.open_set old.next_vector) (of_running runs).both)
    found_kept (Some d) is maps cut been = cut_kept d is maps cut been

    -- they are short
    cut_short : (d : Doubt) (maps : Maps) → Contains (cuts (secure_rules constants) old d.who d.operation) maps → ShortMaps maps
    cut_short d maps cut =
        let first = maps_short old kept.within in
        let third = step_short form constants before d.who (small_before old.next_vector old.doubt kept.within.next_vector) first old.next_vector kept.within.open_set d.operation in
        one_of_three ShortMaps _ _ _ maps first (record { primary = third.primary; rollback = first.rollback }) third cut.0 cut.1 cut.2

    pub found_short : (doubt : Option Doubt) (maps : Maps)
        → MatchOption doubt (maps ≡ maps_of old) (λ (d : Doubt). Contains (cuts (secure_rules constants) old d.who d.operation) maps) → ShortMaps maps
    found_short None maps is = subst ShortMaps (sym is) (maps_short old kept.within)
    found_short (Some d) maps cut = cut_short d maps cut

    -- the same mount with the old number
    abbrev pub remounted : Maps → StoreState
    remounted maps = mounted old (heal (secure_of constants) maps)

    remount : (doubt : Option Doubt) (maps : Maps)
        → MatchOption doubt (maps ≡ maps_of old) (λ (d : Doubt). Contains (cuts (secure_rules constants) old d.who d.operation) maps)
        → MatchOption doubt (remounted maps ≡ mounted old (heal (secure_of constants) (maps_of old)))
        (λ (d : Doubt). (m : Maps) × Contains (cuts (secure_rules constants) old d.who d.operation) m × (remounted maps ≡ mounted old (heal (secure_of constants) m)))
    remount None maps is = ap remounted is
    remount (Some d) maps cut = (maps, cut, refl)

    abbrev mount_entry : Entry
    mount_entry = record { seq = 0; who = 0; index = 0; call = Mount; reply = Done }

    pub remounted_within : (maps : Maps) → Finds constants old maps → IsSecure (remounted maps)
    remounted_within maps finds = follows_keeps_limits form constants old (remounted maps) mount_entry kept.within (refl, remount old.doubt maps finds)

    began : (maps : Maps) (number : ℕ) (new : StoreState) → Begins constants old maps number new → HasBeen Was key new.primary → All new
    began maps number new begins been =
        let there = remounted_within maps begins.finds in
        let has : HasBeen Was key maps.primary = subst (λ (s : StoreState). HasBeen Was key s.primary) begins.begun_so been in
        let here = heal_keeps Was root key past form (secure_of constants) refl low old.next_vector maps (found_kept old.doubt refl maps begins.finds has) has (heals (secure_of constants) maps key) in
        subst All (sym begins.begun_so) (record {
          within = record { primary = there.primary; rollback = there.rollback; open_set = tt; iterators = there.iterators; next_vector = begins.fits };
          keeps = record { both = keeps_later Was root key past low old.next_vector number (heal (secure_of constants) maps) begins.fresh here; taken = tt };
          counted = tt;
        })

    pub follows : (event : Event) (new : StoreState) → Follows constants old event new → HasBeen Was key new.primary → All new
    follows (Called who operation reply) new steps been = called who operation (record { state = new; reply = reply }) steps been
    follows (Began maps number) new begins been = began maps number new begins been

  -- ---- histories

  abbrev AllHave : List StoreState → Type 0
  AllHave states = (state : StoreState) → Contains states state → HasBeen Was key state.primary

  pub fewer_have : (first : StoreState) (states : List StoreState) → AllHave (first ∷ states) → AllHave states
  fewer_have first states have state within = have state (suc within.0, omega (arith, within.1), within.2)

  -- what is kept at one state is kept at every later one
  pub along : (events : List Event) (states : List StoreState) (old : StoreState) → PassesThrough constants old events states → AllHave states → All old
      → (later : StoreState) (k : ℕ) → k < length (old ∷ states) → slice_index_or (old ∷ states) k later ≡ later → All later
  along events states old passes have kept later zero below is = subst All is kept
  along [] [] old passes have kept later (suc k) below is = absurd (omega (arith, below))
  along [] (new ∷ states) old passes have kept later (suc k) below is = absurd passes
  along (event ∷ events) [] old passes have kept later (suc k) below is = absurd passes
  along (event ∷ events) (new ∷ states) old passes have kept later (suc k) below is =
      along events states new passes.1 (fewer_have new states have) (follows old kept event new passes.0 (have new (zero, omega arith, refl))) later k (omega (arith, below)) is

-- ---- the beginning

module _ (Was : List ℕ → Type 0) (key past : List ℕ) (constants : Constants) where
  empty_has : (P : Stored → Type 0) → IfSome (get (empty {X = Stored} {R = slice_cmp nat_cmp}) key) P
  empty_has P = subst (λ (o : Option Stored). IfSome o P) (sym (get-empty (slice_cmp nat_cmp) key)) tt

  pub first_kept : (number : ℕ) → number < 2 ^ 64 → KeepsAll Was key past constants 0 (fresh_state empty empty number)
  first_kept number fits = record {
    within = fresh_keeps_limits number fits;
    keeps = record { both = record { early = omega arith; primary = empty_has _; tag = empty_has _ }; taken = tt };
    counted = tt;
  }
