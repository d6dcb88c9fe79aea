-- What becomes of a session's log, line by line.
use Rattle.std.proofs.Common.{◌≡◌, ◌≢◌, ℕ, ◌+◌, ◌-◌, ◌*◌, Bool, true, false, IsTrue, All, List, [], ◌∷◌, ◌++◌, refl, sym, ◌∙◌, ap, subst, arith}
use Rattle.std.specs.Prelude.{Option, Some, None, MatchOption, is_some}
use Rattle.std.proofs.lemmas.List.Elements.{All-head, All-tail}
use mathlib.Core.Bool.{false≢true}
use Rattle.flash_core.specs.declared.geometry.Geometry.{Geometry}
use Rattle.flash_core.specs.Images.{IsErased}
use Rattle.flash_core.specs.Runs.{Done as WasDone}
use Rattle.flash_core.specs.Sizes.{IsValid, area_size}
use Rattle.flash_core.proofs.GeometryLaws.{prog_positive}
use Rattle.flash_sim.specs.ChipState.{ChipState}
use Rattle.kv_model.specs.declared.call.Entry.{Entry}
use Rattle.kv_model.specs.declared.call.Reply.{Reply}
use Rattle.kv_model.specs.declared.call.Reply.TheVariants.{Refused}
use Rattle.kv_model.specs.declared.error.KvError.TheVariants as error
use Rattle.kv_model.specs.Constants.{Constants}
use Rattle.kv_model.specs.History.{Follows, Runs}
use Rattle.kv_model.specs.Kv.{Does, Keeps, KvState, UnlessFailedWrite, answered, kind_of}
use Rattle.kv_model.specs.LogStep.{LogFollows}
use Rattle.kv_model.specs.Opening.{Log}
use Rattle.kv_model.specs.Operations.{Operation, operation_of}
use Rattle.kv_model.specs.PlainStep.{plain_rules}
use Rattle.kv_model.specs.Rules.{Rules}
use Rattle.kv_model.specs.StoreState.{OpenSet, StoreState}
use Rattle.kv_model.specs.Writes.{writes}
use Rattle.record_core.specs.Mounts.{Contents, active_area}
use Rattle.record_core.proofs.MountLemmas.{one_contents}
use Rattle.plain_store.proofs.CallLemmas.{some_is}
use Rattle.tdb_mount.specs.Choice.{version_in}
use Rattle.tdb_mount.specs.Format.{Leaves, LeavesBy}
use Rattle.tdb_read.specs.States.{other_part}
use Rattle.session_core.specs.Growing.{GrowsBy, IsTold, LogGoes, LogGoesOn, RunsLog, Told, grown}
use Rattle.session_core.specs.Power.{HasPower, IsOrdinary, Steady, TellsNoCut}
use Rattle.session_core.specs.Telling.{HasLog, IsLogIn, TellsLog}
use Rattle.session_core.proofs.GrowLemmas.{Turns, all_grown}
use Rattle.session_core.proofs.RunningLemmas.{runs_after}
use Rattle.session_core.proofs.TurnLemmas.{turned}

there_is : {X : Type 0} (o : Option X) → is_some o ≡ true → (x : X) × (o ≡ Some x)
there_is None is = absurd (false≢true is)
there_is (Some x) is = (x, refl)

none_is : {X : Type 0} (o : Option X) → is_some o ≡ false → o ≡ None
none_is None is = refl
none_is (Some x) is = absurd (false≢true (sym is))

-- ---- one log of an image

same_truth : (a b : Bool) → (IsTrue a → IsTrue b) → (IsTrue b → IsTrue a) → a ≡ b
same_truth true true to back = refl
same_truth true false to back = sym (to refl)
same_truth false true to back = back refl
same_truth false false to back = refl

erased_as : (image : List ℕ) (size m n : ℕ) (c d : Contents) → m ≡ n → c ≡ d → IsErased image c.end ((m * size + size) - c.end) → IsErased image d.end ((n * size + size) - d.end)
erased_as image size m n c d number same is =
    subst (λ (k : ℕ). IsErased image d.end ((k * size + size) - d.end)) number (subst (λ (x : Contents). IsErased image x.end ((m * size + size) - x.end)) same is)

pub one_log : (g : Geometry) (image : List ℕ) → IsValid g → (a b : Log) → IsLogIn g image a → IsLogIn g image b → a ≡ b
one_log g image valid a b is_a is_b =
    let same : is_a.contents ≡ is_b.contents = one_contents g image (prog_positive g valid) is_a.contents is_b.contents is_a.holds is_b.holds in
    let active : a.active ≡ b.active = some_is (sym is_a.active ∙ ap (λ (c : Contents). active_area c.first c.second) same ∙ is_b.active) in
    let versions : version_in is_a.contents.first is_a.contents.second a.active ≡ version_in is_b.contents.first is_b.contents.second b.active =
    λ i. version_in (same i).first (same i).second (active i) in
    let version : a.version ≡ b.version = some_is (sym is_a.version ∙ versions ∙ is_b.version) in
    let records : a.records ≡ b.records = is_a.records ∙ ap (λ (c : Contents). c.records) same ∙ sym is_b.records in
    let clean : a.is_clean ≡ b.is_clean = same_truth a.is_clean b.is_clean
    (λ it. is_b.clean.1 (erased_as image (area_size g) a.active b.active is_a.contents is_b.contents active same (is_a.clean.0 it)))
    (λ it. is_a.clean.1 (erased_as image (area_size g) b.active a.active is_b.contents is_a.contents (sym active) (sym same) (is_b.clean.0 it))) in
    let other : a.other ≡ b.other = is_a.other ∙ ap (λ (k : ℕ). other_part g k image) active ∙ sym is_b.other in
    λ i. record { active = active i; version = version i; records = records i; is_clean = clean i; other = other i }

-- a mount leaves the log of an image of which some area is valid
pub mount_leaves : (g : Geometry) (image left : List ℕ) → IsValid g → Leaves g image left WasDone → (a b : Log) → IsLogIn g image a → IsLogIn g left b → b ≡ a
mount_leaves g image left valid leaves a b is_a is_b =
    let same : left ≡ image = subst (LeavesBy g image left WasDone) is_a.active (leaves is_a.contents.first is_a.contents.second is_a.holds.first_master is_a.holds.second_master) in
    one_log g image valid b a (subst (λ (l : List ℕ). IsLogIn g l b) same is_b) is_a

-- ---- one line

pub one_run : (rules : Rules) (old new : StoreState) (e : Entry) → Runs rules old (e ∷ []) new → Follows rules old e new
one_run rules old new e ([], passes, is) = absurd passes
one_run rules old new e (s ∷ [], passes, is) = subst (Follows rules old e) (sym is) passes.0
one_run rules old new e (s ∷ t ∷ states, passes, is) = absurd passes.1

module _ (old new : KvState) where
  -- nothing is noted, and what is told stands
  pub log_stood : new.known.state ≡ old.known.state → new.known.log ≡ old.known.log → LogGoesOn old new []
  log_stood state log before told = (before, record { state = state ∙ told.state; log = log ∙ told.log }, refl)

  -- a store that was mounted
  pub log_mounted : (e : Entry) → operation_of e.call ≡ None → (after : StoreState) → new.known.state ≡ Some after
      → ((before : StoreState) → old.known.state ≡ Some before → Follows (plain_rules old.known.constants) before e after)
      → (later : Log) → new.known.log ≡ Some later → ((before : Told) → IsTold old before → is_some before.state.doubt ≡ false → later ≡ before.log)
      → LogGoesOn old new (e ∷ [])
  log_mounted e mounts after state follows later log stands before told =
      let there : Told = record { state = after; log = later } in
      let goes : LogGoes old.known.constants before e later =
      subst (λ (o : Option Operation). MatchOption o (is_some before.state.doubt ≡ false → later ≡ before.log)
      (λ (op : Operation). UnlessFailedWrite (kind_of e.reply) (LogFollows old.known.constants before.state before.log later op e.reply)))
      (sym mounts) (stands before told) in
      (there, record { state = state; log = log }, (there, follows before.state told.state, goes, refl))

  module _ (who : ℕ) (reply : Reply) where
    abbrev DoneBy : Option Operation → Type 0
    DoneBy found = MatchOption found ⊥ (λ (op : Operation). Does plain_rules old new (answered who op reply))

    keeps_by : (found : Option Operation) → DoneBy found → Keeps old new
    keeps_by None does = absurd does
    keeps_by (Some op) does = does.keeps

    goes_by : (found : Option Operation) → DoneBy found → (before : Told) → IsTold old before → (later : Log) → new.known.log ≡ Some later
        → MatchOption found (is_some before.state.doubt ≡ false → later ≡ before.log)
        (λ (op : Operation). UnlessFailedWrite (kind_of reply) (LogFollows old.known.constants before.state before.log later op reply))
    goes_by None does before told later is = absurd does
    goes_by (Some op) does before told later is = does.log before.state told.state before.log told.log later is

    -- a call
    pub log_called : (e : Entry) → e.reply ≡ reply → DoneBy (operation_of e.call)
        → ((before : StoreState) → old.known.state ≡ Some before → (after : StoreState) → new.known.state ≡ Some after → Follows (plain_rules old.known.constants) before e after)
        → LogGoesOn old new (e ∷ [])
    log_called e replies does follows before told =
        let keeps = keeps_by (operation_of e.call) does in
        let after = there_is new.known.state (keeps.tells_state ∙ ap is_some told.state) in
        let later = there_is new.known.log (keeps.tells_log ∙ ap is_some told.log) in
        let there : Told = record { state = after.0; log = later.0 } in
        let goes : LogGoes old.known.constants before e later.0 =
        subst (λ (r : Reply). MatchOption (operation_of e.call) (is_some before.state.doubt ≡ false → later.0 ≡ before.log)
        (λ (op : Operation). UnlessFailedWrite (kind_of r) (LogFollows old.known.constants before.state before.log later.0 op r)))
        (sym replies) (goes_by (operation_of e.call) does before told later.0 later.1) in
        (there, record { state = after.1; log = later.1 }, (there, follows before.state told.state after.0 after.1, goes, refl))

-- ---- lines and then others

runs_log_joined : (constants : Constants) (old mid new : Told) (entries more : List Entry) → RunsLog constants old entries mid → RunsLog constants mid more new
    → RunsLog constants old (entries ++ more) new
runs_log_joined constants old mid new [] more is next = subst (λ (t : Told). RunsLog constants t more new) is next
runs_log_joined constants old mid new (e ∷ entries) more (between, follows, goes, runs) next =
    (between, follows, goes, runs_log_joined constants between mid new entries more runs next)

pub log_joined : (first mid last : KvState) (entries more : List Entry) → mid.known.constants ≡ first.known.constants → LogGoesOn first mid entries → LogGoesOn mid last more
    → LogGoesOn first last (entries ++ more)
log_joined first mid last entries more same goes next before told =
    let here = goes before told in
    let there = next here.0 here.1 in (
      there.0,
      there.1,
      runs_log_joined first.known.constants before here.0 there.0 entries more here.2
          (subst (λ (c : Constants). RunsLog c here.0 more there.0) same there.2),
    )

-- ---- a whole run that no device made to fail

module _ (constants : Constants) where
  pub turns_of : (old new : Told) (entries : List Entry) → is_some old.state.doubt ≡ false → All (λ (e : Entry). IsOrdinary e.reply) entries
      → All (λ (e : Entry). TellsNoCut e.reply) entries → RunsLog constants old entries new → Turns constants old.state.open_set old.log entries new.log
  turns_of old new [] running ordinary uncut runs = ap (λ (t : Told). t.log) runs
  turns_of old new (e ∷ entries) running ordinary uncut (mid, follows, goes, runs) =
      let answered_so : IsOrdinary e.reply = All-head (λ (e : Entry). IsOrdinary e.reply) e entries ordinary in
      let no_write : e.reply ≢ Refused error.WriteFault = (All-head (λ (e : Entry). TellsNoCut e.reply) e entries uncut).no_write_fault in
      let one = turned constants old.state old.log mid.log e.who running mid.state e.reply answered_so no_write e.call follows goes in
      let later = turns_of mid new entries (runs_after constants old.state mid.state e.who e.reply running answered_so.no_read_fault no_write (operation_of e.call) follows)
      (All-tail (λ (e : Entry). IsOrdinary e.reply) e entries ordinary) (All-tail (λ (e : Entry). TellsNoCut e.reply) e entries uncut) runs in
      (mid.log, one.turn, subst (λ (set : Option OpenSet). Turns constants set mid.log entries new.log) one.set later)

  -- the store runs on
  runs_last : (old new : Told) (entries : List Entry) → is_some old.state.doubt ≡ false → All (λ (e : Entry). IsOrdinary e.reply) entries
      → All (λ (e : Entry). TellsNoCut e.reply) entries → RunsLog constants old entries new → is_some new.state.doubt ≡ false
  runs_last old new [] running ordinary uncut runs = ap (λ (t : Told). is_some t.state.doubt) runs ∙ running
  runs_last old new (e ∷ entries) running ordinary uncut (mid, follows, goes, runs) =
      let no_read : e.reply ≢ Refused error.ReadFault = (All-head (λ (e : Entry). IsOrdinary e.reply) e entries ordinary).no_read_fault in
      let no_write : e.reply ≢ Refused error.WriteFault = (All-head (λ (e : Entry). TellsNoCut e.reply) e entries uncut).no_write_fault in
      runs_last mid new entries (runs_after constants old.state mid.state e.who e.reply running no_read no_write (operation_of e.call) follows)
      (All-tail (λ (e : Entry). IsOrdinary e.reply) e entries ordinary) (All-tail (λ (e : Entry). TellsNoCut e.reply) e entries uncut) runs

no_active : {P : Type 0} (set : Option OpenSet) (x : OpenSet) → set ≡ None → set ≡ Some x → P
no_active set x none some = absurd (false≢true (sym (ap is_some none) ∙ ap is_some some))

-- the log of a run on a store with power grows
pub log_grows : (old new : KvState) (entries : List Entry) → HasPower old Steady → All (λ (e : Entry). IsOrdinary e.reply) entries
    → All (λ (e : Entry). TellsNoCut e.reply) entries → LogGoesOn old new entries → (chip : ChipState) → TellsLog chip new → GrowsBy old chip new entries
log_grows old new entries power ordinary uncut goes chip tells before told none wants =
    let here = goes before told in
    let running : is_some before.state.doubt ≡ false = ap (λ (s : StoreState). is_some s.doubt) (some_is (sym told.state ∙ power.told)) ∙ power.stopped in
    let turns = turns_of old.known.constants before here.0 entries running ordinary uncut here.2 in
    let turns_none : Turns old.known.constants None before.log entries here.0.log =
    subst (λ (set : Option OpenSet). Turns old.known.constants set before.log entries here.0.log) none turns in
    let grows : here.0.log ≡ grown before.log (writes None entries) =
    all_grown old.known.constants None before.log here.0.log entries turns_none wants.resets (counts wants.finishes)
    (λ x is. no_active None x refl is) (λ is. wants.clean) wants.fits in
    let runs : here.0.state.doubt ≡ None = none_is here.0.state.doubt (runs_last old.known.constants before here.0 entries running ordinary uncut here.2) in
    let has = tells here.0.state here.1.state runs in
    subst (HasLog chip new) (some_is (sym has.1.told ∙ here.1.log) ∙ grows) has.1 where
      counts : {a b : ℕ} → a ≡ b → b + 0 ≡ a
      counts is = omega (arith, is)
