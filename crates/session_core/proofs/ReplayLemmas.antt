-- How a replay goes on by one line.
use Rattle.std.proofs.Common.{◌≡◌, ◌≢◌, ◌⊎◌, ℕ, ◌+◌, ◌≤◌, Bool, true, false, map, List, [], ◌∷◌, ◌++◌, length, refl, sym, ◌∙◌, ap, subst, inl, inr, append_assoc, arith}
use Rattle.std.specs.Prelude.{Option, Some, None, Result, Ok, Err, is_some, take}
use Rattle.std.proofs.lemmas.Grind.{flat_map-append}
use Rattle.std.proofs.lemmas.List.{append-nil, length-append, length-map, map-append}
use Rattle.std.proofs.Math.Seq.{take-append-add, take-append_seam}
use mathlib.Core.Bool.{false≢true}
use Rattle.base_core.specs.declared.no_memory.NoMemory.{NoMemory}
use Rattle.flash_core.specs.declared.geometry.Geometry.{Geometry}
use Rattle.kv_model.specs.declared.call.Call.{Call}
use Rattle.kv_model.specs.declared.call.Call.TheVariants as call
use Rattle.kv_model.specs.declared.call.Entry.{Entry}
use Rattle.kv_model.specs.declared.call.Reply.{Reply}
use Rattle.kv_model.specs.declared.call.Reply.TheVariants.{Done, Refused}
use Rattle.kv_model.specs.declared.error.KvError.TheVariants as error
use Rattle.kv_model.specs.declared.pattern.Pattern.{Pattern}
use Rattle.kv_model.specs.Arming.{Arms}
use Rattle.kv_model.specs.Constants.{Constants}
use Rattle.kv_model.specs.History.{AreNumbered, IsLegal, Runs}
use Rattle.kv_model.specs.Kv.{KvState}
use Rattle.kv_model.specs.Orders.{Line, line_of}
use Rattle.kv_model.specs.Performs.{Performs}
use Rattle.kv_model.specs.Opening.{Log}
use Rattle.kv_model.specs.Rules.{Mounts}
use Rattle.kv_model.specs.StoreState.{StoreState}
use Rattle.plain_store.proofs.CallLemmas.{some_is}
use Rattle.journal_core.specs.JournalState.{JournalState, next_entry}
use Rattle.kv_memory.specs.Going.{HasGoneOn, Seen, seen}
use Rattle.kv_memory.proofs.GoingLemmas.{begun, performed, runs_joined, unperformed}
use Rattle.script_core.specs.declared.line.Act.{Act}
use Rattle.script_core.specs.declared.line.Act.TheVariants.{Do, Cut}
use Rattle.script_core.specs.declared.line.Line.{Line as ScriptLine}
use Rattle.script_core.specs.declared.line.Side.{Side}
use Rattle.script_core.specs.LineOrder.{InOrder, call_of, calls_of}
use Rattle.session_core.specs.declared.ended.Ended.{Ended}
use Rattle.session_core.specs.declared.ended.Ended.TheVariants as ended
use Rattle.session_core.specs.declared.session.Session.{Session}
use Rattle.session_core.specs.Backing.{session_rules}
use Rattle.session_core.specs.Growing.{IsTold, LogGoesOn, Told}
use Rattle.session_core.specs.Laws.{session_is_lawful}
use Rattle.session_core.specs.Mounting.{LeadsOn}
use Rattle.session_core.specs.Power.{HasPower, LeavesPower, Power, Steady, Shows, ShowsCuts, acts_of, after_call, after_cut, write_faults_in}
use Rattle.session_core.specs.Replaying.{HasReplayed, KeepsPower, LogsAct, Replays, RunsLine, ShowsAct, StillTells, seen_in}
use Rattle.session_core.specs.Settling.{IsSessionChance, IsSettled, IsUnmounted}
use Rattle.session_core.specs.Telling.{IsLogIn}
use Rattle.session_core.specs.Views.{primary_in, state_in}
use Rattle.session_core.proofs.AreaLemmas.{same_areas}
use Rattle.session_core.proofs.CutLemmas.{lost_by_fault, shows_cuts}
use Rattle.session_core.proofs.LogLemmas.{log_called, log_grows, log_joined, log_mounted, log_stood, mount_leaves, one_run}
use Rattle.session_core.proofs.MountLemmas.{tells_state, told_log, valid_by}
use Rattle.session_core.proofs.PowerLemmas.{arm_shows, call_shows, shows_joined}
use Rattle.session_core.proofs.RunningLemmas.{mounted_runs}

none_told : {X P : Type 0} (x : X) → None ≡ Some x → P
none_told x is = absurd (false≢true (ap is_some is))

there_is : {X : Type 0} (o : Option X) → is_some o ≡ true → (x : X) × (o ≡ Some x)
there_is None is = absurd (false≢true is)
there_is (Some x) is = (x, refl)

-- calls alone
pub of_calls : (old new : Seen) (lines : List Line) → HasGoneOn session_rules old new lines → HasReplayed old new lines
of_calls old new lines gone = record {
  constants = gone.keeps.constants;
  more = gone.more;
  entries = gone.entries;
  lines_are = gone.lines_are;
  numbered = gone.numbered;
  runs = gone.runs;
}

module _ (old new : KvState) (entries : List Entry) where
  -- nothing is noted, and the state stands
  pub stood : new.known.constants ≡ old.known.constants → new.known.state ≡ old.known.state → HasReplayed (seen old entries) (seen new entries) []
  stood constants state = record {
    constants = constants;
    more = [];
    entries = sym (append-nil entries);
    lines_are = refl;
    numbered = tt;
    runs = λ before told after later. ([], tt, some_is (sym later ∙ state ∙ told));
  }

  -- nothing is noted, and no state is told any more
  pub went_silent : new.known.constants ≡ old.known.constants → new.known.state ≡ None → HasReplayed (seen old entries) (seen new entries) []
  went_silent constants silent = record {
    constants = constants;
    more = [];
    entries = sym (append-nil entries);
    lines_are = refl;
    numbered = tt;
    runs = λ before told after later. none_told after (sym silent ∙ later);
  }

  -- a mount is noted
  pub one_mount : LeadsOn old new → HasReplayed (seen old entries) (seen new (entries ++ next_entry entries 0 call.Mount Done ∷ [])) ((0, call.Mount) ∷ [])
  one_mount leads = record {
    constants = leads.constants;
    more = next_entry entries 0 call.Mount Done ∷ [];
    entries = refl;
    lines_are = refl;
    numbered = (refl, refl, tt);
    runs = λ before told after later. (after ∷ [], ((refl, leads.leads before told after later), tt), refl);
  }

numbered_joined : (earlier entries more : List Entry) → AreNumbered earlier entries → AreNumbered (earlier ++ entries) more → AreNumbered earlier (entries ++ more)
numbered_joined earlier [] more numbered next = subst (λ (l : List Entry). AreNumbered l more) (append-nil earlier) next
numbered_joined earlier (e ∷ entries) more numbered next =
    (numbered.0, numbered.1, numbered_joined (earlier ++ e ∷ []) entries more numbered.2 (subst (λ (l : List Entry). AreNumbered l more) (sym (append_assoc earlier (e ∷ []) entries)) next))

-- a run and then another
pub joined : (first mid last : Seen) (lines more : List Line) → (is_some first.store.known.state ≡ true → is_some mid.store.known.state ≡ true)
    → HasReplayed first mid lines → HasReplayed mid last more → HasReplayed first last (lines ++ more)
joined first mid last lines more still ran then_ran = record {
  constants = then_ran.constants ∙ ran.constants;
  more = ran.more ++ then_ran.more;
  entries = then_ran.entries ∙ ap (λ (l : List Entry). l ++ then_ran.more) ran.entries ∙ append_assoc first.entries ran.more then_ran.more;
  lines_are = map-append line_of ran.more then_ran.more ∙ (λ i. ran.lines_are i ++ then_ran.lines_are i);
  numbered = numbered_joined first.entries ran.more then_ran.more ran.numbered
      (subst (λ (l : List Entry). AreNumbered l then_ran.more) ran.entries then_ran.numbered);
  runs = λ before told after later.
      let there = there_is mid.store.known.state (still (ap is_some told)) in
      let rules = session_rules first.store.known.constants in
      let next : Runs rules there.0 then_ran.more after =
      subst (λ (c : Constants). Runs (session_rules c) there.0 then_ran.more after) ran.constants (then_ran.runs there.0 there.1 after later) in
      runs_joined rules before there.0 after ran.more then_ran.more (ran.runs before told there.0 there.1) next;
}

-- from an empty journal on
pub legal : (old new : KvState) (entries : List Entry) (lines : List Line) → HasReplayed (seen old []) (seen new entries) lines
    → (before : StoreState) → old.known.state ≡ Some before → (after : StoreState) → new.known.state ≡ Some after
    → IsLegal (session_rules old.known.constants) before entries after
legal old new entries lines ran before told after later = record {
  numbered = subst (AreNumbered []) (sym ran.entries) ran.numbered;
  runs = subst (λ (l : List Entry). Runs (session_rules old.known.constants) before l after) (sym ran.entries) (ran.runs before told after later);
}

pub in_order : (old new : KvState) (entries : List Entry) (lines : List Line) → HasReplayed (seen old []) (seen new entries) lines → map line_of entries ≡ lines
in_order old new entries lines ran = ap (map line_of) ran.entries ∙ ran.lines_are

-- ---- one line

none_of : {X : Type 0} (o : Option X) → is_some o ≡ false → o ≡ None
none_of None is = refl
none_of (Some x) is = absurd (false≢true (sym is))

module _ (old new : Session) (entries : List Entry) where
  mount_power : IsSettled old new → (power : Power) → HasPower (state_in old) power → HasPower (state_in new) Steady
  mount_power is power has =
      let there = there_is (state_in new).known.state (tells_state new.hash_bits new.store new.chips ∙ is.is_mounted) in
      let sound : (state_in new).known.sound ≡ true = is.mounted.sound in
      record {
        state = there.0;
        told = there.1;
        stopped = mounted_runs (session_rules (state_in old).known.constants) has.state there.0 (is.leads.leads has.state has.told there.0 there.1);
        device = (sound, (session_is_lawful new.hash_bits new.store new.chips).sound_is_steady sound);
      }

  -- a mount of a store that runs leaves its image, and so its log
  log_stands : IsSettled old new → (later : Log) → IsLogIn (primary_in new).geometry (primary_in new).image later → (before : Told) → IsTold (state_in old) before
      → is_some before.state.doubt ≡ false → later ≡ before.log
  log_stands is later later_is before told running =
      let chip = primary_in old in
      let here = told_log old.hash_bits old.store old.chips before.state told.state (none_of before.state.doubt running) in
      let same : here.0 ≡ before.log = some_is (sym here.1.told ∙ told.log) in
      let left : IsLogIn chip.geometry (primary_in new).image later =
      subst (λ (g : Geometry). IsLogIn g (primary_in new).image later) is.mounted.kept.geometry later_is in
      mount_leaves chip.geometry chip.image (primary_in new).image (valid_by old.store old.chips old.one) is.mounted.leaves before.log later
      (subst (IsLogIn chip.geometry chip.image) same here.1.is) left

  mount_logs : IsSettled old new → LogGoesOn (state_in old) (state_in new) (next_entry entries 0 call.Mount Done ∷ [])
  mount_logs is =
      let there = there_is (state_in new).known.state (tells_state new.hash_bits new.store new.chips ∙ is.is_mounted) in
      let follows : (before : StoreState) → (state_in old).known.state ≡ Some before → Mounts (session_rules (state_in old).known.constants) before there.0 =
      λ before told. is.leads.leads before told there.0 there.1 in
      λ before told.
      let runs = mounted_runs (session_rules (state_in old).known.constants) before.state there.0 (follows before.state told.state) in
      let later = told_log new.hash_bits new.store new.chips there.0 there.1 (none_of there.0.doubt runs) in
      log_mounted (state_in old) (state_in new) (next_entry entries 0 call.Mount Done) refl there.0 there.1 (λ state is_told. (refl, follows state is_told))
      later.0 later.1.told (log_stands is later.0 later.1.is) before told

  pub mount_done : (who : ℕ) → who ≡ 0 → IsSettled old new → RunsLine old new entries (entries ++ next_entry entries 0 call.Mount Done ∷ []) (record { who = who; act = Do call.Mount }) ended.Whole
  mount_done who first is = (
    subst (λ (w : ℕ). HasReplayed (seen_in old entries) (seen_in new (entries ++ next_entry entries 0 call.Mount Done ∷ [])) ((w, call.Mount) ∷ [])) (sym first)
        (one_mount (state_in old) (state_in new) entries is.leads),
    (λ told. tells_state new.hash_bits new.store new.chips ∙ is.is_mounted),
    (λ power has. (next_entry entries 0 call.Mount Done ∷ [], Steady, refl, (refl, refl), mount_power is power has)),
    (next_entry entries 0 call.Mount Done ∷ [], refl, mount_logs is),
  )

  pub mount_chance : (side : Side) (place : ℕ) → IsSessionChance old (Some (side, place)) → new ≡ old
      → RunsLine old new entries entries (record { who = 0; act = Do call.Mount }) (ended.Chance side place)
  mount_chance side place chance same = (
    stood (state_in old) (state_in new) entries (ap (λ (s : Session). (state_in s).known.constants) same) (ap (λ (s : Session). (state_in s).known.state) same),
    (λ told. ap (λ (s : Session). is_some (state_in s).known.state) same ∙ told),
    subst (λ (s : Session). IsSessionChance s (Some (side, place))) (sym same) chance,
    refl,
    refl,
    (λ power has. subst (λ (s : Session). HasPower (state_in s) power) (sym same) has),
  )

  pub mount_memory : (line : ScriptLine) → (new ≡ old) ⊎ IsUnmounted old new → RunsLine old new entries entries line ended.Memory
  mount_memory line (inl same) = (stood (state_in old) (state_in new) entries (ap (λ (s : Session). (state_in s).known.constants) same) (ap (λ (s : Session). (state_in s).known.state) same), refl)
  mount_memory line (inr is) = (
    went_silent (state_in old) (state_in new) entries is.constants (none_of (state_in new).known.state (tells_state new.hash_bits new.store new.chips ∙ is.not_mounted)),
    refl,
  )

  module _ (who : ℕ) (asked : Call) where
    gone_on : (reply : Reply) → (reply ≢ Refused error.Memory) → Performs session_rules (state_in old) (state_in new) who asked (Ok reply)
        → HasGoneOn session_rules (seen_in old entries) (seen_in new (entries ++ next_entry entries who asked reply ∷ [])) ((who, asked) ∷ [])
    gone_on reply other does = performed session_rules (seen_in old entries) (state_in old) (state_in new) entries [] who asked reply other
        (begun session_rules (state_in old) entries) does

    call_logs : (reply : Reply) → (reply ≢ Refused error.Memory) → Performs session_rules (state_in old) (state_in new) who asked (Ok reply)
        → LogGoesOn (state_in old) (state_in new) (next_entry entries who asked reply ∷ [])
    call_logs reply other does = log_called (state_in old) (state_in new) who reply (next_entry entries who asked reply) refl does
        (λ before told after later.
        let gone = performed session_rules (seen_in old []) (state_in old) (state_in new) [] [] who asked reply other (begun session_rules (state_in old) []) does in
        one_run (session_rules (state_in old).known.constants) before after (next_entry [] who asked reply)
        (subst (λ (l : List Entry). Runs (session_rules (state_in old).known.constants) before l after) (sym gone.entries) (gone.runs before told after later)))

    pub call_done : (reply : Reply) → (reply ≢ Refused error.Memory) → Performs session_rules (state_in old) (state_in new) who asked (Ok reply)
        → RunsLine old new entries (entries ++ next_entry entries who asked reply ∷ []) (record { who = who; act = Do asked }) ended.Whole
    call_done reply other does =
        let gone = gone_on reply other does in (
          of_calls (seen_in old entries) (seen_in new (entries ++ next_entry entries who asked reply ∷ [])) ((who, asked) ∷ []) gone,
          (λ told. gone.keeps.tells_state ∙ told),
          (λ power has.
              let shows = call_shows (state_in old) (state_in new) who power has asked reply other does in
              (next_entry entries who asked reply ∷ [], after_call power asked reply, refl, (shows.0, refl), shows.1)),
          (next_entry entries who asked reply ∷ [], refl, call_logs reply other does),
        )

    pub call_memory : (none : NoMemory) → Performs session_rules (state_in old) (state_in new) who asked (Err none)
        → RunsLine old new entries entries (record { who = who; act = Do asked }) ended.Memory
    call_memory none does = (
      of_calls (seen_in old entries) (seen_in new entries) []
          (unperformed session_rules (seen_in old entries) (state_in old) (state_in new) entries [] who asked none (begun session_rules (state_in old) entries) does),
      refl,
    )

  pub cut_armed : (pattern : Pattern) (result : Result Unit NoMemory) (who : ℕ) (side : Side) (n : ℕ) → Arms (state_in old) (state_in new) pattern result
      → RunsLine old new entries entries (record { who = who; act = Cut side n pattern }) ended.Whole
  cut_armed pattern result who side n arms = (
    stood (state_in old) (state_in new) entries arms.constants arms.state,
    (λ told. ap is_some arms.state ∙ told),
    (λ power has. ([], after_cut power, sym (append-nil entries), refl, arm_shows (state_in old) (state_in new) who power has pattern result arms)),
    ([], sym (append-nil entries), log_stood (state_in old) (state_in new) arms.state arms.log),
  )

  pub cut_memory : (pattern : Pattern) (result : Result Unit NoMemory) (line : ScriptLine) → Arms (state_in old) (state_in new) pattern result
      → RunsLine old new entries entries line ended.Memory
  cut_memory pattern result line arms = (stood (state_in old) (state_in new) entries arms.constants arms.state, refl)

-- ---- the whole replay

-- the replies so far show what became of the power
abbrev pub ShowsSoFar : Session → Session → List ScriptLine → List Entry → Type 0
ShowsSoFar first mid lines entries = (power : Power) → HasPower (state_in first) power
    → (now : Power) × Shows power (acts_of lines) entries now × HasPower (state_in mid) now

shown_whole : (first mid : Session) (lines : List ScriptLine) (entries : List Entry) → ShowsSoFar first mid lines entries → (power : Power) → HasPower (state_in first) power
    → ShowsCuts power lines entries
shown_whole first mid lines entries shows power has =
    let all = shows power has in
    subst (λ (l : List ScriptLine). ShowsCuts power l entries) (append-nil lines) (shows_cuts power all.0 lines [] entries all.1)

-- what was shown of the first lines is shown of all
shown_first : (first mid : Session) (before rest : List ScriptLine) (entries : List Entry) → ShowsSoFar first mid before entries → (power : Power) → HasPower (state_in first) power
    → ShowsCuts power (before ++ rest) entries
shown_first first mid before rest entries shows power has = let all = shows power has in shows_cuts power all.0 before rest entries all.1

-- the power that is left
power_left : (first mid last : Session) (lines : List ScriptLine) (entries later : List Entry) → ShowsSoFar first mid lines entries → KeepsPower mid last → later ≡ entries
    → (power : Power) → HasPower (state_in first) power → LeavesPower (state_in last) power later
power_left first mid last lines entries later shows keeps is power has =
    let all = shows power has in
    record {
      after = all.0;
      has = keeps all.0 all.2;
      failed = λ runs lost. subst (λ (l : List Entry). 1 ≤ write_faults_in l) (sym is) (lost_by_fault power all.0 (acts_of lines) entries all.1 runs lost);
    }

-- the line behind some
take_one : (before rest : List ScriptLine) (line : ScriptLine) → take (length before + 1) (before ++ line ∷ rest) ≡ before ++ line ∷ []
take_one before rest line = take-append-add before (line ∷ rest) 1

abbrev is_whole : Ended → Bool
is_whole ended.Whole = true
is_whole e = false

module _ (first mid last : Session) (before : List ScriptLine) (line : ScriptLine) (entries later : List Entry) (still : StillTells first mid)
    (ran : HasReplayed (seen_in first []) (seen_in mid entries) (calls_of before)) where
  -- one line more
  more_calls : calls_of (before ++ line ∷ []) ≡ calls_of before ++ call_of line.who line.act
  more_calls = flat_map-append (λ (l : ScriptLine). call_of l.who l.act) before (line ∷ [])
      ∙ ap (λ (l : List Line). calls_of before ++ l) (append-nil (call_of line.who line.act))

  pub one_line : HasReplayed (seen_in mid entries) (seen_in last later) (call_of line.who line.act) → HasReplayed (seen_in first []) (seen_in last later) (calls_of (before ++ line ∷ []))
  one_line then_ran = subst (HasReplayed (seen_in first []) (seen_in last later)) (sym more_calls)
      (joined (seen_in first []) (seen_in mid entries) (seen_in last later) (calls_of before) (call_of line.who line.act) still ran then_ran)

  no_line : HasReplayed (seen_in mid entries) (seen_in last later) [] → HasReplayed (seen_in first []) (seen_in last later) (calls_of before)
  no_line then_ran = subst (HasReplayed (seen_in first []) (seen_in last later)) (append-nil (calls_of before))
      (joined (seen_in first []) (seen_in mid entries) (seen_in last later) (calls_of before) [] still ran then_ran)

  pub more_shown : ShowsAct mid last entries later line.act → ShowsSoFar first mid before entries → ShowsSoFar first last (before ++ line ∷ []) later
  more_shown shows so_far power has =
      let front = so_far power has in
      let next = shows front.0 front.2 in
      let acts : acts_of (before ++ line ∷ []) ≡ acts_of before ++ line.act ∷ [] = map-append (λ (l : ScriptLine). l.act) before (line ∷ []) in
      let joined_shows = shows_joined power front.0 next.1 (acts_of before) (line.act ∷ []) entries next.0 front.1 next.3 in
      let here : Shows power (acts_of (before ++ line ∷ [])) (entries ++ next.0) next.1 =
      subst (λ (a : List Act). Shows power a (entries ++ next.0) next.1) (sym acts) joined_shows in
      (next.1, subst (λ (l : List Entry). Shows power (acts_of (before ++ line ∷ [])) l next.1) (sym next.2) here, next.4)

  pub more_logged : LogsAct mid last entries later → LogGoesOn (state_in first) (state_in mid) entries → LogGoesOn (state_in first) (state_in last) later
  more_logged logs so_far = subst (LogGoesOn (state_in first) (state_in last)) (sym logs.1)
      (log_joined (state_in first) (state_in mid) (state_in last) entries logs.0 ran.constants so_far logs.2)

  -- the line at which the replay ends
  pub ends_at : (rest : List ScriptLine) (journal : JournalState) → journal.entries ≡ later → ShowsSoFar first mid before entries → (e : Ended) → e ≢ ended.Whole
      → RunsLine mid last entries later line e → Replays first last (before ++ line ∷ rest) (record { journal = journal; ended = e })
  ends_at rest journal is shows ended.Whole not_whole runs = absurd (not_whole refl)
  ends_at rest journal is shows (ended.Chance side place) not_whole runs =
      let all : HasReplayed (seen_in first []) (seen_in last journal.entries) (calls_of before) =
      subst (λ (l : List Entry). HasReplayed (seen_in first []) (seen_in last l) (calls_of before)) (sym is) (no_line runs.0) in
      record {
        constants = all.constants;
        areas = same_areas first last all.constants;
        legal = legal (state_in first) (state_in last) journal.entries (calls_of before) all;
        in_order = (
          before,
          record { line = line; is_mount = runs.3; behind = take_one before rest line },
          in_order (state_in first) (state_in last) journal.entries (calls_of before) all,
        );
        chance = runs.2;
        tells = λ told. runs.1 (still told);
        cuts = λ power has. subst (ShowsCuts power (before ++ line ∷ rest)) (sym (is ∙ runs.4)) (shown_first first mid before (line ∷ rest) entries shows power has);
        power = power_left first mid last before entries journal.entries shows runs.5 (is ∙ runs.4);
        grows = λ whole. absurd (not_whole whole);
      }
  ends_at rest journal is shows ended.Memory not_whole runs =
      let all : HasReplayed (seen_in first []) (seen_in last journal.entries) (calls_of before) =
      subst (λ (l : List Entry). HasReplayed (seen_in first []) (seen_in last l) (calls_of before)) (sym is) (no_line runs.0) in
      record {
        constants = all.constants;
        areas = same_areas first last all.constants;
        legal = legal (state_in first) (state_in last) journal.entries (calls_of before) all;
        in_order = (
          length before,
          subst (InOrder journal.entries) (sym (take-append_seam before (line ∷ rest))) (in_order (state_in first) (state_in last) journal.entries (calls_of before) all),
        );
        chance = tt;
        tells = tt;
        cuts = λ power has. subst (ShowsCuts power (before ++ line ∷ rest)) (sym (is ∙ runs.1)) (shown_first first mid before (line ∷ rest) entries shows power has);
        power = tt;
        grows = λ whole. absurd (not_whole whole);
      }

-- all lines were run
pub ends_whole : (first last : Session) (lines : List ScriptLine) (journal : JournalState) → HasReplayed (seen_in first []) (seen_in last journal.entries) (calls_of lines)
    → StillTells first last → ShowsSoFar first last lines journal.entries → LogGoesOn (state_in first) (state_in last) journal.entries → Replays first last lines (record { journal = journal; ended = ended.Whole })
ends_whole first last lines journal all still shows logs = record {
  constants = all.constants;
  areas = same_areas first last all.constants;
  legal = legal (state_in first) (state_in last) journal.entries (calls_of lines) all;
  in_order = in_order (state_in first) (state_in last) journal.entries (calls_of lines) all;
  chance = tt;
  tells = still;
  cuts = shown_whole first last lines journal.entries shows;
  power = power_left first last last lines journal.entries journal.entries shows (λ power has. has) refl;
  grows = λ whole power uncut.
      let shown = shown_whole first last lines journal.entries shows Steady power in
      log_grows (state_in first) (state_in last) journal.entries power shown.ordinary (shown.uncut refl uncut) logs
      (primary_in last) (told_log last.hash_bits last.store last.chips);
}

pub none_shown : (first : Session) (entries : List Entry) → entries ≡ [] → ShowsSoFar first first [] entries
none_shown first entries none power has = (power, subst (λ (l : List Entry). Shows power [] l power) (sym none) refl, has)

pub none_logged : (first : Session) (entries : List Entry) → entries ≡ [] → LogGoesOn (state_in first) (state_in first) entries
none_logged first entries none = subst (LogGoesOn (state_in first) (state_in first)) (sym none) (log_stood (state_in first) (state_in first) refl refl)

pub nothing_yet : (first : Session) (entries : List Entry) → entries ≡ [] → HasReplayed (seen_in first []) (seen_in first entries) []
nothing_yet first entries none = subst (λ (l : List Entry). HasReplayed (seen_in first []) (seen_in first l) []) (sym none) (stood (state_in first) (state_in first) [] refl refl)

-- there was no memory to run any
pub none_run : (first : Session) (lines : List ScriptLine) (journal : JournalState) → journal.entries ≡ [] → Replays first first lines (record { journal = journal; ended = ended.Memory })
none_run first lines journal none =
    let all : HasReplayed (seen_in first []) (seen_in first journal.entries) [] = nothing_yet first journal.entries none in
    record {
      constants = refl;
      areas = same_areas first first refl;
      legal = legal (state_in first) (state_in first) journal.entries [] all;
      in_order = (0, in_order (state_in first) (state_in first) journal.entries [] all);
      chance = tt;
      tells = tt;
      cuts = shown_first first first [] lines journal.entries (none_shown first journal.entries none);
      power = tt;
      grows = λ whole. absurd (false≢true (ap is_whole whole));
    }

at_most_one : (who : ℕ) (act : Act) → length (call_of who act) ≤ 1
at_most_one who (Do call) = omega arith
at_most_one who (Cut side n pattern) = omega arith

-- a line adds one entry at most
pub one_entry_more : (old new : Session) (entries later : List Entry) (who : ℕ) (act : Act) → HasReplayed (seen_in old entries) (seen_in new later) (call_of who act)
    → length later ≤ length entries + 1
one_entry_more old new entries later who act ran =
    omega (arith, ap length ran.entries ∙ length-append entries ran.more, sym (length-map ran.more line_of) ∙ ap length ran.lines_are, at_most_one who act)

-- ---- a journal that is known by an equation

pub with_entries : (old new : Session) (entries first later : List Entry) (line : ScriptLine) (e : Ended) → later ≡ first → RunsLine old new entries first line e → RunsLine old new entries later line e
with_entries old new entries first later line e is runs = subst (λ (l : List Entry). RunsLine old new entries l line e) (sym is) runs

pub nothing_done : (s : Session) (entries later : List Entry) (line : ScriptLine) → later ≡ entries → RunsLine s s entries later line ended.Memory
nothing_done s entries later line is = with_entries s s entries entries later line ended.Memory is (stood (state_in s) (state_in s) entries refl refl, refl)
