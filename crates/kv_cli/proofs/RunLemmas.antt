-- What a replay leaves, by its session.
use Rattle.std.proofs.Common.{◌≡◌, ℕ, ◌+◌, ◌-◌, ◌*◌, IsTrue, true, false, List, ◌++◌, length, refl, sym, ◌∙◌, ap, subst, inl, inr, arith}
use Rattle.std.specs.Prelude.{◌↔◌, Option, Some, None, MatchOption, Contains, Result, is_none, is_some}
use Rattle.std.proofs.Math.Nat.{mul_assoc}
use mathlib.Core.Bool.{false≢true}
use Rattle.base_core.specs.declared.no_memory.NoMemory.{NoMemory}
use Rattle.base_core.specs.Sizes.{master_size}
use Rattle.flash_core.specs.declared.geometry.Geometry.{Geometry}
use Rattle.flash_core.specs.Images.{IsErased, part}
use Rattle.flash_core.specs.Runs.{Done}
use Rattle.flash_core.specs.Sizes.{IsValid, area_size, size_of}
use Rattle.flash_core.specs.State.{DeviceCall, after_of, before_of}
use Rattle.flash_sim.specs.declared.chip.Chip.{Chip}
use Rattle.flash_sim.specs.ChipState.{ChipState, after_arm, device_of, new_chip}
use Rattle.flash_sim.specs.Plan.{names_from}
use Rattle.flash_sim.specs.Views.{view_of}
use Rattle.kv_model.specs.declared.call.Entry.{Entry}
use Rattle.kv_model.specs.declared.pattern.Pattern.{Pattern}
use Rattle.kv_model.specs.Arming.{Arms}
use Rattle.kv_model.specs.Constants.{Constants}
use Rattle.kv_model.specs.FlaggedMap.{FlaggedMap}
use Rattle.kv_model.specs.History.{IsLegal}
use Rattle.kv_model.specs.Opening.{Log}
use Rattle.kv_model.specs.PlainStep.{plain_rules}
use Rattle.kv_model.specs.Rules.{cuts}
use Rattle.kv_model.specs.Sizes.{room_of}
use Rattle.kv_model.specs.StoreState.{Doubt, StoreState, maps_of}
use Rattle.kv_model.specs.Write.{Write, map_of}
use Rattle.kv_model.specs.Writes.{writes}
use Rattle.record_core.specs.Chance.{BreaksAt, FirstBreak}
use Rattle.record_core.specs.Log.{AreAllRecords}
use Rattle.record_core.specs.Mounts.{ActiveRecords, Contents, Holds, MasterAt, Mounts, active_area, active_reads, master_reads, reads_of, record_reads}
use Rattle.record_core.proofs.Existence.{some_contents}
use Rattle.script_core.specs.declared.line.Line.{Line}
use Rattle.script_core.specs.declared.line.PowerCut.{PowerCut}
use Rattle.script_core.specs.declared.line.Side.{Side}
use Rattle.script_core.specs.LineOrder.{InOrder}
use Rattle.session_core.specs.declared.backing.Chips.{Chips}
use Rattle.session_core.specs.declared.backing.Chips.TheVariants.{One}
use Rattle.session_core.specs.declared.backing.Store.{Store}
use Rattle.session_core.specs.declared.backing.Store.TheVariants.{Plain}
use Rattle.session_core.specs.declared.ended.Ended.{Ended}
use Rattle.session_core.specs.declared.ended.Ended.TheVariants as ended
use Rattle.session_core.specs.declared.replay.Outcome.{Outcome}
use Rattle.session_core.specs.declared.session.Session.{Session}
use Rattle.session_core.specs.Backing.{primary_by, unmounted}
use Rattle.session_core.specs.Chips.{device_in}
use Rattle.session_core.specs.Growing.{GrowsBy, Told, WantsNoCollection, grown}
use Rattle.session_core.specs.Mounting.{HasMounted}
use Rattle.session_core.specs.Power.{HasPower, LeavesPower, Power, ShowsCuts, Steady, acts_of, cuts_in, is_lost}
use Rattle.session_core.specs.Replaying.{IsInOrderTo, IsStoppedAt, LeavesAt, Replays, StillTells, TellsAt}
use Rattle.session_core.specs.Search.{IsChanceBy, IsChanceOf}
use Rattle.session_core.specs.Settling.{IsSettled}
use Rattle.session_core.specs.Telling.{HasLog, IsLogIn, TellsLog, over_one}
use Rattle.session_core.specs.Views.{primary_in, state_in}
use Rattle.session_core.proofs.ChanceLemmas.{chance_failed, chance_in_doubt}
use Rattle.session_core.proofs.MountLemmas.{constants_kept, told_map}
use Rattle.session_core.proofs.StrayLemmas.{no_stray}
use Rattle.tdb_mount.specs.Format.{Leaves, LeavesBy}
use Rattle.kv_cli.specs.declared.run.RunEnd.{RunEnd}
use Rattle.kv_cli.specs.declared.run.RunEnd.TheVariants as end
use Rattle.kv_cli.specs.Asked.{Asked, constants_of, power_by}
use Rattle.kv_cli.specs.Replays.{IsHistory, IsLeftBy, IsReplayOf, IsStoppedReplay, StopsInOrder, first_state}
use Rattle.kv_cli.specs.Runs as runs
use Rattle.kv_cli.specs.Runs.{CanRun, Closes, IsOpened, IsRunOf}

-- ---- images and geometries: what an image holds goes by the program unit and the size of an area alone

module _ (g h : Geometry) (prog : g.prog ≡ h.prog) (area : area_size g ≡ area_size h) (image : List ℕ) where
  records_alike : (found : Option ℕ) (end : ℕ) (records : List Write) → ActiveRecords g image found end records → ActiveRecords h image found end records
  records_alike None end records is = is
  records_alike (Some number) end records is =
      subst (λ (a : ℕ). AreAllRecords h.prog image (number * a + master_size h.prog) (number * a + a) end records) area
      (subst (λ (p : ℕ). AreAllRecords p image (number * area_size g + master_size p) (number * area_size g + area_size g) end records) prog is)

  holds_alike : (contents : Contents) → Holds g image contents → Holds h image contents
  holds_alike contents holds = record {
    first_master = subst (λ (p : ℕ). MasterAt p image 0 contents.first) prog holds.first_master;
    second_master = subst (λ (a : ℕ). MasterAt h.prog image a contents.second) area
        (subst (λ (p : ℕ). MasterAt p image (area_size g) contents.second) prog holds.second_master);
    active = records_alike (active_area contents.first contents.second) contents.end contents.records holds.active;
  }

  reads_alike : (found : Option ℕ) (records : List Write) → active_reads g found records ≡ active_reads h found records
  reads_alike None records = refl
  reads_alike (Some number) records = λ i. record_reads (prog i) (number * area i + master_size (prog i)) records

  all_reads_alike : (contents : Contents) → reads_of g contents ≡ reads_of h contents
  all_reads_alike contents = λ i.
      master_reads (prog i) 0 contents.first ++ master_reads (prog i) (area i) contents.second
      ++ reads_alike (active_area contents.first contents.second) contents.records i

  break_alike : (before after : List ℕ) (place : ℕ) → FirstBreak g before after image place → FirstBreak h before after image place
  break_alike before after place first = record {
    contents = first.contents;
    holds = holds_alike first.contents first.holds;
    breaks = subst (λ (reads : List (ℕ × List ℕ)). BreaksAt before after reads place) (all_reads_alike first.contents) first.breaks;
  }

  pub log_alike : (log : Log) → IsLogIn g image log → IsLogIn h image log
  log_alike log is = record {
    contents = is.contents;
    holds = holds_alike is.contents is.holds;
    active = is.active;
    version = is.version;
    records = is.records;
    clean = subst (λ (a : ℕ). IsTrue log.is_clean ↔ IsErased image is.contents.end ((log.active * a + a) - is.contents.end)) area is.clean;
    other = subst (λ (a : ℕ). log.other ≡ part image ((1 - log.active) * a) a) area is.other;
  }

  pub mounts_alike : (m : FlaggedMap) → Mounts g image m → Mounts h image m
  mounts_alike m (contents, holds, is) = (contents, holds_alike contents holds, is)

-- stores of the same constants are over areas of one size
pub same_area : (g h : Geometry) → IsValid g → IsValid h → g.prog ≡ h.prog → room_of g.prog (area_size g) ≡ room_of h.prog (area_size h) → area_size g ≡ area_size h
same_area g h first other prog room = omega (arith, first.master_fits, other.master_fits, room, ap master_size prog)

twice : (g : Geometry) → size_of g ≡ 2 * area_size g
twice g = mul_assoc 2 g.units_per_area g.erase

same_size : (g h : Geometry) → area_size g ≡ area_size h → size_of g ≡ size_of h
same_size g h area = twice g ∙ ap (λ (a : ℕ). 2 * a) area ∙ sym (twice h)

-- ---- a session that was settled

valid_by : (store : Option Store) (chips : Option Chips) → is_some chips ≡ is_none store → IsValid (primary_by store chips).geometry
valid_by (Some (Plain store)) chips one = store.store.log.flash.valid
valid_by None (Some (One chip)) one = chip.valid
valid_by None None one = absurd (false≢true one)

sized_by : (store : Option Store) (chips : Option Chips) → is_some chips ≡ is_none store → length (primary_by store chips).image ≡ size_of (primary_by store chips).geometry
sized_by (Some (Plain store)) chips one = store.store.log.flash.sized
sized_by None (Some (One chip)) one = chip.sized
sized_by None None one = absurd (false≢true one)

sized_in : (session : Session) → length (primary_in session).image ≡ size_of (primary_in session).geometry
sized_in session = sized_by session.store session.chips session.one

pub valid_in : (session : Session) → IsValid (primary_in session).geometry
valid_in session = valid_by session.store session.chips session.one

match_told : (chip : ChipState) (constants : Constants) (last : StoreState) (m : FlaggedMap) (found : Option Doubt) → IsChanceOf chip None
    → MatchOption found (over_one m ≡ maps_of last) (λ (d : Doubt). IsChanceOf chip None → Contains (cuts (plain_rules constants) last d.who d.operation) (over_one m))
    → MatchOption found (over_one m ≡ maps_of last) (λ (d : Doubt). Contains (cuts (plain_rules constants) last d.who d.operation) (over_one m))
match_told chip constants last m None none is = is
match_told chip constants last m (Some d) none is = is none

module _ (old new : Session) (settled : IsSettled old new) where
  -- the image that it has then
  pub settled_image : (image : List ℕ) → image ≡ (primary_in new).image → length image ≡ size_of (primary_in new).geometry → runs.IsImageOf old image
  settled_image image is sized =
      let chip = primary_in old in
      let contents : (c : Contents) × Holds chip.geometry chip.image c = some_contents chip.geometry (valid_in old) chip.image in
      let m : FlaggedMap = map_of contents.0.records in
      let mounts : Mounts chip.geometry chip.image m = (contents.0, contents.1, refl) in
      record {
        sized = sized ∙ ap size_of settled.mounted.kept.geometry;
        map = m;
        mounts = subst (λ (l : List ℕ). Mounts chip.geometry l m) (sym is) (settled.mounted.kept.map m mounts);
        left = λ last told. match_told chip (state_in old).known.constants last m last.doubt settled.unlikely
            (told_map old.hash_bits old.store old.chips m mounts last told);
        stays = λ log there. is ∙ subst (LeavesBy chip.geometry chip.image (primary_in new).image Done) there.active
            (settled.mounted.leaves there.contents.first there.contents.second there.holds.first_master there.holds.second_master);
      }

-- ---- a session that was opened

new_sound : (g : Geometry) (image : List ℕ) → IsTrue (device_of (new_chip g image)).sound
unfolding names_from
new_sound g image = refl

-- no call of a new chip is to fail
pub sound_chip : (chip : Chip) (g : Geometry) (image : List ℕ) → view_of chip ≡ new_chip g image → (device_in chip).sound ≡ true
sound_chip chip g image is = ap (λ (c : ChipState). (device_of c).sound) is ∙ new_sound g image

module _ (asked : Asked) (image : List ℕ) (valid : IsValid asked.geometry) (chip : ChipState) (first : Session)
    (is : chip ≡ new_chip asked.geometry image) (mounted : HasMounted chip (primary_in first) asked.hash_bits (state_in first)) where
  contents_there : (c : Contents) × Holds asked.geometry image c
  contents_there = some_contents asked.geometry valid image

  abbrev map_there : FlaggedMap
  map_there = map_of contents_there.0.records

  mounts_there : Mounts asked.geometry image map_there
  mounts_there = (contents_there.0, contents_there.1, refl)

  over_image : HasMounted (new_chip asked.geometry image) (primary_in first) asked.hash_bits (state_in first)
  over_image = subst (λ (c : ChipState). HasMounted c (primary_in first) asked.hash_bits (state_in first)) is mounted

  told_there : (state_in first).known.state ≡ Some (first_state map_there)
  told_there = over_image.fresh.state image refl map_there mounts_there

  log_there : TellsLog (primary_in first) (state_in first) → (log : Log) × HasLog (primary_in first) (state_in first) log
  log_there tells = tells (first_state map_there) told_there refl

  -- a session that goes by the same, over the power that is asked for
  opened_as : (session : Session) → (primary_in session).geometry ≡ (primary_in first).geometry → (primary_in session).image ≡ (primary_in first).image
      → (state_in session).known.constants ≡ (state_in first).known.constants → (state_in session).known.state ≡ (state_in first).known.state
      → (log : Log) → HasLog (primary_in session) (state_in session) log → HasPower (state_in session) (power_by asked.cut) → IsOpened asked image session
  opened_as session geometry same constants state log holds power = record {
    geometry = geometry ∙ over_image.kept.geometry;
    constants = constants ∙ over_image.fresh.constants;
    map = map_there;
    mounts = mounts_there;
    told = state ∙ told_there;
    power = power;
    leaves = subst (λ (l : List ℕ). Leaves asked.geometry image l Done) (sym same) over_image.leaves;
    log = log;
    holds = holds;
  }

  -- no cut is asked for
  pub opened_steady : asked.cut ≡ None → HasPower (state_in first) Steady → TellsLog (primary_in first) (state_in first) → IsOpened asked image first
  opened_steady none power tells = opened_as first refl refl refl refl (log_there tells).0 (log_there tells).1 (subst (λ (c : Option PowerCut). HasPower (state_in first) (power_by c)) (sym none) power)

  -- a cut is armed
  pub opened_armed : (cut : PowerCut) (last : Session) (n : ℕ) (pattern : Pattern) (result : Result Unit NoMemory) → asked.cut ≡ Some cut → HasPower (state_in first) Steady
      → TellsLog (primary_in first) (state_in first) → Arms (state_in first) (state_in last) pattern result
      → primary_in last ≡ after_arm (primary_in first) n pattern → IsOpened asked image last
  opened_armed cut last n pattern result there power tells arms armed =
      let told = log_there tells in
      opened_as last (ap (λ (c : ChipState). c.geometry) armed) (ap (λ (c : ChipState). c.image) armed) arms.constants arms.state told.0
      (record { told = arms.log ∙ told.1.told; is = subst (λ (c : ChipState). IsLogIn c.geometry c.image told.0) (sym armed) told.1.is })
      (subst (λ (c : Option PowerCut). HasPower (state_in last) (power_by c)) (sym there)
      (record { state = power.state; told = arms.state ∙ power.told; stopped = power.stopped; device = arms.steady power.device.1 }))

-- ---- a record by chance

by_torn : (g h : Geometry) (prog : g.prog ≡ h.prog) (area : area_size g ≡ area_size h) (image : List ℕ) (place : ℕ) (torn : Option DeviceCall) → IsChanceBy g image torn (Some place)
    → (call : DeviceCall) × FirstBreak h (before_of call image) (after_of call image) image place
by_torn g h prog area image place None is = absurd (false≢true (sym (ap is_some is)))
by_torn g h prog area image place (Some call) is = (call, break_alike g h prog area image (before_of call image) (after_of call image) place is)

-- ---- the whole run

powered : (cut : Option PowerCut) → is_lost (power_by cut) ≡ false
powered None = refl
powered (Some cut) = refl

there_is : {X : Type 0} (o : Option X) → is_some o ≡ true → (x : X) × (o ≡ Some x)
there_is None is = absurd (false≢true is)
there_is (Some x) is = (x, refl)

module _ (asked : Asked) (image : List ℕ) (lines : List Line) (entries : List Entry) (first last : Session) (opened : IsOpened asked image first) (after : StoreState)
    (legal : IsLegal (plain_rules (state_in first).known.constants) (first_state opened.map) entries after) (shows : ShowsCuts (power_by asked.cut) lines entries)
    (valid : IsValid asked.geometry) (constants : (state_in last).known.constants ≡ constants_of asked) where
  history : IsHistory asked image lines entries after
  history = record {
    map = opened.map;
    mounts = opened.mounts;
    legal = subst (λ (c : Constants). IsLegal (plain_rules c) (first_state opened.map) entries after) opened.constants legal;
    shows = shows;
  }

  abbrev g : Geometry
  g = (primary_in last).geometry

  same : constants_of asked ≡ (unmounted last.hash_bits (primary_in last)).known.constants
  same = sym constants ∙ constants_kept last.hash_bits last.store last.chips last.same_bits

  prog : g.prog ≡ asked.geometry.prog
  prog = sym (ap (λ (c : Constants). c.prog) same)

  area : area_size g ≡ area_size asked.geometry
  area = same_area g asked.geometry (valid_in last) valid prog (sym (ap (λ (c : Constants). c.room) same))

  opened_log : IsLogIn asked.geometry (primary_in first).image opened.log
  opened_log = subst (λ (o : Geometry). IsLogIn o (primary_in first).image opened.log) opened.geometry opened.holds.is

  -- all lines were run, and the session that they leave gives this image
  replay_of : (written : List ℕ) → (state_in last).known.state ≡ Some after → InOrder entries lines → runs.IsImageOf last written
      → (asked.cut ≡ None → cuts_in (acts_of lines) ≡ 0 → GrowsBy (state_in first) (primary_in last) (state_in last) entries) → IsReplayOf asked image lines entries written
  replay_of written told in_order left growing = record {
    last = after;
    history = history;
    in_order = in_order;
    image_of = record {
      sized = left.sized ∙ same_size g asked.geometry area;
      map = left.map;
      mounts = mounts_alike g asked.geometry prog area written left.map left.mounts;
      left = subst (λ (c : Constants). IsLeftBy c after left.map) constants (left.left after told);
    };
    grows = λ none uncut. record {
      opened = (primary_in first).image;
      leaves = opened.leaves;
      log = opened.log;
      holds = opened_log;
      grows = λ wants.
          let before : Told = record { state = first_state opened.map; log = opened.log } in
          let grew : HasLog (primary_in last) (state_in last) (grown opened.log (writes None entries)) =
          growing none uncut before (record { state = opened.told; log = opened.holds.told }) refl
          (subst (λ (c : Constants). WantsNoCollection c opened.log entries) (sym opened.constants) wants) in
          no_stray asked.geometry (primary_in first).image written (sized_in first ∙ ap size_of opened.geometry) (left.sized ∙ same_size g asked.geometry area)
          opened.log (grown opened.log (writes None entries)) opened_log
          (subst (λ (l : List ℕ). IsLogIn asked.geometry l (grown opened.log (writes None entries)))
          (sym (left.stays (grown opened.log (writes None entries)) grew.is))
          (log_alike g asked.geometry prog area (primary_in last).image (grown opened.log (writes None entries)) grew.is)) refl refl refl;
    };
  }

  -- a record by chance is found in the chip that they leave
  stopped_replay : (place : ℕ) → (state_in last).known.state ≡ Some after → StopsInOrder entries lines → IsChanceOf (primary_in last) (Some place)
      → LeavesPower (state_in last) (power_by asked.cut) entries → IsStoppedReplay asked image lines entries place
  stopped_replay place told in_order chance left =
      let torn = by_torn g asked.geometry prog area (primary_in last).image place (primary_in last).torn chance in
      let failed = chance_failed last (power_by asked.cut) entries place after (powered asked.cut) left chance told in
      record {
        last = after;
        history = history;
        in_order = in_order;
        in_doubt = chance_in_doubt last (power_by asked.cut) entries place after (powered asked.cut) left chance told;
        failed = failed;
        cut = omega (arith, failed, shows.few);
        chance = record { image = (primary_in last).image; sized = sized_in last ∙ same_size g asked.geometry area; call = torn.0; first = torn.1 };
      }

module _ (asked : Asked) (image : List ℕ) (lines : List Line) (first last : Session) (can : CanRun asked) (opened : IsOpened asked image first) (outcome : Outcome)
    (replays : Replays first last lines outcome) where
  abbrev entries_then : List Entry
  entries_then = outcome.journal.entries

  constants_then : (state_in last).known.constants ≡ constants_of asked
  constants_then = replays.constants ∙ opened.constants

  state_then : StillTells first last → (after : StoreState) × ((state_in last).known.state ≡ Some after)
  state_then still = there_is (state_in last).known.state (still (ap is_some opened.told))

  legal_then : (after : StoreState) → (state_in last).known.state ≡ Some after → IsLegal (plain_rules (state_in first).known.constants) (first_state opened.map) entries_then after
  legal_then after told = replays.legal (first_state opened.map) opened.told after told

  shows_then : ShowsCuts (power_by asked.cut) lines entries_then
  shows_then = replays.cuts (power_by asked.cut) opened.power

  grows_then : outcome.ended ≡ ended.Whole → asked.cut ≡ None → cuts_in (acts_of lines) ≡ 0 → GrowsBy (state_in first) (primary_in last) (state_in last) entries_then
  grows_then whole none uncut = replays.grows whole (subst (λ (c : Option PowerCut). HasPower (state_in first) (power_by c)) none opened.power) uncut

  abbrev LeftPower : Type 0
  LeftPower = (power : Power) → HasPower (state_in first) power → LeavesPower (state_in last) power entries_then

  left_power : LeftPower → LeavesPower (state_in last) (power_by asked.cut) entries_then
  left_power leaves = leaves (power_by asked.cut) opened.power

  closed : outcome.ended ≡ ended.Whole → StillTells first last → InOrder entries_then lines → (end : RunEnd) → Closes last end → IsRunOf asked image lines entries_then end
  closed whole still in_order (end.Image written) left =
      let there = state_then still in
      replay_of asked image lines entries_then first last opened there.0 (legal_then there.0 there.1) shows_then can.valid constants_then written.items there.1 in_order left
      (grows_then whole)
  closed whole still in_order (end.Chance place) chance =
      let there = state_then still in
      stopped_replay asked image lines entries_then first last opened there.0 (legal_then there.0 there.1) shows_then can.valid constants_then place there.1 (inl in_order) chance.1
      (left_power (subst (λ (e : Ended). LeavesAt e first last entries_then) whole replays.power))

  -- all lines were run, and the session was closed so
  pub closed_run : outcome.ended ≡ ended.Whole → (end : RunEnd) → Closes last end → IsRunOf asked image lines entries_then end
  closed_run whole = closed whole
      (subst (λ (e : Ended). TellsAt e first last) whole replays.tells)
      (subst (λ (e : Ended). IsInOrderTo e entries_then lines) whole replays.in_order)

  -- a mount found a record by chance
  pub stopped_run : (side : Side) (place : ℕ) → outcome.ended ≡ ended.Chance side place → IsStoppedReplay asked image lines entries_then place
  stopped_run side place chance =
      let there = state_then (subst (λ (e : Ended). TellsAt e first last) chance replays.tells) in
      let found = subst (λ (e : Ended). IsStoppedAt e last) chance replays.chance in
      stopped_replay asked image lines entries_then first last opened there.0 (legal_then there.0 there.1) shows_then can.valid constants_then place there.1
      (inr (subst (λ (e : Ended). IsInOrderTo e entries_then lines) chance replays.in_order)) found.1
      (left_power (subst (λ (e : Ended). LeavesAt e first last entries_then) chance replays.power))
