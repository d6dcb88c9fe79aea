-- What mounting the chip of a session gives.
use Rattle.std.proofs.Common.{◌≡◌, ℕ, true, List, [], ◌∷◌, refl, sym, ◌∙◌, ap, subst, IsTrue}
use Rattle.std.specs.Prelude.{Option, Some, None, MatchOption, Contains, is_none, is_some}
use mathlib.Core.Bool.{false≢true}
use Rattle.std.specs.FinMap as map
use Rattle.std.specs.Option.{ForSome}
use Rattle.flash_core.specs.Sizes.{IsValid}
use Rattle.flash_core.specs.State.{DeviceCall}
use Rattle.flash_sim.specs.ChipState.{ChipState, device_of, is_steady}
use Rattle.flash_sim.specs.Plan.{names_from}
use Rattle.flash_sim.specs.Views.{view_of}
use Rattle.kv_model.specs.Constants.{Constants}
use Rattle.kv_model.specs.FlaggedMap.{FlaggedMap}
use Rattle.kv_model.specs.Kv.{IsLawful, KvState}
use Rattle.kv_model.specs.Opening.{Opening}
use Rattle.kv_model.specs.PlainStep.{plain_rules}
use Rattle.kv_model.specs.Rules.{Mounts as MountsTo, cuts, mounted}
use Rattle.kv_model.specs.StoreState.{Doubt, Maps, OpenSet, StoreState, fresh_state, maps_of}
use Rattle.kv_model.specs.Write.{map_of}
use Rattle.record_core.specs.Mounts.{Contents, Holds, Mounts}
use Rattle.record_core.proofs.Existence.{some_contents}
use Rattle.tdb_mount.specs.declared.mount.MountError.{MountError}
use Rattle.tdb_mount.specs.declared.mount.MountError.TheVariants as mount
use Rattle.tdb_read.specs.Mounting.{IsMounted, IsUnmounted}
use Rattle.tdb_read.specs.States.{IsUnlikely, MapsStand, constants_of, kv_state, log_in}
use Rattle.tdb_read.specs.Views.{LogPart, LogView, records_in, view_of as log_view}
use Rattle.plain_store.specs.Mounting.{IsFresh}
use Rattle.plain_store.specs.Sets.{set_in}
use Rattle.plain_store.specs.Stores.{IsStore, noted_in, state_by as store_state}
use Rattle.plain_store.specs.declared.active.ActiveSet.{ActiveSet}
use Rattle.plain_store.proofs.CallLemmas.{some_is}
use Rattle.plain_store.proofs.RestoredLemmas.{is_kept}
use Rattle.plain_store.proofs.StoreLemmas.{view_at}
use Rattle.session_core.specs.declared.backing.Chips.{Chips}
use Rattle.session_core.specs.declared.backing.Chips.TheVariants.{One}
use Rattle.session_core.specs.declared.backing.Store.{Store}
use Rattle.session_core.specs.declared.backing.Store.TheVariants.{Plain}
use Rattle.session_core.specs.Backing.{chip_behind, primary_by, state_by, told_by, unmounted}
use Rattle.session_core.specs.Laws.{store_is_lawful}
use Rattle.session_core.specs.Telling.{IsToldMap, TellsLog, over_one}
use Rattle.session_core.specs.Chips.{device_in, powered}
use Rattle.session_core.specs.Mounting.{HasKept, HasMounted, LeadsOn}
use Rattle.session_core.specs.Search.{IsChanceBy, IsChanceOf}

pub powered_sound : (chip : ChipState) → IsTrue (device_of (powered chip)).sound
unfolding names_from
powered_sound chip = refl

pub powered_steady : (chip : ChipState) → IsTrue (device_of (powered chip)).steady
unfolding names_from
powered_steady chip = refl

-- what a store tells but for its state, whether it runs or not
same_known : (v : LogView) (set : Option OpenSet) (note : Option StoreState)
    → (store_state v set note).known ≡ record (kv_state v set).known { state = (store_state v set note).known.state }
same_known v set None = refl
same_known v set (Some state) = refl

module _ (chip new : ChipState) where
  pub mounted_chip : (log : LogPart) (set : Option OpenSet) (note : Option StoreState) (bits : ℕ)
      → IsMounted (device_of (powered chip)) bits (record { device = device_of new; log = log })
      → IsFresh (device_of (powered chip)) bits (store_state (record { device = device_of new; log = log }) set note)
      → HasMounted chip new bits (store_state (record { device = device_of new; log = log }) set note)
  mounted_chip log set note bits is fresh =
      let known = same_known (record { device = device_of new; log = log }) set note in
      record {
        kept = record {
          geometry = is.runs.kept.geometry;
          map = is.cuts.stands chip.image refl new.image refl;
          label = is.runs.kept.label;
        };
        leaves = is.leaves chip.image refl new.image refl;
        fresh = record { constants = fresh.constants; state = fresh.state };
        labels = ap (λ (o : Opening). o.labels) known ∙ ap (λ (l : List ℕ). l ∷ []) is.runs.kept.label;
        sound = ap (λ (o : Opening). o.sound) known ∙ is.runs.kept.sound (powered_sound chip);
        read_faults = ap (λ (o : Opening). o.read_faults) known ∙ is.runs.counts.of_reads;
        write_faults = ap (λ (o : Opening). o.write_faults) known ∙ is.runs.counts.of_writes;
      }

  pub kept_chip : IsValid chip.geometry → (e : MountError) → IsUnmounted (device_of (powered chip)) (device_of new) e → HasKept chip new
  kept_chip valid mount.BadGeometry is = absurd (is.bad refl valid)
  kept_chip valid mount.ReadFault is = absurd (is.runs.cause.1 (powered_steady chip))
  kept_chip valid mount.WriteFault is = absurd (is.runs.cause.1 (powered_sound chip))
  kept_chip valid mount.Memory is = record {
    geometry = is.runs.kept.geometry;
    map = is.cuts.stands chip.image refl new.image refl;
    label = is.runs.kept.label;
  }

-- ---- the state before a mount, and the one behind it

match_both : {X A B : Type 0} {P Q : X → Type 0} (o : Option X) → (A → B) → ((x : X) → P x → Q x) → MatchOption o A P → MatchOption o B Q
match_both None first second is = first is
match_both (Some x) first second is = second x is

module _ (constants : Constants) (before : StoreState) (m : FlaggedMap) (number : before.next_vector ≡ 1) where
  abbrev here : Maps
  here = record { primary = m; rollback = map.empty }

  new_state : mounted before here ≡ fresh_state m map.empty 1
  new_state i = record { primary = m; rollback = map.empty; open_set = None; iterators = map.empty; next_vector = number i; doubt = None }

  -- the maps that stand are those of a running store, or such as a cut in the call in doubt may leave
  pub mounts_here : MatchOption before.doubt (here ≡ maps_of before) (λ (d : Doubt). Contains (cuts (plain_rules constants) before d.who d.operation) here)
      → MountsTo (plain_rules constants) before (fresh_state m map.empty 1)
  mounts_here is = match_both before.doubt
      (λ same. sym new_state ∙ ap (mounted before) same)
      (λ d among. (here, among, sym new_state)) is

unlikely_in : (chip : ChipState) (torn : Option DeviceCall) → IsChanceBy chip.geometry chip.image torn None → (call : DeviceCall) → torn ≡ Some call
    → IsUnlikely chip.geometry (Some call) chip.image
unlikely_in chip None none call is = absurd (false≢true (ap is_some is))
unlikely_in chip (Some told) none call is = subst (λ (d : DeviceCall). IsUnlikely chip.geometry (Some d) chip.image) (some_is is) none

unlikely_stands : (chip : ChipState) → IsChanceOf chip None → (call : DeviceCall) → chip.torn ≡ Some call → IsUnlikely chip.geometry (Some call) chip.image
unlikely_stands chip none call is = unlikely_in chip chip.torn none call is

module _ (chip : ChipState) (log : LogPart) (active : Option ActiveSet) where
  abbrev view : LogView
  view = record { device = device_of chip; log = log }

  abbrev state_at : Option StoreState → KvState
  state_at note = store_state view (set_in active) note

  -- a plain store takes no number
  number_in : (note : Option StoreState) → IsStore (view_at view active note) → (before : StoreState) → (state_at note).known.state ≡ Some before → before.next_vector ≡ 1
  number_in None is before told = sym (ap (λ (s : StoreState). s.next_vector) (some_is told))
  number_in (Some noted) is before told = sym (ap (λ (s : StoreState). s.next_vector) (some_is told)) ∙ is.number chip.image refl

  here_stands : (m : FlaggedMap) → Mounts chip.geometry chip.image m → MapsStand chip.geometry (device_of chip) (record { primary = m; rollback = map.empty })
  here_stands m mounts = record {
    primary = λ image told. subst (λ (l : List ℕ). Mounts chip.geometry l m) (some_is told) mounts;
    rollback = refl;
  }

  stand_in : (note : Option StoreState) (m : FlaggedMap) → Mounts chip.geometry chip.image m → IsChanceOf chip None
      → (state_at note).crash.stands (record { primary = m; rollback = map.empty })
  stand_in None m mounts none = here_stands m mounts
  stand_in (Some noted) m mounts none = record {
    tells = refl;
    unlikely = λ call is image told. subst (IsUnlikely chip.geometry (Some call)) (some_is told) (unlikely_stands chip none call is);
    stands = here_stands m mounts;
  }

  module _ (valid : IsValid chip.geometry) (note : Option StoreState) (is : IsStore (view_at view active note)) (lawful : IsLawful plain_rules (state_at note)) where
    -- a mount of the chip of a store, where no record is there by chance, leads on from what the store tells
    pub leads_on : (bits : ℕ) (new : KvState) → (state_at note).known.constants.hash_bits ≡ bits → IsFresh (device_of chip) bits new → IsChanceOf chip None
        → LeadsOn (state_at note) new
    leads_on bits new same fresh none =
        let constants : (state_at note).known.constants ≡ constants_of chip.geometry log =
        ap (λ (o : Opening). o.constants) (same_known view (set_in active) note) in
        let hash_bits : bits ≡ log.hash_bits = sym same ∙ ap (λ (c : Constants). c.hash_bits) constants in
        let contents : (c : Contents) × Holds chip.geometry chip.image c = some_contents chip.geometry valid chip.image in
        let m : FlaggedMap = map_of contents.0.records in
        let mounts : Mounts chip.geometry chip.image m = (contents.0, contents.1, refl) in
        record {
          constants = fresh.constants ∙ ap (λ (n : ℕ). record (constants_of chip.geometry log) { hash_bits = n }) hash_bits ∙ sym constants;
          leads = λ before told after later.
              let after_is : fresh_state m map.empty 1 ≡ after = some_is (sym (fresh.state chip.image refl m mounts) ∙ later) in
              subst (MountsTo (plain_rules (state_at note).known.constants) before) after_is
              (mounts_here (state_at note).known.constants before m (number_in note is before told)
              (lawful.stands before told (record { primary = m; rollback = map.empty }) (stand_in note m mounts none)));
        }

-- ---- what a store tells, and the map to which its chip mounts

none_told : {X P : Type 0} (x : X) → None ≡ Some x → P
none_told x is = absurd (false≢true (ap is_some is))

when_some : {X Q : Type 0} (A : Type 0) (P : X → Type 0) (o : Option X) (x : X) → o ≡ Some x → (Q → MatchOption o A P) → MatchOption o A (λ y. Q → P y)
when_some A P None x is given = none_told x is
when_some A P (Some y) x is given = given

module _ (chip : ChipState) (log : LogPart) (active : Option ActiveSet) where
  tells : (note : Option StoreState) → is_some (state_at chip log active note).known.state ≡ true
  tells None = refl
  tells (Some noted) = refl

  steady_at : (note : Option StoreState) → (state_at chip log active note).known.steady ≡ is_steady chip
  steady_at None = refl
  steady_at (Some noted) = refl

  told_map_at : (note : Option StoreState) → IsStore (view_at (view chip log active) active note) → IsLawful plain_rules (state_at chip log active note)
      → (m : FlaggedMap) → Mounts chip.geometry chip.image m → IsToldMap chip (state_at chip log active note) m
  told_map_at None is lawful m mounts = λ before told.
      match_both before.doubt (λ same. same) (λ d among none. among) (lawful.stands before told (over_one m) (here_stands chip log active m mounts))
  told_map_at (Some noted) is lawful m mounts = λ before told.
      when_some (over_one m ≡ maps_of before)
      (λ (d : Doubt). Contains (cuts (plain_rules (state_at chip log active (Some noted)).known.constants) before d.who d.operation) (over_one m))
      before.doubt is.doubt (sym (ap (λ (s : StoreState). s.doubt) (some_is told)) ∙ is.is)
      (λ none. lawful.stands before told (over_one m) (stand_in chip log active (Some noted) m mounts none))

module _ (chip : ChipState) (log : LogPart) (active : Option ActiveSet) where
  -- the log of a store that runs is that of its image
  log_told_at : (note : Option StoreState) → IsStore (view_at (view chip log active) active note) → TellsLog chip (state_at chip log active note)
  log_told_at None is = λ state told runs.
      let is_log = is.ready.stands chip.image refl in (
        log_in chip.geometry log chip.image,
        record {
          told = refl;
          is = record {
            contents = record { first = is_log.first; second = is_log.second; records = records_in chip.geometry log chip.image; end = log.end };
            holds = is_log.holds;
            active = is_log.active;
            version = is_log.version;
            records = refl;
            clean = is_log.clean;
            other = refl;
          };
        },
      )
  log_told_at (Some noted) is = λ state told runs.
      none_told is.doubt (sym runs ∙ ap (λ (s : StoreState). s.doubt) (sym (some_is told)) ∙ is.is)

pub leads_store : (bits : ℕ) (store : Store) (new : KvState) → (told_by store).known.constants.hash_bits ≡ bits → IsFresh (device_of (chip_behind store)) bits new
    → IsChanceOf (chip_behind store) None → LeadsOn (told_by store) new
leads_store bits (Plain store) new same fresh none =
    leads_on (view_of store.store.log.flash) (log_view device_in store.store.log).log store.store.active store.store.log.flash.valid
    (noted_in store.store.stopped) (is_kept device_in store.store store.kept) (store_is_lawful (Plain store)) bits new same fresh none

-- a session that was not mounted
pub leads_unmounted : (bits : ℕ) (chip : ChipState) (new : KvState) → IsFresh (device_of chip) bits new → LeadsOn (unmounted bits chip) new
leads_unmounted bits chip new fresh = record { constants = fresh.constants; leads = λ before told. none_told before told }

pub tells_state : (bits : ℕ) (store : Option Store) (chips : Option Chips) → is_some (state_by bits store chips).known.state ≡ is_some store
tells_state bits (Some (Plain store)) chips =
    tells (view_of store.store.log.flash) (log_view device_in store.store.log).log store.store.active (noted_in store.store.stopped)
tells_state bits None chips = refl

-- what is told of its chip's reads
pub tells_steady : (bits : ℕ) (store : Option Store) (chips : Option Chips) → (state_by bits store chips).known.steady ≡ is_steady (primary_by store chips)
tells_steady bits (Some (Plain store)) chips =
    steady_at (view_of store.store.log.flash) (log_view device_in store.store.log).log store.store.active (noted_in store.store.stopped)
tells_steady bits None chips = refl

pub told_map : (bits : ℕ) (store : Option Store) (chips : Option Chips) (m : FlaggedMap) → Mounts (primary_by store chips).geometry (primary_by store chips).image m
    → IsToldMap (primary_by store chips) (state_by bits store chips) m
told_map bits (Some (Plain store)) chips m mounts =
    told_map_at (view_of store.store.log.flash) (log_view device_in store.store.log).log store.store.active (noted_in store.store.stopped)
    (is_kept device_in store.store store.kept) (store_is_lawful (Plain store)) m mounts
told_map bits None chips m mounts = λ before told. none_told before told

-- its chip is one of a valid geometry
pub valid_by : (store : Option Store) (chips : Option Chips) → is_some chips ≡ is_none store → IsValid (primary_by store chips).geometry
valid_by (Some (Plain store)) chips one = store.store.log.flash.valid
valid_by None (Some (One chip)) one = chip.valid
valid_by None None one = absurd (false≢true one)

pub told_log : (bits : ℕ) (store : Option Store) (chips : Option Chips) → TellsLog (primary_by store chips) (state_by bits store chips)
told_log bits (Some (Plain store)) chips =
    log_told_at (view_of store.store.log.flash) (log_view device_in store.store.log).log store.store.active (noted_in store.store.stopped)
    (is_kept device_in store.store store.kept)
told_log bits None chips = λ state told. none_told state told

-- of a session, mounted or not
pub leads_session : (bits : ℕ) (store : Option Store) (chips : Option Chips) (new : KvState) → ForSome store (λ s. (told_by s).known.constants.hash_bits ≡ bits)
    → IsFresh (device_of (primary_by store chips)) bits new → IsChanceOf (primary_by store chips) None → LeadsOn (state_by bits store chips) new
leads_session bits (Some store) chips new same fresh none = leads_store bits store new (same store refl) fresh none
leads_session bits None chips new same fresh none = leads_unmounted bits (primary_by None chips) new fresh

constants_told : (bits : ℕ) (store : Store) → (told_by store).known.constants.hash_bits ≡ bits
    → (told_by store).known.constants ≡ (unmounted bits (chip_behind store)).known.constants
constants_told bits (Plain store) same =
    let log = (log_view device_in store.store.log).log in
    let known = same_known (record { device = device_of (view_of store.store.log.flash); log = log }) (set_in store.store.active) (noted_in store.store.stopped) in
    let constants : (told_by (Plain store)).known.constants ≡ constants_of (view_of store.store.log.flash).geometry log = ap (λ (o : Opening). o.constants) known in
    constants ∙ ap (λ (n : ℕ). record (constants_of (view_of store.store.log.flash).geometry log) { hash_bits = n }) (sym (ap (λ (c : Constants). c.hash_bits) constants) ∙ same)

-- a session goes by the same constants while it is not mounted
pub constants_kept : (bits : ℕ) (store : Option Store) (chips : Option Chips) → ForSome store (λ s. (told_by s).known.constants.hash_bits ≡ bits)
    → (state_by bits store chips).known.constants ≡ (unmounted bits (primary_by store chips)).known.constants
constants_kept bits (Some store) chips same = constants_told bits store (same store refl)
constants_kept bits None chips same = refl
