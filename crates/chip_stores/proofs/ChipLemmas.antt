-- What a plain store over a chip tells, and what mounting the chip gives.
use Rattle.std.proofs.Common.{◌≡◌, ℕ, true, false, List, [], ◌∷◌, refl, sym, ◌∙◌, ap, subst, IsTrue}
use Rattle.std.specs.Prelude.{Option, Some, None, is_some}
use mathlib.Core.Bool.{false≢true}
use Rattle.std.specs.FinMap as map
use Rattle.std.specs.Option.{ForSome}
use Rattle.flash_core.specs.Sizes.{IsValid}
use Rattle.flash_core.specs.State.{DeviceCall}
use Rattle.flash_sim.specs.ChipState.{ChipState, device_of, is_steady}
use Rattle.flash_sim.specs.Plan.{names_from}
use Rattle.flash_sim.specs.Views.{view_of}
use Rattle.flash_sim.specs.declared.chip.Chip.{Chip}
use Rattle.kv_model.specs.Constants.{Constants}
use Rattle.kv_model.specs.FlaggedMap.{FlaggedMap}
use Rattle.kv_model.specs.Kv.{KvState}
use Rattle.kv_model.specs.Opening.{Opening}
use Rattle.kv_model.specs.StoreState.{Maps, OpenSet, StoreState}
use Rattle.record_core.specs.Mounts.{Mounts}
use Rattle.tdb_mount.specs.declared.mount.MountError.{MountError}
use Rattle.tdb_mount.specs.declared.mount.MountError.TheVariants as mount
use Rattle.tdb_read.specs.Mounting.{IsMounted, IsUnmounted}
use Rattle.tdb_read.specs.States.{IsUnlikely, MapsStand, constants_of, kv_state}
use Rattle.tdb_read.specs.Views.{LogPart, LogView, view_of as log_view}
use Rattle.plain_store.specs.Mounting.{IsFresh}
use Rattle.plain_store.specs.Sets.{set_in}
use Rattle.plain_store.specs.Stores.{Is, IsStore, noted_in, state_by as store_state}
use Rattle.plain_store.specs.declared.active.ActiveSet.{ActiveSet}
use Rattle.plain_store.specs.declared.plain.PlainStore.{PlainStore}
use Rattle.plain_store.proofs.CallLemmas.{some_is}
use Rattle.plain_store.proofs.RestoredLemmas.{is_kept}
use Rattle.plain_store.proofs.StoreLemmas.{view_at}
use Rattle.chip_stores.specs.Chance.{IsChanceBy, IsChanceOf}
use Rattle.chip_stores.specs.Chips.{device_in, powered}
use Rattle.chip_stores.specs.Mounting.{HasKept, HasMounted}
use Rattle.chip_stores.specs.Stores.{chip_constants, over_one, plain_told}

pub powered_sound : (chip : ChipState) → IsTrue (device_of (powered chip)).sound
unfolding names_from
powered_sound chip = refl

pub powered_steady : (chip : ChipState) → IsTrue (device_of (powered chip)).steady
unfolding names_from
powered_steady chip = refl

-- what a store tells but for its state, whether it runs or not
pub same_known : (v : LogView) (set : Option OpenSet) (note : Option StoreState)
    → (store_state v set note).known ≡ record (kv_state v set).known { state = (store_state v set note).known.state }
same_known v set None = refl
same_known v set (Some state) = refl

module _ (chip new : ChipState) where
  pub mounted_chip : (log : LogPart) (set : Option OpenSet) (note : Option StoreState) (bits : ℕ)
      → IsMounted (device_of (powered chip)) bits (record { device = device_of new; log = log })
      → IsFresh (device_of (powered chip)) bits (store_state (record { device = device_of new; log = log }) set note)
      → HasMounted chip new bits (store_state (record { device = device_of new; log = log }) set note)
  mounted_chip log set note bits is fresh =
      let known = same_known (record { device = device_of new; log = log }) set note in
      record {
        kept = record {
          geometry = is.runs.kept.geometry;
          map = is.cuts.stands chip.image refl new.image refl;
          label = is.runs.kept.label;
        };
        leaves = is.leaves chip.image refl new.image refl;
        fresh = record { constants = fresh.constants; state = fresh.state };
        labels = ap (λ (o : Opening). o.labels) known ∙ ap (λ (l : List ℕ). l ∷ []) is.runs.kept.label;
        sound = ap (λ (o : Opening). o.sound) known ∙ is.runs.kept.sound (powered_sound chip);
        read_faults = ap (λ (o : Opening). o.read_faults) known ∙ is.runs.counts.of_reads;
        write_faults = ap (λ (o : Opening). o.write_faults) known ∙ is.runs.counts.of_writes;
      }

  pub kept_chip : IsValid chip.geometry → (e : MountError) → IsUnmounted (device_of (powered chip)) (device_of new) e → HasKept chip new
  kept_chip valid mount.BadGeometry is = absurd (is.bad refl valid)
  kept_chip valid mount.ReadFault is = absurd (is.runs.cause.1 (powered_steady chip))
  kept_chip valid mount.WriteFault is = absurd (is.runs.cause.1 (powered_sound chip))
  kept_chip valid mount.Memory is = record {
    geometry = is.runs.kept.geometry;
    map = is.cuts.stands chip.image refl new.image refl;
    label = is.runs.kept.label;
  }

-- ---- the maps to which a chip's image mounts

unlikely_in : (chip : ChipState) (torn : Option DeviceCall) → IsChanceBy chip.geometry chip.image torn None → (call : DeviceCall) → torn ≡ Some call
    → IsUnlikely chip.geometry (Some call) chip.image
unlikely_in chip None none call is = absurd (false≢true (ap is_some is))
unlikely_in chip (Some told) none call is = subst (λ (d : DeviceCall). IsUnlikely chip.geometry (Some d) chip.image) (some_is is) none

unlikely_stands : (chip : ChipState) → IsChanceOf chip None → (call : DeviceCall) → chip.torn ≡ Some call → IsUnlikely chip.geometry (Some call) chip.image
unlikely_stands chip none call is = unlikely_in chip chip.torn none call is

-- a store that tells its state runs
abbrev pub Runs : KvState → Type 0
Runs s = ForSome s.known.state (λ (state : StoreState). is_some state.doubt ≡ false)

module _ (chip : ChipState) (log : LogPart) (active : Option ActiveSet) where
  abbrev pub view : LogView
  view = record { device = device_of chip; log = log }

  abbrev pub state_at : Option StoreState → KvState
  state_at note = store_state view (set_in active) note

  pub here_stands : (m : FlaggedMap) → Mounts chip.geometry chip.image m → MapsStand chip.geometry (device_of chip) (over_one m)
  here_stands m mounts = record {
    primary = λ image told. subst (λ (l : List ℕ). Mounts chip.geometry l m) (some_is told) mounts;
    rollback = refl;
  }

  -- where no record is there by chance
  pub stand_in : (note : Option StoreState) (m : FlaggedMap) → Mounts chip.geometry chip.image m → IsChanceOf chip None → (state_at note).crash.stands (over_one m)
  stand_in None m mounts none = here_stands m mounts
  stand_in (Some noted) m mounts none = record {
    tells = refl;
    unlikely = λ call is image told. subst (IsUnlikely chip.geometry (Some call)) (some_is told) (unlikely_stands chip none call is);
    stands = here_stands m mounts;
  }

  -- of a store that runs
  stand_running : (note : Option StoreState) → IsStore (view_at view active note) → Runs (state_at note) → (m : FlaggedMap) → Mounts chip.geometry chip.image m
      → (state_at note).crash.stands (over_one m)
  stand_running None is runs m mounts = here_stands m mounts
  stand_running (Some noted) is runs m mounts = absurd (false≢true (sym (runs noted refl) ∙ ap is_some is.is))

  pub tells_at : (note : Option StoreState) → is_some (state_at note).known.state ≡ true
  tells_at None = refl
  tells_at (Some noted) = refl

  pub steady_at : (note : Option StoreState) → (state_at note).known.steady ≡ is_steady chip
  steady_at None = refl
  steady_at (Some noted) = refl

-- ---- of a plain store

abbrev pub chip_under : PlainStore Chip → ChipState
chip_under store = view_of store.log.flash

abbrev pub log_under : PlainStore Chip → LogPart
log_under store = (log_view device_in store.log).log

pub stands_unlikely : (store : PlainStore Chip) (m : FlaggedMap) → Mounts (chip_under store).geometry (chip_under store).image m → IsChanceOf (chip_under store) None
    → (plain_told store).crash.stands (over_one m)
stands_unlikely store = stand_in (chip_under store) (log_under store) store.active (noted_in store.stopped)

pub stands_now : (store : PlainStore Chip) → ∥ Is device_in store ∥₁ → Runs (plain_told store) → (m : FlaggedMap)
    → Mounts (chip_under store).geometry (chip_under store).image m → (plain_told store).crash.stands (over_one m)
stands_now store kept = stand_running (chip_under store) (log_under store) store.active (noted_in store.stopped) (is_kept device_in store kept)

pub tells_state : (store : PlainStore Chip) → is_some (plain_told store).known.state ≡ true
tells_state store = tells_at (chip_under store) (log_under store) store.active (noted_in store.stopped)

pub told_labels : (store : PlainStore Chip) → (plain_told store).known.labels ≡ (chip_under store).label ∷ []
told_labels store =
    ap (λ (o : Opening). o.labels) (same_known (record { device = device_of (chip_under store); log = log_under store }) (set_in store.active) (noted_in store.stopped))

-- its constants are those of its chip, with some bits of hash
pub told_constants : (store : PlainStore Chip) → (plain_told store).known.constants ≡ chip_constants (plain_told store).known.constants.hash_bits (chip_under store).geometry
told_constants store =
    let known = same_known (record { device = device_of (chip_under store); log = log_under store }) (set_in store.active) (noted_in store.stopped) in
    let all : (plain_told store).known.constants ≡ constants_of (chip_under store).geometry (log_under store) = ap (λ (o : Opening). o.constants) known in
    all ∙ ap (λ (n : ℕ). chip_constants n (chip_under store).geometry) (ap (λ (c : Constants). c.hash_bits) (sym all))
