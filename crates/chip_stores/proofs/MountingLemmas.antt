-- What mounting two chips as a pair gives.
use Rattle.std.proofs.Common.{◌≡◌, ℕ, true, List, [], ◌∷◌, ◌++◌, ◌+◌, ◌≤◌, refl, sym, ◌∙◌, ap, ap₂, subst, inl, inr, arith}
use Rattle.std.specs.Prelude.{Option, Some, None, is_some}
use mathlib.Core.Bool.{false≢true}
use Rattle.std.specs.FinMap as map
use Rattle.flash_core.specs.declared.geometry.Geometry.{Geometry}
use Rattle.flash_core.specs.Sizes.{IsValid}
use Rattle.flash_sim.specs.ChipState.{ChipState, device_of}
use Rattle.kv_model.specs.Constants.{Constants}
use Rattle.kv_model.specs.FlaggedMap.{FlaggedMap}
use Rattle.kv_model.specs.Kv.{KvState}
use Rattle.kv_model.specs.PlainStep.{plain_rules}
use Rattle.kv_model.specs.StoreState.{Maps, StoreState, fresh_state, maps_of}
use Rattle.kv_model.specs.Write.{map_of}
use Rattle.record_core.specs.Mounts.{Contents, Holds, Mounts}
use Rattle.record_core.proofs.Existence.{some_contents}
use Rattle.sealed_pair.specs.Pair.{both, pair, pair_constants}
use Rattle.sealed_pair.specs.Store.{IsFreshStore, joined}
use Rattle.sealed_pair.specs.Walking.{IsBetween}
use Rattle.sealed_pair.proofs.PairLemmas.{both_of}
use Rattle.secure_store.specs.Recover.{HasNoIterators}
use Rattle.chip_stores.specs.declared.pair.SecurePair.{SecurePair}
use Rattle.chip_stores.specs.Chips.{powered}
use Rattle.chip_stores.specs.Healing.{HasHealed, IsPartlyHealed, StandsBehind}
use Rattle.chip_stores.specs.Mounting.{HasKept, HasMounted}
use Rattle.chip_stores.specs.PairViews.{chips_in, told_in}
use Rattle.chip_stores.specs.Pairs.{ChipPair, HasKeptPair, HasMountedPair, HasPowerOn, MountsBoth, PairSetup, constants_by, healed_by}
use Rattle.chip_stores.proofs.AreaLemmas.{areas_of_same}
use Rattle.chip_stores.proofs.PairLemmas.{mounts_to_told, primary_on, rollback_on, some_maps}

-- ---- one chip that was mounted

some_same : {X : Type 0} (x y : X) → Some x ≡ Some y → x ≡ y
some_same x y is = cc

module _ (old new : ChipState) (valid : IsValid old.geometry) (bits : ℕ) (s : KvState) (is : HasMounted old new bits s) where
  -- its state is one of a store that was just made
  fresh_told : (state : StoreState) → s.known.state ≡ Some state → (m : FlaggedMap) × (state ≡ fresh_state m map.empty 1)
  fresh_told state told =
      let contents : (c : Contents) × Holds old.geometry old.image c = some_contents old.geometry valid old.image in
      let m : FlaggedMap = map_of contents.0.records in
      (m, some_same state (fresh_state m map.empty 1) (sym told ∙ is.fresh.state old.image refl m (contents.0, contents.1, refl)))

  pub is_fresh : IsFreshStore plain_rules s
  is_fresh = record {
    plain = record {
      rules = λ tells. refl;
      running = λ state told. ap (λ (t : StoreState). is_some t.doubt) (fresh_told state told).1;
    };
    no_set = λ state told. ap (λ (t : StoreState). t.open_set) (fresh_told state told).1;
    no_iterators = λ state told. ap (λ (t : StoreState). t.iterators) (fresh_told state told).1;
  }

  pub told_fresh : is_some s.known.state ≡ true
  told_fresh =
      let contents : (c : Contents) × Holds old.geometry old.image c = some_contents old.geometry valid old.image in
      ap is_some (is.fresh.state old.image refl (map_of contents.0.records) (contents.0, contents.1, refl))

-- ---- two chips of which no store was made

powered_kept : (chip : ChipState) → HasKept chip (powered chip)
powered_kept chip = record { geometry = refl; map = λ m is. is; label = refl }

pub kept_on : (old new : ChipState) → HasKept old new → HasPowerOn old new
kept_on old new kept = record { areas = areas_of_same kept.geometry; label = kept.label }

kept_mounts : (old new : ChipState) → HasKept old new → (m : FlaggedMap) → Mounts old.geometry old.image m → Mounts new.geometry new.image m
kept_mounts old new kept m mounts = subst (λ (g : Geometry). Mounts g new.image m) (sym kept.geometry) (kept.map m mounts)

pub kept_pair : (old new : ChipPair) (setup : PairSetup) → HasKept old.primary new.primary → HasKept old.rollback new.rollback → HasKeptPair old new setup
kept_pair old new setup one two = record {
  primary = kept_on old.primary new.primary one;
  rollback = kept_on old.rollback new.rollback two;
  maps = λ maps mounts. (
    maps.rollback,
    (λ key. inl refl),
    record {
      primary = kept_mounts old.primary new.primary one maps.primary mounts.primary;
      rollback = kept_mounts old.rollback new.rollback two maps.rollback mounts.rollback;
    },
  );
}

-- the primary chip could not be mounted, and power was put on for the other
pub kept_powered : (old : ChipPair) (primary rollback : ChipState) (setup : PairSetup) → HasKept old.primary primary → rollback ≡ powered old.rollback
    → HasKeptPair old (record { primary = primary; rollback = rollback }) setup
kept_powered old primary rollback setup kept on =
    subst (λ (c : ChipState). HasKeptPair old (record { primary = primary; rollback = c }) setup) (sym on)
    (kept_pair old (record { primary = primary; rollback = powered old.rollback }) setup kept (powered_kept old.rollback))

-- ---- two chips as a pair

module _ (old new : ChipPair) (setup : PairSetup) (valid : IsValid old.primary.geometry) (valid_too : IsValid old.rollback.geometry) (u r : KvState)
    (one : HasMounted old.primary new.primary setup.hash_bits u) (two : HasMounted old.rollback new.rollback setup.hash_bits r) where
  -- the store that was made of the two
  abbrev pub made : KvState
  made = pair setup.root (joined setup.number) u r

  pub made_sound : made.known.sound ≡ true
  made_sound = both_of u.known.sound r.known.sound one.sound two.sound

  made_constants : made.known.constants ≡ constants_by setup old
  made_constants = ap₂ (pair_constants setup.root) one.fresh.constants two.fresh.constants

  abbrev fresh_over : Maps → StoreState
  fresh_over maps = fresh_state maps.primary maps.rollback setup.number

  made_state : (maps : Maps) → MountsBoth old maps → made.known.state ≡ Some (fresh_over maps)
  made_state maps mounts =
      ap₂ (both (joined setup.number)) (one.fresh.state old.primary.image refl maps.primary mounts.primary) (two.fresh.state old.rollback.image refl maps.rollback mounts.rollback)

  pub made_told : is_some made.known.state ≡ true
  made_told =
      let found : (maps : Maps) × MountsBoth old maps = some_maps old valid valid_too in
      ap is_some (made_state found.0 found.1)

  module _ (mounted : SecurePair) (stands : StandsBehind made (told_in mounted)) where
    constants_now : (told_in mounted).known.constants ≡ constants_by setup old
    constants_now = stands.constants ∙ made_constants

    labels_now : (told_in mounted).known.labels ≡ [] ∷ ([] ∷ [])
    labels_now = stands.labels ∙ ap₂ (λ a b. a ++ b) one.labels two.labels

    on_above : HasPowerOn old.primary (chips_in mounted).primary
    on_above = primary_on mounted setup.root setup.hash_bits old valid valid_too constants_now labels_now

    on_below : HasPowerOn old.rollback (chips_in mounted).rollback
    on_below = rollback_on mounted setup.root setup.hash_bits old valid valid_too constants_now labels_now

    counts : (a b c d e : ℕ) → a ≡ b → c ≡ d → a + c ≤ e → b + d ≤ e
    counts a b c d e same same_too least = omega (arith, same, same_too, least)

    pub mounted_pair : HasHealed made (told_in mounted) → HasMountedPair old (chips_in mounted) setup (told_in mounted)
    mounted_pair healed = record {
      primary = on_above;
      rollback = on_below;
      constants = constants_now;
      state = λ maps mounts. subst (λ (c : Constants). (told_in mounted).known.state ≡ Some (record (fresh_over maps) { rollback = (healed_by c maps).rollback })) made_constants
          (healed.state (fresh_over maps) (made_state maps mounts));
      labels = labels_now;
      sound = stands.sound;
      read_faults = counts u.known.read_faults (device_of old.primary).read_faults r.known.read_faults (device_of old.rollback).read_faults
          (told_in mounted).known.read_faults one.read_faults two.read_faults stands.read_faults;
      write_faults = counts u.known.write_faults (device_of old.primary).write_faults r.known.write_faults (device_of old.rollback).write_faults
          (told_in mounted).known.write_faults one.write_faults two.write_faults stands.write_faults;
    }

    partly_kept : IsPartlyHealed made (told_in mounted) → (maps : Maps) → MountsBoth old maps
        → (left : FlaggedMap) × IsBetween maps.rollback (healed_by (constants_by setup old) maps).rollback left
        × MountsBoth (chips_in mounted) (record { primary = maps.primary; rollback = left })
    partly_kept partly maps mounts =
        let found = partly.state (fresh_over maps) (made_state maps mounts) in (
          found.0,
          subst (λ (c : Constants). IsBetween maps.rollback (healed_by c maps).rollback found.0) made_constants found.1,
          mounts_to_told mounted (record (fresh_over maps) { rollback = found.0 }) found.2 refl,
        )

    pub partly_mounted : IsPartlyHealed made (told_in mounted) → HasKeptPair old (chips_in mounted) setup
    partly_mounted partly = record { primary = on_above; rollback = on_below; maps = partly_kept partly }
