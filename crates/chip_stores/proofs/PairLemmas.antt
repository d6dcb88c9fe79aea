-- What a pair tells of its two chips.
use Rattle.std.proofs.Common.{◌≡◌, ℕ, true, List, [], ◌∷◌, ◌++◌, refl, sym, ◌∙◌, ap, ap₂, subst}
use Rattle.std.specs.Prelude.{Option, Some, None, MatchOption, Contains, is_none, is_some}
use mathlib.Core.Bool.{false≢true}
use Rattle.std.specs.FinMap as map
use Rattle.std.specs.Option.{option_map_or}
use Rattle.std.proofs.Math.Bool.{Bool-set}
use Rattle.std.proofs.Math.Logic.{∥∥₁_elim}
use Rattle.flash_core.specs.Sizes.{IsValid}
use Rattle.flash_sim.specs.ChipState.{ChipState}
use Rattle.flash_sim.specs.declared.chip.Chip.{Chip}
use Rattle.kv_model.specs.Constants.{Constants, Secure}
use Rattle.kv_model.specs.FlaggedMap.{FlaggedMap}
use Rattle.kv_model.specs.Kv.{IsLawful, KvState}
use Rattle.kv_model.specs.Rules.{cuts}
use Rattle.kv_model.specs.StoreState.{Doubt, Maps, StoreState, maps_of}
use Rattle.kv_model.specs.Write.{map_of}
use Rattle.record_core.specs.Mounts.{Contents, Holds}
use Rattle.record_core.proofs.Existence.{some_contents}
use Rattle.plain_store.specs.declared.plain.PlainStore.{PlainStore}
use Rattle.plain_store.specs.Stores.{Is}
use Rattle.sealed_pair.specs.Pair.{Joining, PairStands, both, pair_constants}
use Rattle.sealed_pair.specs.SecureStep.{secure_rules}
use Rattle.sealed_pair.specs.Store.{Own}
use Rattle.sealed_pair.proofs.PairLemmas.{told_both}
use Rattle.secure_store.specs.declared.stop.Stop.{Stop}
use Rattle.secure_store.specs.declared.stop.Stop.TheVariants.{InCall, InRecover}
use Rattle.secure_store.specs.Doubts.{IsStopped, WhereStopped, noted_in, told_by}
use Rattle.chip_stores.specs.declared.pair.SecurePair.{SecurePair}
use Rattle.chip_stores.specs.Chips.{HasSameAreas, device_in}
use Rattle.chip_stores.specs.Laws.{pair_is_lawful}
use Rattle.chip_stores.specs.PairViews.{chips_in, told_in}
use Rattle.chip_stores.specs.Pairs.{AreToldMaps, ChipPair, HasNoChance, HasPowerOn, MountsBoth}
use Rattle.chip_stores.specs.Stores.{chip_constants, plain_told}
use Rattle.chip_stores.proofs.AreaLemmas.{areas_by}
use Rattle.chip_stores.proofs.ChipLemmas.{Runs, chip_under, stands_now, stands_unlikely, told_constants, told_labels}

pub there_is : {X : Type 0} (o : Option X) → is_some o ≡ true → (x : X) × (o ≡ Some x)
there_is None is = absurd (false≢true is)
there_is (Some x) is = (x, refl)

pub match_both : {X A B : Type 0} {P Q : X → Type 0} (o : Option X) → (A → B) → ((x : X) → P x → Q x) → MatchOption o A P → MatchOption o B Q
match_both None first second is = first is
match_both (Some x) first second is = second x is

pub when_some : {X Q : Type 0} (A : Type 0) (P : X → Type 0) (o : Option X) (x : X) → o ≡ Some x → (Q → MatchOption o A P) → MatchOption o A (λ y. Q → P y)
when_some A P None x is given = absurd (false≢true (ap is_some is))
when_some A P (Some y) x is given = given

-- ---- constants and labels

module _ (root : List ℕ) (own : Own) (u r : KvState) where
  pub pair_constants_told : (stop : Option Stop) → (told_by root own stop u r).known.constants ≡ pair_constants root u.known.constants r.known.constants
  pair_constants_told None = refl
  pair_constants_told (Some (InCall noted)) = refl
  pair_constants_told (Some InRecover) = refl

  pub pair_labels_told : (stop : Option Stop) → (told_by root own stop u r).known.labels ≡ u.known.labels ++ r.known.labels
  pair_labels_told None = refl
  pair_labels_told (Some (InCall noted)) = refl
  pair_labels_told (Some InRecover) = refl

abbrev first_label : List (List ℕ) → List ℕ
first_label [] = []
first_label (label ∷ labels) = label

abbrev second_label : List (List ℕ) → List ℕ
second_label [] = []
second_label (label ∷ labels) = first_label labels

abbrev secure_prog : Constants → ℕ
secure_prog constants = option_map_or (λ (s : Secure). s.prog) constants.secure 0

abbrev secure_room : Constants → ℕ
secure_room constants = option_map_or (λ (s : Secure). s.room) constants.secure 0

-- The chips of a pair have power on where it goes by the constants of chips and tells no pattern.
module _ (pair : SecurePair) (root : List ℕ) (bits : ℕ) (old : ChipPair) (valid : IsValid old.primary.geometry) (valid_too : IsValid old.rollback.geometry)
    (constants : (told_in pair).known.constants ≡ pair_constants root (chip_constants bits old.primary.geometry) (chip_constants bits old.rollback.geometry))
    (labels : (told_in pair).known.labels ≡ [] ∷ ([] ∷ [])) where
  abbrev above : PlainStore Chip
  above = pair.store.primary.store

  abbrev below : PlainStore Chip
  below = pair.store.rollback.store

  told_pair : pair_constants pair.store.root (plain_told above).known.constants (plain_told below).known.constants
      ≡ pair_constants root (chip_constants bits old.primary.geometry) (chip_constants bits old.rollback.geometry)
  told_pair = sym (pair_constants_told pair.store.root _ (plain_told above) (plain_told below) pair.store.stopped) ∙ constants

  told_pair_labels : (chip_under above).label ∷ ((chip_under below).label ∷ []) ≡ [] ∷ ([] ∷ [])
  told_pair_labels =
      ap₂ (λ a b. a ++ b) (sym (told_labels above)) (sym (told_labels below))
      ∙ sym (pair_labels_told pair.store.root _ (plain_told above) (plain_told below) pair.store.stopped) ∙ labels

  pub primary_on : HasPowerOn old.primary (chips_in pair).primary
  primary_on = record {
    areas = areas_by old.primary.geometry (chip_under above).geometry valid above.log.flash.valid
        (ap (λ (c : Constants). c.prog) (sym (told_constants above)) ∙ ap (λ (c : Constants). c.prog) told_pair)
        (ap (λ (c : Constants). c.room) (sym (told_constants above)) ∙ ap (λ (c : Constants). c.room) told_pair);
    label = ap first_label told_pair_labels;
  }

  pub rollback_on : HasPowerOn old.rollback (chips_in pair).rollback
  rollback_on = record {
    areas = areas_by old.rollback.geometry (chip_under below).geometry valid_too below.log.flash.valid
        (ap (λ (c : Constants). c.prog) (sym (told_constants below)) ∙ ap secure_prog told_pair)
        (ap (λ (c : Constants). c.room) (sym (told_constants below)) ∙ ap secure_room told_pair);
    label = ap second_label told_pair_labels;
  }

-- ---- the maps to which the chips mount

module _ (root : List ℕ) (u r : PlainStore Chip) (kept : ∥ Is device_in u ∥₁) (kept_too : ∥ Is device_in r ∥₁) where
  abbrev chips : ChipPair
  chips = record { primary = chip_under u; rollback = chip_under r }

  abbrev Stand : Joining → Maps → Type 0
  Stand joining maps = PairStands root joining (plain_told u) (plain_told r) maps

  stand_running : Runs (plain_told u) → Runs (plain_told r) → (joining : Joining) (maps : Maps) → MountsBoth chips maps → Stand joining maps
  stand_running runs runs_too joining maps mounts = record {
    beside = map.empty;
    beside_rollback = map.empty;
    primary_stands = stands_now u kept runs maps.primary mounts.primary;
    rollback_stands = stands_now r kept_too runs_too maps.rollback mounts.rollback;
  }

  stand_unlikely : HasNoChance chips → (joining : Joining) (maps : Maps) → MountsBoth chips maps → Stand joining maps
  stand_unlikely none joining maps mounts = record {
    beside = map.empty;
    beside_rollback = map.empty;
    primary_stands = stands_unlikely u maps.primary mounts.primary none.primary;
    rollback_stands = stands_unlikely r maps.rollback mounts.rollback none.rollback;
  }

  told_at : (own : Own) (stop : Option Stop) → (stop ≡ None → Runs (plain_told u)) → (stop ≡ None → Runs (plain_told r))
      → ∥ WhereStopped root (noted_in stop) (plain_told u) (plain_told r) ∥₁ → IsLawful secure_rules (told_by root own stop (plain_told u) (plain_told r))
      → (maps : Maps) → MountsBoth chips maps → AreToldMaps chips (told_by root own stop (plain_told u) (plain_told r)) maps
  told_at own None runs runs_too fact lawful maps mounts = λ state told.
      match_both state.doubt (λ same. same) (λ d among none. among) (lawful.stands state told maps (stand_running (runs refl) (runs_too refl) _ maps mounts))
  told_at own (Some (InCall noted)) runs runs_too fact lawful maps mounts = λ state told.
      let t = told_both (λ a b. noted.state) (plain_told u).known.state (plain_told r).known.state state told in
      let doubt : is_some noted.state.doubt ≡ true = ∥∥₁_elim fact (Bool-set (is_some noted.state.doubt) true)
      (λ (s : IsStopped root (plain_told u) (plain_told r) noted.state). s.in_doubt) in
      let found = there_is noted.state.doubt doubt in
      when_some (maps ≡ maps_of state)
      (λ (d : Doubt). Contains (cuts (secure_rules (pair_constants root (plain_told u).known.constants (plain_told r).known.constants)) state d.who d.operation) maps)
      state.doubt found.0 (ap (λ (s : StoreState). s.doubt) t.joined ∙ found.1)
      (λ none. lawful.stands state told maps (stand_unlikely none _ maps mounts))
  told_at own (Some InRecover) runs runs_too fact lawful maps mounts = λ state told. absurd (false≢true (ap is_some told))

pub told_maps : (pair : SecurePair) (maps : Maps) → MountsBoth (chips_in pair) maps → AreToldMaps (chips_in pair) (told_in pair) maps
told_maps pair =
    let store = pair.store in
    told_at store.root store.primary.store store.rollback.store store.primary.kept store.rollback.kept _ store.stopped
    (λ none. store.above.running (ap is_none none)) (λ none. store.below.running (ap is_none none)) store.in_doubt (pair_is_lawful pair)

-- ---- some maps there are

pub some_maps : (chips : ChipPair) → IsValid chips.primary.geometry → IsValid chips.rollback.geometry → (maps : Maps) × MountsBoth chips maps
some_maps chips valid valid_too =
    let one : (c : Contents) × Holds chips.primary.geometry chips.primary.image c = some_contents chips.primary.geometry valid chips.primary.image in
    let two : (c : Contents) × Holds chips.rollback.geometry chips.rollback.image c = some_contents chips.rollback.geometry valid_too chips.rollback.image in
    (record { primary = map_of one.0.records; rollback = map_of two.0.records }, record { primary = (one.0, one.1, refl); rollback = (two.0, two.1, refl) })

-- a pair that tells a state that runs mounts to its maps
pub mounts_to_told : (pair : SecurePair) (state : StoreState) → (told_in pair).known.state ≡ Some state → state.doubt ≡ None → MountsBoth (chips_in pair) (maps_of state)
mounts_to_told pair state told runs =
    let found = some_maps (chips_in pair) pair.store.primary.store.log.flash.valid pair.store.rollback.store.log.flash.valid in
    let same : found.0 ≡ maps_of state = subst (λ (o : Option Doubt). MatchOption o (found.0 ≡ maps_of state)
    (λ (d : Doubt). HasNoChance (chips_in pair) → Contains (cuts (secure_rules (told_in pair).known.constants) state d.who d.operation) found.0)) runs
    (told_maps pair found.0 found.1 state told) in
    subst (MountsBoth (chips_in pair)) same found.1
