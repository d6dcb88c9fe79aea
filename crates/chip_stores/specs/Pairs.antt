-- Two chips as the devices of a secure store, and what mounting them leaves.
use Rattle.std.specs.Prelude.{◌≡◌, ℕ, ◌+◌, ◌≤◌, true, List, [], ◌∷◌, None, Some, MatchOption, Contains}
use Rattle.std.specs.Option.{ForSome}
use Rattle.flash_sim.specs.ChipState.{ChipState, device_of}
use Rattle.kv_model.specs.Constants.{Constants}
use Rattle.kv_model.specs.FlaggedMap.{FlaggedMap}
use Rattle.kv_model.specs.Kv.{KvState}
use Rattle.kv_model.specs.Rules.{cuts}
use Rattle.kv_model.specs.StoreState.{Maps, fresh_state, maps_of}
use Rattle.record_core.specs.Mounts.{Mounts}
use Rattle.sealed_pair.specs.Pair.{pair_constants}
use Rattle.sealed_pair.specs.SecureStep.{secure_rules}
use Rattle.sealed_pair.specs.Walking.{IsBetween}
use Rattle.chip_stores.specs.Chance.{IsChanceOf}
use Rattle.chip_stores.specs.Chips.{HasSameAreas}
use Rattle.chip_stores.specs.Stores.{chip_constants}

pub record ChipPair : Type 0 where
  pub primary : ChipState
  pub rollback : ChipState

-- what a pair is mounted with: its root key, the number that goes on, and the bits of a hash
pub record PairSetup : Type 0 where
  pub root : List ℕ
  pub number : ℕ
  pub hash_bits : ℕ

-- the constants of a secure store over these chips
abbrev pub constants_by : PairSetup → ChipPair → Constants
constants_by setup chips =
    pair_constants setup.root (chip_constants setup.hash_bits chips.primary.geometry) (chip_constants setup.hash_bits chips.rollback.geometry)

-- the chips' images mount to these maps
pub record MountsBoth (chips : ChipPair) (maps : Maps) : Type 0 where
  pub primary : Mounts chips.primary.geometry chips.primary.image maps.primary
  pub rollback : Mounts chips.rollback.geometry chips.rollback.image maps.rollback

-- these maps with each set completed that was cut between the two stores
abbrev pub healed_by : Constants → Maps → Maps
healed_by constants maps = (secure_rules constants).heal maps

-- The chip has power on, and areas of the size of before.
pub record HasPowerOn (old new : ChipState) : Type 0 where
  pub areas : HasSameAreas old.geometry new.geometry
  pub label : new.label ≡ []

-- The chips were mounted as a secure store: this is what is told of them then.
pub record HasMountedPair (old new : ChipPair) (setup : PairSetup) (s : KvState) : Type 0 where
  pub primary : HasPowerOn old.primary new.primary
  pub rollback : HasPowerOn old.rollback new.rollback
  pub constants : s.known.constants ≡ constants_by setup old
  -- it runs with the healed maps of the images, nothing is active, and the number goes on
  pub state : (maps : Maps) → MountsBoth old maps
      → let healed = healed_by (constants_by setup old) maps in s.known.state ≡ Some (fresh_state healed.primary healed.rollback setup.number)
  pub labels : s.known.labels ≡ [] ∷ ([] ∷ [])
  pub sound : s.known.sound ≡ true
  pub read_faults : (device_of old.primary).read_faults + (device_of old.rollback).read_faults ≤ s.known.read_faults
  pub write_faults : (device_of old.primary).write_faults + (device_of old.rollback).write_faults ≤ s.known.write_faults

-- The chips have power on. The primary one mounts to the map to which it did, and the rollback one to a map of which
-- each tag is the one before or the healed one.
pub record HasKeptPair (old new : ChipPair) (setup : PairSetup) : Type 0 where
  pub primary : HasPowerOn old.primary new.primary
  pub rollback : HasPowerOn old.rollback new.rollback
  pub maps : (maps : Maps) → MountsBoth old maps
      → (left : FlaggedMap) × IsBetween maps.rollback (healed_by (constants_by setup old) maps).rollback left
      × MountsBoth new (record { primary = maps.primary; rollback = left })

-- No record is there by chance on either chip.
pub record HasNoChance (chips : ChipPair) : Type 0 where
  pub primary : IsChanceOf chips.primary None
  pub rollback : IsChanceOf chips.rollback None

-- These are the maps of a store that runs. Of a stopped one they are such as a power cut in the call in doubt may leave,
-- unless a record is there by chance.
abbrev pub AreToldMaps : ChipPair → KvState → Maps → Type 0
AreToldMaps chips s maps = ForSome s.known.state (λ state. MatchOption state.doubt
    (maps ≡ maps_of state)
    (λ doubt. HasNoChance chips → Contains (cuts (secure_rules s.known.constants) state doubt.who doubt.operation) maps))
