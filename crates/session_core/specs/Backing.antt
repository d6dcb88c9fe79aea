-- What stands behind a session: its store while it is mounted, and else its chips.
use Rattle.std.specs.Prelude.{ℕ, false, [], ◌∷◌, Option, Some, None}
use Rattle.flash_core.specs.Sizes.{area_size}
use Rattle.flash_sim.specs.ChipState.{ChipState, device_of, new_chip}
use Rattle.flash_sim.specs.Views.{view_of}
use Rattle.kv_model.specs.Constants.{Constants}
use Rattle.kv_model.specs.Kv.{Clock, KvState}
use Rattle.kv_model.specs.PlainStep.{plain_rules}
use Rattle.kv_model.specs.Rules.{Rules}
use Rattle.kv_model.specs.Sizes.{room_of}
use Rattle.plain_store.specs.Stores.{state_of, store_view}
use Rattle.session_core.specs.declared.backing.Chips.{Chips}
use Rattle.session_core.specs.declared.backing.Chips.TheVariants.{One}
use Rattle.session_core.specs.declared.backing.Store.{Store}
use Rattle.session_core.specs.declared.backing.Store.TheVariants.{Plain}
use Rattle.session_core.specs.Chips.{device_in}

-- the rules of a session's store, by its constants
abbrev pub session_rules : Constants → Rules
session_rules = plain_rules

-- what a store tells
abbrev pub told_by : Store → KvState
told_by (Plain store) = state_of (store_view device_in store.store)

-- the chip of a store, and of chips that no store has
abbrev pub chip_behind : Store → ChipState
chip_behind (Plain store) = view_of store.store.log.flash

abbrev pub chip_in : Chips → ChipState
chip_in (One chip) = view_of chip

-- a clock that tells nothing
abbrev no_clock : Clock
no_clock = record { moment = 0; left_since = λ t map. ⊥ }

-- what a session tells that is not mounted: no state, and nothing of power cuts
abbrev pub unmounted : ℕ → ChipState → KvState
unmounted hash_bits chip = record {
  known = record {
    constants = record { hash_bits = hash_bits; prog = chip.geometry.prog; room = room_of chip.geometry.prog (area_size chip.geometry); secure = None };
    state = None;
    log = None;
    read_faults = (device_of chip).read_faults;
    write_faults = (device_of chip).write_faults;
    steady = (device_of chip).steady;
    sound = (device_of chip).sound;
    labels = chip.label ∷ [];
  };
  crash = record { tells_moments = false; primary = no_clock; rollback = no_clock; stands = λ maps. Unit {0} };
}

-- no chip
abbrev no_chip : ChipState
no_chip = new_chip (record { prog = 0; erase = 0; units_per_area = 0 }) []

abbrev pub primary_by : Option Store → Option Chips → ChipState
primary_by (Some store) chips = chip_behind store
primary_by None (Some chips) = chip_in chips
primary_by None None = no_chip

abbrev pub state_by : ℕ → Option Store → Option Chips → KvState
state_by hash_bits (Some store) chips = told_by store
state_by hash_bits None chips = unmounted hash_bits (primary_by None chips)
