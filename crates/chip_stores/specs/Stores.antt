-- What a plain store over a chip tells.
use Rattle.std.specs.Prelude.{ℕ, None}
use Rattle.std.specs.FinMap as map
use Rattle.flash_core.specs.declared.geometry.Geometry.{Geometry}
use Rattle.flash_core.specs.Sizes.{area_size}
use Rattle.flash_sim.specs.declared.chip.Chip.{Chip}
use Rattle.kv_model.specs.Constants.{Constants}
use Rattle.kv_model.specs.FlaggedMap.{FlaggedMap}
use Rattle.kv_model.specs.Kv.{KvState}
use Rattle.kv_model.specs.Sizes.{room_of}
use Rattle.kv_model.specs.StoreState.{Maps}
use Rattle.plain_store.specs.declared.plain.PlainStore.{PlainStore}
use Rattle.plain_store.specs.Stores.{state_of, store_view}
use Rattle.chip_stores.specs.Chips.{device_in}

abbrev pub plain_told : PlainStore Chip → KvState
plain_told store = state_of (store_view device_in store)

-- the constants of a plain store over a chip of this geometry
abbrev pub chip_constants : ℕ → Geometry → Constants
chip_constants hash_bits g = record { hash_bits = hash_bits; prog = g.prog; room = room_of g.prog (area_size g); secure = None }

-- the maps of a store over one chip that mounts to this one
abbrev pub over_one : FlaggedMap → Maps
over_one m = record { primary = m; rollback = map.empty }
