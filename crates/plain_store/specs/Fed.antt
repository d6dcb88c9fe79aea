-- What stands of a value that is written in pieces.
use Rattle.std.specs.Prelude.{◌≡◌, ◌+◌, ◌++◌, length}
use Rattle.std.specs.Option.{ForSome}
use Rattle.flash_core.specs.Images.{part}
use Rattle.flash_core.specs.State.{FlashState}
use Rattle.base_core.specs.Units.{up}
use Rattle.inc_set.specs.Units.{whole_units}
use Rattle.kv_model.specs.StoreState.{OpenSet}
use Rattle.tdb_read.specs.Views.{LogView, view_of}
use Rattle.plain_store.specs.Sets.{set_in}
use Rattle.plain_store.specs.declared.plain.PlainStore.{PlainStore}

-- Behind the place of a header at the end of the records the image has every whole program unit of the set's key and of
-- its bytes so far.
abbrev pub HasWholeUnits : LogView → OpenSet → Type 0
HasWholeUnits v set = ForSome v.device.image (λ image.
    part image (v.log.end + up v.device.geometry.prog 24) (length (whole_units v.device.geometry.prog (set.key ++ set.bytes)))
    ≡ whole_units v.device.geometry.prog (set.key ++ set.bytes))

module _ {F : Type 0} (state : F → FlashState) where
  -- so it is with the active set
  abbrev pub StandsSoFar : PlainStore F → Type 0
  StandsSoFar store = ForSome (set_in store.active) (HasWholeUnits (view_of state store.log))
