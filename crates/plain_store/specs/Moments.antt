-- What each moment of a call of a running plain store leaves.
use Rattle.std.specs.Prelude.{◌≡◌, ℕ, true, List, Option, None, is_some}
use Rattle.std.specs.Option.{ForSome}
use Rattle.flash_core.specs.declared.geometry.Geometry.{Geometry}
use Rattle.flash_core.specs.Moments.{Adds, FailedInside}
use Rattle.flash_core.specs.State.{DeviceCall, FlashState}
use Rattle.kv_model.specs.Operations.{Operation}
use Rattle.kv_model.specs.PlainStep.{plain_step}
use Rattle.kv_model.specs.StoreState.{StoreState}
use Rattle.record_core.specs.CutMoments.{CutStrictly, MountsToOne}
use Rattle.tdb_read.specs.States.{constants_of, state_in}
use Rattle.plain_store.specs.Sets.{set_in}
use Rattle.plain_store.specs.Stores.{StoreView, store_view}
use Rattle.plain_store.specs.declared.plain.PlainStore.{PlainStore}

-- A moment of the call, over the image at its entry: what a power cut leaves mounts to the map before the call or to that
-- of its step, as far as chance goes.
abbrev pub LeavesStep : StoreView → ℕ → Operation → List ℕ → Option DeviceCall → List ℕ → Type 0
LeavesStep v who operation image call left =
    let g : Geometry = v.log.device.geometry in
    let before : StoreState = state_in g v.log.log (set_in v.active) image in
    CutStrictly g (MountsToOne g before.primary (plain_step (constants_of g v.log.log) before who operation).state.primary) call left

-- Each moment that the call adds is such a one, and so is the image of a store that it stopped, inside the program or
-- erase that failed.
pub record CutsStrictly (old new : StoreView) (who : ℕ) (operation : Operation) : Type 0 where
  pub adds : ForSome old.log.device.image (λ image. Adds old.log.device new.log.device (LeavesStep old who operation image))
  pub failed : is_some new.note ≡ true
      → ForSome old.log.device.image (λ image. ForSome new.log.device.image (FailedInside new.log.device (LeavesStep old who operation image)))

module _ {F : Type 0} (state : F → FlashState) where
  abbrev pub CutsBy : PlainStore F → PlainStore F → ℕ → Operation → Type 0
  CutsBy old new who operation = old.stopped ≡ None → CutsStrictly (store_view state old) (store_view state new) who operation
