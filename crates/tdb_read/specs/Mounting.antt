-- What mounting a log leaves.
use Rattle.std.specs.Prelude.{◌≡◌, ℕ}
use Rattle.std.specs.FinMap as map
use Rattle.std.specs.Option.{ForSome}
use Rattle.flash_core.specs.Runs.{Done, RunsBy}
use Rattle.flash_core.specs.State.{FlashState}
use Rattle.flash_core.specs.Sizes.{IsValid}
use Rattle.kv_model.specs.FlaggedMap.{FlaggedMap}
use Rattle.record_core.specs.CutMoments.{Cuts}
use Rattle.record_core.specs.Mounts.{Mounts}
use Rattle.tdb_mount.specs.declared.mount.MountError.{MountError}
use Rattle.tdb_mount.specs.declared.mount.MountError.TheVariants.{BadGeometry}
use Rattle.tdb_mount.specs.Format.{Leaves, MountsAlike, MountsBy}
use Rattle.tdb_mount.specs.Refusals.{mount_ending}
use Rattle.tdb_read.specs.Reads.{map_in}
use Rattle.tdb_read.specs.Views.{IsReady, LogView}

-- The log was mounted: it has no iterators, and where the device told its image it stands for the map of that.
pub record IsMounted (old : FlashState) (hash_bits : ℕ) (v : LogView) : Type 0 where
  pub ready : IsReady v
  pub runs : RunsBy old v.device (MountsBy old.geometry) Done
  -- and so does what a power cut leaves at each moment, as far as chance goes
  pub cuts : RunsBy old v.device (Cuts old.geometry (MountsAlike old.geometry)) Done
  pub bits : v.log.hash_bits ≡ hash_bits
  pub no_iterators : v.log.iterators ≡ map.empty
  pub same_map : ForSome old.image (λ image. ForSome v.device.image (λ left.
      (m : FlaggedMap) → Mounts old.geometry image m → map_in old.geometry v.log left ≡ m))
  -- all of that image stands where some area of it is valid, and it was formatted else
  pub leaves : ForSome old.image (λ image. ForSome v.device.image (λ left. Leaves old.geometry image left Done))

-- It was not: where the geometry is not valid nothing was touched.
pub record IsUnmounted (old new : FlashState) (e : MountError) : Type 0 where
  pub runs : RunsBy old new (MountsBy old.geometry) (mount_ending e)
  pub cuts : RunsBy old new (Cuts old.geometry (MountsAlike old.geometry)) (mount_ending e)
  pub bad : e ≡ BadGeometry → (IsValid old.geometry → ⊥)
