-- What a store is that was just mounted.
use Rattle.std.specs.Prelude.{◌≡◌, ℕ, Some, None}
use Rattle.std.specs.FinMap as map
use Rattle.std.specs.Option.{ForSome}
use Rattle.flash_core.specs.State.{FlashState}
use Rattle.flash_core.specs.Sizes.{area_size}
use Rattle.kv_model.specs.FlaggedMap.{FlaggedMap}
use Rattle.kv_model.specs.Kv.{KvState}
use Rattle.kv_model.specs.Sizes.{room_of}
use Rattle.kv_model.specs.StoreState.{fresh_state}
use Rattle.record_core.specs.Mounts.{Mounts}

-- It goes by the device's constants, and its state is the map to which the device's image mounted, with nothing active.
pub record IsFresh (old : FlashState) (hash_bits : ℕ) (s : KvState) : Type 0 where
  pub constants : s.known.constants
      ≡ record { hash_bits = hash_bits; prog = old.geometry.prog; room = room_of old.geometry.prog (area_size old.geometry); secure = None }
  pub state : ForSome old.image (λ image. (m : FlaggedMap) → Mounts old.geometry image m → s.known.state ≡ Some (fresh_state m map.empty 1))
