-- What the live records of a log take.
use Rattle.std.specs.Prelude.{◌≡◌, ℕ}
use Rattle.std.specs.Option.{ForSome}
use Rattle.kv_model.specs.Sizes.{used}
use Rattle.tdb_read.specs.Reads.{map_in}
use Rattle.tdb_read.specs.Views.{LogView}

-- This is what the map uses.
abbrev pub IsLiveSize : LogView → ℕ → Type 0
IsLiveSize v size = ForSome v.device.image (λ image. size ≡ used v.device.geometry.prog (map_in v.device.geometry v.log image))
