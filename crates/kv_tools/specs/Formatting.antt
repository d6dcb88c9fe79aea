-- The image of a device that was formatted.
use Rattle.std.specs.Prelude.{ℕ, ◌-◌, List, ◌++◌, replicate}
use Rattle.base_core.specs.Sizes.{master_size}
use Rattle.flash_core.specs.declared.geometry.Geometry.{Geometry}
use Rattle.flash_core.specs.Sizes.{size_of}
use Rattle.record_core.specs.Record.{master_bytes}

-- a master record of version 1 at the start of the first area, and every other byte 0xFF
abbrev pub formatted_image : Geometry → List ℕ
formatted_image g = master_bytes g.prog 1 ++ replicate (size_of g - master_size g.prog) 255
