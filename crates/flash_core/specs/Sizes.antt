-- Sizes on a device, in bytes.
use Rattle.std.specs.Prelude.{ℕ, ◌*◌, ◌≤◌, IsTrue}
use Rattle.std.specs.Int.{is_power_of_two}
use Rattle.base_core.specs.Sizes.{master_size}
use Rattle.base_core.specs.Units.{IsMultipleOf, up}
use Rattle.flash_core.specs.declared.geometry.Geometry.{Geometry}

abbrev pub area_size : Geometry → ℕ
area_size g = g.units_per_area * g.erase

-- both areas
abbrev pub size_of : Geometry → ℕ
size_of g = 2 * g.units_per_area * g.erase

pub record IsValid (g : Geometry) : Type 0 where
  pub prog_is_power : IsTrue (is_power_of_two g.prog)
  pub prog_limit : g.prog ≤ 4096
  pub erase_positive : 1 ≤ g.erase
  pub erase_limit : g.erase ≤ 65536
  pub erase_is_multiple : IsMultipleOf g.prog g.erase
  pub header_fits : up g.prog 24 ≤ g.erase
  pub units_positive : 1 ≤ g.units_per_area
  pub size_limit : size_of g ≤ 16777216
  pub master_fits : master_size g.prog ≤ area_size g
