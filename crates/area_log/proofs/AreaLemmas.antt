-- Places of an area are places of its device.
use Rattle.std.proofs.Common.{ℕ, ◌+◌, ◌≤◌, ⊎_elim, arith}
use Rattle.flash_core.specs.declared.geometry.Geometry.{Geometry}
use Rattle.flash_core.specs.Sizes.{size_of}
use Rattle.flash_core.proofs.GeometryLaws.{size-areas}
use Rattle.area_log.specs.declared.area.Area.{Area}
use Rattle.area_log.specs.Areas.{end_of, IsAreaOf, IsRange}

module _ (g : Geometry) (area : Area) (is : IsAreaOf g area) where
  pub area_fits : end_of area ≤ size_of g
  area_fits = ⊎_elim (λ first. omega (arith, first, is.size, size-areas g)) (λ second. omega (arith, second, is.size, size-areas g)) is.base

  pub range_fits : {at n : ℕ} → IsRange area at n → at + n ≤ size_of g
  range_fits {at} {n} range = omega (arith, area_fits, range.to)
