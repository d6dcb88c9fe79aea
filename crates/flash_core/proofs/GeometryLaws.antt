-- What a valid geometry gives.
use Rattle.std.proofs.Common.{◌≡◌, ℕ, zero, suc, ◌+◌, ◌*◌, ◌<◌, ◌≤◌, arith}
use Rattle.std.specs.Prelude.{IsTrue}
use Rattle.std.specs.Int.{is_power_of_two}
use lib.Count.{ones}
use mathlib.Core.Bool.{false≢true}
use Rattle.std.proofs.Math.Nat.{mul_assoc, zero-mod}
use Rattle.std.proofs.lemmas.Nat.{mul-le}
use Rattle.flash_core.specs.declared.geometry.Geometry.{Geometry}
use Rattle.flash_core.specs.Sizes.{IsValid, area_size, size_of}
use Rattle.base_core.specs.Sizes.{master_size}
use Rattle.base_core.specs.Units.{IsMultipleOf, up}
use Rattle.base_core.proofs.UnitLemmas.{IsMultipleOf-add, IsMultipleOf-mul, IsMultipleOf-trans, unit_fits, up-multiple}

power_positive : (n : ℕ) → IsTrue (is_power_of_two n) → 0 < n
unfolding ones
power_positive zero power = absurd (false≢true power)
power_positive (suc n) power = omega arith

pub size-areas : (g : Geometry) → size_of g ≡ area_size g + area_size g
size-areas g = omega (arith, mul_assoc 2 g.units_per_area g.erase)

module _ (g : Geometry) (valid : IsValid g) where
  pub prog_positive : 0 < g.prog
  prog_positive = power_positive g.prog valid.prog_is_power

  pub prog_le_erase : g.prog ≤ g.erase
  prog_le_erase = omega (arith, unit_fits g.prog 0 g.erase (zero-mod g.prog) valid.erase_is_multiple valid.erase_positive)

  pub area_whole_erases : IsMultipleOf g.erase (area_size g)
  area_whole_erases = IsMultipleOf-mul g.erase g.units_per_area

  pub size_whole_erases : IsMultipleOf g.erase (size_of g)
  size_whole_erases = IsMultipleOf-mul g.erase (2 * g.units_per_area)

  pub area_whole_progs : IsMultipleOf g.prog (area_size g)
  area_whole_progs = IsMultipleOf-trans g.prog g.erase (area_size g) valid.erase_is_multiple area_whole_erases

  pub size_whole_progs : IsMultipleOf g.prog (size_of g)
  size_whole_progs = IsMultipleOf-trans g.prog g.erase (size_of g) valid.erase_is_multiple size_whole_erases

  pub master_whole_progs : IsMultipleOf g.prog (master_size g.prog)
  master_whole_progs = IsMultipleOf-add g.prog (up g.prog 24) (up g.prog 12) (up-multiple g.prog 24) (up-multiple g.prog 12)

  pub erase_le_area : g.erase ≤ area_size g
  erase_le_area = omega (arith, mul-le 1 g.erase g.units_per_area g.erase valid.units_positive (omega arith))
