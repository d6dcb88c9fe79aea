use Rattle.std.proofs.Common.{◌+◌, ◌≤◌, length, replicate, arith, ℕ}
use Rattle.std.proofs.lemmas.List.{length-replicate}
use Rattle.flash_core.proofs.KeptLaws.{CanErase-fits}
use Rattle.flash_sim.specs.Views.{view_of}
use Rattle.flash_sim.proofs.ChipLaws.{chip_writes}
use Rattle.flash_sim.proofs.device.ChipFlash.erase.Goals as goal

pub erase_unit-requires : goal.erase_unit-requires
erase_unit-requires c = omega (arith, CanErase-fits c.requires, c.args.self.now.sized)

pub returns-clause-writes : goal.returns-clause-writes
returns-clause-writes c =
    let n : ℕ = c.args.self.now.geometry.erase in
    let fits : c.args.place + length (replicate {A = ℕ} n 255) ≤ length c.args.self.now.image.items = omega (arith, CanErase-fits c.requires, c.args.self.now.sized, length-replicate {A = ℕ} n 255) in
    chip_writes (Unit {0}) (view_of c.args.self.now) c.args.place (replicate n 255) fits (view_of c.erase_unit.new.self) c.erase_unit.result
    c.erase_unit.ensures.after c.erase_unit.ensures.goes c.erase_unit.ensures.fault
