use Rattle.std.proofs.Common.{◌+◌, ◌≤◌, length, arith}
use Rattle.flash_sim.specs.Views.{view_of}
use Rattle.flash_sim.proofs.ChipLaws.{chip_writes}
use Rattle.flash_sim.proofs.device.ChipFlash.program.Goals as goal

pub returns-clause-writes : goal.returns-clause-writes
returns-clause-writes c =
    let fits : c.args.place + length c.args.bytes.now ≤ length c.args.self.now.image.items = omega (arith, c.requires.inside, c.args.self.now.sized) in
    chip_writes (Unit {0}) (view_of c.args.self.now) c.args.place c.args.bytes.now fits (view_of c.program_range.new.self) c.program_range.result
    c.program_range.ensures.after c.program_range.ensures.goes c.program_range.ensures.fault
