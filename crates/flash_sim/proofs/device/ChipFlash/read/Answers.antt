use Rattle.std.proofs.Common.{length}
use Rattle.flash_sim.specs.Views.{view_of}
use Rattle.flash_sim.proofs.ChipLaws.{chip_reads}
use Rattle.flash_sim.proofs.device.ChipFlash.read.Goals as goal

pub returns-clause-reads : goal.returns-clause-reads
returns-clause-reads c =
    chip_reads (view_of c.args.self.now) (view_of c.read_range.new.self) c.args.place c.read_range.new.buf (length c.args.buf.now) c.read_range.result
    c.read_range.ensures.after c.read_range.ensures.fails c.read_range.ensures.fault c.read_range.ensures.bytes c.read_range.auto.buf
