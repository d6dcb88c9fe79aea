use Rattle.std.proofs.Common.{◌+◌}
use Rattle.flash_core.proofs.GeometryLaws.{prog_positive}
use Rattle.kv_tools.proofs.ListLemmas.{head_is}
use Rattle.kv_tools.proofs.list.head_at.Goals as goal

pub returns-clause-head : goal.returns-clause-head
returns-clause-head g c image told =
    let s = g.F.Flash.state c.args.flash.now in
    let area = c.args.area.now in
    head_is s.geometry.prog (prog_positive s.geometry c.requires.can.valid) image c.args.place (area.base + area.size) c.header_at.new.key c.in-Some.header (c.in-Some.ensures.found image told)
