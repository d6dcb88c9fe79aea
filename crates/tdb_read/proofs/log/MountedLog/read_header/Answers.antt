use Rattle.std.proofs.Common.{ℕ, ◌-◌, subst}
use Rattle.area_log.specs.declared.area.Area.{Area}
use Rattle.area_log.specs.Areas.{end_of}
use Rattle.record_core.specs.Lookup.{ReadsHeader}
use Rattle.tdb_read.specs.Reads.{offset_in}
use Rattle.tdb_read.specs.Views.{view_of}
use Rattle.tdb_read.proofs.ReadLemmas.{header_given}
use Rattle.tdb_read.proofs.log.MountedLog.read_header.Goals as goal

pub returns-clause-gives : goal.returns-clause-gives
returns-clause-gives g c =
    let v = view_of g.F.Flash.state c.args.self.now in
    let s = g.F.Flash.state c.read_header_at.new.flash in
    header_given v (record { device = s; log = v.log }) c.requires.ready c.args.at c.requires.inside c.read_header_at.result
    (subst (λ (a : Area). ReadsHeader v.device s (offset_in v.log c.args.at) (end_of a - offset_in v.log c.args.at) c.read_header_at.result) c.area-area.ensures.area
    (subst (λ (p : ℕ). ReadsHeader v.device s p (end_of c.area-area.result - p) c.read_header_at.result) c.entry-place.ensures.offset c.read_header_at.ensures.answer))
