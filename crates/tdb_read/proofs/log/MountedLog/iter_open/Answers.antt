use Rattle.std.proofs.Common.{refl}
use Rattle.flash_core.proofs.KeptLaws.{OnlyReads-refl}
use Rattle.tdb_read.specs.Views.{view_of}
use Rattle.tdb_read.proofs.IterLemmas.{open_answer}
use Rattle.tdb_read.proofs.ReadLemmas.{ready_since}
use Rattle.tdb_read.proofs.log.MountedLog.iter_open.Goals as goal

pub returns-clause-ready : goal.returns-clause-ready
returns-clause-ready g c = ready_since (record { device = OnlyReads-refl (g.F.Flash.state c.args.self.now.flash); log = refl }) c.requires.ready

pub returns-clause-answers : goal.returns-clause-answers
returns-clause-answers g c set =
    let is = c.start.ensures in
    open_answer (view_of g.F.Flash.state c.args.self.now) c.start.new.self set c.args.who c.args.n c.args.prefix.now c.start.result is.granted is.started is.refused is.kept
