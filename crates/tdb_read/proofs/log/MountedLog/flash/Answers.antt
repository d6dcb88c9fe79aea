use Rattle.tdb_read.specs.Views.{view_of}
use Rattle.tdb_read.proofs.LawLemmas.{log_is_lawful}
use Rattle.tdb_read.proofs.log.MountedLog.flash.Goals as goal

pub returns-clause-lawful : goal.returns-clause-lawful
returns-clause-lawful g c ready set = log_is_lawful (view_of g.F.Flash.state c.args.self.now) (g.met.F.Flash.lawful c.args.self.now.flash) ready set
