use Rattle.std.proofs.Common.{refl}
use Rattle.flash_core.proofs.KeptLaws.{OnlyReads-refl}
use Rattle.tdb_read.proofs.ReadLemmas.{ready_since}
use Rattle.tdb_read.proofs.log.MountedLog.iter_close.Goals as goal

pub returns-clause-ready : goal.returns-clause-ready
returns-clause-ready g c = ready_since (record { device = OnlyReads-refl (g.F.Flash.state c.args.self.now.flash); log = refl }) c.requires.ready
