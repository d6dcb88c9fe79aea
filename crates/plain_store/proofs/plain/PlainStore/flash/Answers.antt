use Rattle.tdb_read.specs.Views.{view_of}
use Rattle.plain_store.specs.Stores.{noted_in}
use Rattle.plain_store.proofs.MountedLemmas.{store_is_lawful}
use Rattle.plain_store.proofs.plain.PlainStore.flash.Goals as goal

pub returns-clause-lawful : goal.returns-clause-lawful
returns-clause-lawful g c is =
    store_is_lawful (view_of g.F.Flash.state c.args.self.now.log) c.args.self.now.active (noted_in c.args.self.now.stopped)
    (g.met.F.Flash.lawful c.args.self.now.log.flash) is
