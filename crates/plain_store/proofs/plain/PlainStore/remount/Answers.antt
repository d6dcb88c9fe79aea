use Rattle.std.proofs.Common.{sym, ap, subst}
use Rattle.tdb_read.specs.Mounting.{IsMounted}
use Rattle.tdb_read.specs.Views.{view_of}
use Rattle.plain_store.specs.Stores.{noted_in}
use Rattle.plain_store.proofs.MountedLemmas.{fresh_store}
use Rattle.plain_store.proofs.plain.PlainStore.remount.Goals as goal

pub returns-in-Ok-clause-fresh : goal.returns-in-Ok-clause-fresh
returns-in-Ok-clause-fresh g c =
    fresh_store (g.F.Flash.state c.args.self.log.flash) c.args.self.log.hash_bits (view_of g.F.Flash.state c.over.result.log) c.over.result.active (noted_in c.over.result.stopped)
    c.over.ensures.free (ap noted_in c.over.ensures.runs)
    (subst (λ log. IsMounted (g.F.Flash.state c.args.self.log.flash) c.args.self.log.hash_bits (view_of g.F.Flash.state log)) (sym c.over.ensures.log) c.in-Ok.ensures.mounted)
