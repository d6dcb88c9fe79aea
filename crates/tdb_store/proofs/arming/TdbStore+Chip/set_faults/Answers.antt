use Rattle.flash_sim.specs.Views.{view_of}
use Rattle.plain_store.specs.Stores.{noted_in}
use Rattle.tdb_store.proofs.ArmingLemmas.{log_part, named_seen, named_store}
use Rattle.tdb_store.proofs.arming.TdbStore+Chip.set_faults.Goals as goal

pub invariant_of-self : goal.invariant_of-self
invariant_of-self c = record {
  kept = named_store (view_of c.args.self.now.store.log.flash) (view_of c.set_faults.new.self) (log_part c.args.self.now.store.log) c.args.self.now.store.active
      (noted_in c.args.self.now.store.stopped) c.args.reads.items c.args.writes.items c.set_faults.ensures c.args.self.now.kept;
}

pub returns-clause-seen : goal.returns-clause-seen
returns-clause-seen c =
    named_seen (view_of c.args.self.now.store.log.flash) (view_of c.set_faults.new.self) (log_part c.args.self.now.store.log) c.args.self.now.store.active
    (noted_in c.args.self.now.store.stopped) c.args.reads.items c.args.writes.items c.set_faults.ensures
