use Rattle.flash_sim.specs.Views.{view_of}
use Rattle.plain_store.specs.Stores.{noted_in}
use Rattle.tdb_store.proofs.ArmingLemmas.{arms_chip, armed_store, log_part}
use Rattle.tdb_store.proofs.arming.TdbStoreChipArmable.arm.Goals as goal

pub invariant_of-self : goal.invariant_of-self
invariant_of-self c = record {
  kept = armed_store (view_of c.args.self.now.store.log.flash) (view_of c.arm.new.self) (log_part c.args.self.now.store.log) c.args.self.now.store.active
      (noted_in c.args.self.now.store.stopped) c.args.n c.args.pattern c.arm.result c.arm.ensures.armed c.arm.ensures.same c.args.self.now.kept;
}

pub returns-clause-arms : goal.returns-clause-arms
returns-clause-arms c =
    arms_chip (view_of c.args.self.now.store.log.flash) (view_of c.arm.new.self) (log_part c.args.self.now.store.log) c.args.self.now.store.active
    (noted_in c.args.self.now.store.stopped) c.args.n c.args.pattern c.arm.result c.arm.ensures.armed c.arm.ensures.same
