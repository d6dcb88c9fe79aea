use Rattle.secure_store.specs.Doubts.{noted_in}
use Rattle.secure_store.proofs.ArmingLemmas.{armed_below}
use Rattle.secure_store.proofs.store.SecureStore.arm_rollback.Goals as goal

pub invariant_of-self-clause-in_doubt : goal.invariant_of-self-clause-in_doubt
invariant_of-self-clause-in_doubt g c =
    armed_below c.args.self.now.root _ _ _ (noted_in c.args.self.now.stopped) c.args.pattern c.arm.result c.arm.ensures c.args.self.now.in_doubt
