use Rattle.std.proofs.Common.{sym, subst}
use Rattle.sealed_pair.specs.Active.{own_of}
use Rattle.chip_stores.specs.Arming.{ArmsAt}
use Rattle.chip_stores.specs.PairViews.{told_in}
use Rattle.chip_stores.specs.Stores.{plain_told}
use Rattle.chip_stores.proofs.ArmingLemmas.{armed_below}
use Rattle.chip_stores.proofs.CallLemmas.{StoreParts, told_parts}
use Rattle.chip_stores.proofs.ChipLemmas.{chip_under, told_labels}
use Rattle.chip_stores.proofs.pair.SecurePair.arm_rollback.Goals as goal

pub returns-clause-arms : goal.returns-clause-arms
returns-clause-arms c =
    let self = c.args.self.now in
    let n = c.arm_rollback.new.self in
    let arms = armed_below self.store.root (plain_told self.store.primary.store) (plain_told self.store.rollback.store) (plain_told n.rollback.store) c.args.pattern
    (chip_under self.store.primary.store).label (chip_under self.store.rollback.store).label (told_labels self.store.primary.store) (told_labels self.store.rollback.store)
    (own_of self.store.iv self.store.active) self.store.stopped
    c.arm_rollback.result c.arm_rollback.ensures.rollback in
    subst (λ (p : StoreParts). ArmsAt 1 (told_in self) (told_parts p) c.args.pattern c.arm_rollback.result)
    (λ i. record {
      root = sym c.arm_rollback.ensures.root i;
      iv = sym c.arm_rollback.ensures.iv i;
      active = sym c.arm_rollback.ensures.active i;
      stopped = sym c.arm_rollback.ensures.stopped i;
      above = (sym c.arm_rollback.ensures.primary i).store;
      below = n.rollback.store;
    }) arms
