use Rattle.std.proofs.Common.{sym, subst}
use Rattle.sealed_pair.specs.Active.{own_of}
use Rattle.chip_stores.specs.Arming.{ArmsAt}
use Rattle.chip_stores.specs.PairViews.{told_in}
use Rattle.chip_stores.specs.Stores.{plain_told}
use Rattle.chip_stores.proofs.ArmingLemmas.{armed_above}
use Rattle.chip_stores.proofs.CallLemmas.{StoreParts, told_parts}
use Rattle.chip_stores.proofs.ChipLemmas.{chip_under, told_labels}
use Rattle.chip_stores.proofs.pair.SecurePair.arm_primary.Goals as goal

pub returns-clause-arms : goal.returns-clause-arms
returns-clause-arms c =
    let self = c.args.self.now in
    let n = c.arm_primary.new.self in
    let arms = armed_above self.store.root (plain_told self.store.primary.store) (plain_told n.primary.store) (plain_told self.store.rollback.store) c.args.pattern
    (chip_under self.store.primary.store).label (told_labels self.store.primary.store) (own_of self.store.iv self.store.active) self.store.stopped
    c.arm_primary.result c.arm_primary.ensures.primary in
    subst (λ (p : StoreParts). ArmsAt 0 (told_in self) (told_parts p) c.args.pattern c.arm_primary.result)
    (λ i. record {
      root = sym c.arm_primary.ensures.root i;
      iv = sym c.arm_primary.ensures.iv i;
      active = sym c.arm_primary.ensures.active i;
      stopped = sym c.arm_primary.ensures.stopped i;
      above = n.primary.store;
      below = (sym c.arm_primary.ensures.rollback i).store;
    }) arms
