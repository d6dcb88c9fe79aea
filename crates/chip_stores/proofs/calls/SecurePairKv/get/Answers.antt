use Rattle.chip_stores.proofs.CallLemmas.{StoreParts, after_reading}
use Rattle.chip_stores.proofs.calls.SecurePairKv.get.Goals as goal

pub invariant_of-self : goal.invariant_of-self
invariant_of-self c =
    let n = c.get.new.self in
    let now : StoreParts = record { root = n.root; iv = n.iv; active = n.active; stopped = n.stopped; above = n.primary.store; below = n.rollback.store } in
    let kept = after_reading c.args.self.now now (c.get.ensures.answers 0).does.keeps c.get.ensures.stop c.get.ensures.number in
    record { tells = kept.tells; same_root = kept.same_root; number = kept.number }
