use Rattle.chip_stores.proofs.CallLemmas.{StoreParts, after_reading}
use Rattle.chip_stores.proofs.calls.SecurePairKv.iter_close.Goals as goal

pub invariant_of-self : goal.invariant_of-self
invariant_of-self c =
    let n = c.iter_close.new.self in
    let now : StoreParts = record { root = n.root; iv = n.iv; active = n.active; stopped = n.stopped; above = n.primary.store; below = n.rollback.store } in
    let kept = after_reading c.args.self.now now c.iter_close.ensures.answers.does.keeps c.iter_close.ensures.stop c.iter_close.ensures.number in
    record { tells = kept.tells; same_root = kept.same_root; number = kept.number }
