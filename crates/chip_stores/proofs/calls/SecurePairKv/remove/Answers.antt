use Rattle.std.proofs.Common.{refl}
use Rattle.kv_model.specs.Operations.{Remove}
use Rattle.chip_stores.proofs.CallLemmas.{StoreParts, after_writing}
use Rattle.chip_stores.proofs.NumberLemmas.{takes_none}
use Rattle.chip_stores.proofs.calls.SecurePairKv.remove.Goals as goal

pub invariant_of-self : goal.invariant_of-self
invariant_of-self c =
    let n = c.remove.new.self in
    let now : StoreParts = record { root = n.root; iv = n.iv; active = n.active; stopped = n.stopped; above = n.primary.store; below = n.rollback.store } in
    let who = c.args.who in
    let kept = after_writing c.args.self.now now who (Remove c.args.key.now) c.remove.result c.remove.ensures.answers c.remove.ensures.stopped c.remove.ensures.stops
    (takes_none (Remove c.args.key.now) c.args.self.now.store.iv n.iv c.remove.result refl c.remove.ensures.number) in
    record { tells = kept.tells; same_root = kept.same_root; number = kept.number }
