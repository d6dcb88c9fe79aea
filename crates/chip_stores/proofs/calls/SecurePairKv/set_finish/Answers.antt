use Rattle.std.proofs.Common.{refl}
use Rattle.kv_model.specs.Operations.{Finish}
use Rattle.chip_stores.proofs.CallLemmas.{StoreParts, after_writing}
use Rattle.chip_stores.proofs.NumberLemmas.{takes_none}
use Rattle.chip_stores.proofs.calls.SecurePairKv.set_finish.Goals as goal

pub invariant_of-self : goal.invariant_of-self
invariant_of-self c =
    let n = c.set_finish.new.self in
    let now : StoreParts = record { root = n.root; iv = n.iv; active = n.active; stopped = n.stopped; above = n.primary.store; below = n.rollback.store } in
    let who = c.args.who in
    let kept = after_writing c.args.self.now now who Finish c.set_finish.result c.set_finish.ensures.answers c.set_finish.ensures.stopped c.set_finish.ensures.stops
    (takes_none Finish c.args.self.now.store.iv n.iv c.set_finish.result refl c.set_finish.ensures.number) in
    record { tells = kept.tells; same_root = kept.same_root; number = kept.number }
