use Rattle.std.proofs.Common.{refl}
use Rattle.kv_model.specs.Operations.{Reset}
use Rattle.chip_stores.proofs.CallLemmas.{StoreParts, after_writing}
use Rattle.chip_stores.proofs.NumberLemmas.{takes_none}
use Rattle.chip_stores.proofs.calls.SecurePairKv.reset.Goals as goal

pub invariant_of-self : goal.invariant_of-self
invariant_of-self c =
    let n = c.reset.new.self in
    let now : StoreParts = record { root = n.root; iv = n.iv; active = n.active; stopped = n.stopped; above = n.primary.store; below = n.rollback.store } in
    let who = c.args.who in
    let kept = after_writing c.args.self.now now who Reset c.reset.result c.reset.ensures.answers c.reset.ensures.stopped c.reset.ensures.stops
    (takes_none Reset c.args.self.now.store.iv n.iv c.reset.result refl c.reset.ensures.number) in
    record { tells = kept.tells; same_root = kept.same_root; number = kept.number }
