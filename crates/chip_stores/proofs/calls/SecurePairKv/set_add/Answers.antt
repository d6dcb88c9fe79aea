use Rattle.std.proofs.Common.{refl}
use Rattle.kv_model.specs.Operations.{Add}
use Rattle.chip_stores.proofs.CallLemmas.{StoreParts, after_writing}
use Rattle.chip_stores.proofs.NumberLemmas.{takes_none}
use Rattle.chip_stores.proofs.calls.SecurePairKv.set_add.Goals as goal

pub invariant_of-self : goal.invariant_of-self
invariant_of-self c =
    let n = c.set_add.new.self in
    let now : StoreParts = record { root = n.root; iv = n.iv; active = n.active; stopped = n.stopped; above = n.primary.store; below = n.rollback.store } in
    let who = c.args.who in
    let kept = after_writing c.args.self.now now who (Add c.args.value.now) c.set_add.result c.set_add.ensures.answers c.set_add.ensures.stopped c.set_add.ensures.stops
    (takes_none (Add c.args.value.now) c.args.self.now.store.iv n.iv c.set_add.result refl c.set_add.ensures.number) in
    record { tells = kept.tells; same_root = kept.same_root; number = kept.number }
