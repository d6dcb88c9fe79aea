use Rattle.std.proofs.Common.{refl}
use Rattle.kv_model.specs.Operations.{Start}
use Rattle.chip_stores.proofs.CallLemmas.{StoreParts, after_writing}
use Rattle.chip_stores.proofs.NumberLemmas.{takes_by}
use Rattle.chip_stores.proofs.calls.SecurePairKv.set_start.Goals as goal

pub invariant_of-self : goal.invariant_of-self
invariant_of-self c =
    let n = c.set_start.new.self in
    let now : StoreParts = record { root = n.root; iv = n.iv; active = n.active; stopped = n.stopped; above = n.primary.store; below = n.rollback.store } in
    let who = c.args.who in
    let kept = after_writing c.args.self.now now who (Start c.args.key.now c.args.size c.args.flags.bits) c.set_start.result c.set_start.ensures.answers c.set_start.ensures.stopped c.set_start.ensures.stops
    (takes_by (Start c.args.key.now c.args.size c.args.flags.bits) c.args.self.now.store.iv n.iv c.args.flags.bits c.set_start.result refl c.set_start.ensures.number) in
    record { tells = kept.tells; same_root = kept.same_root; number = kept.number }
