use Rattle.std.proofs.Common.{ap, arith}
use Rattle.kv_model.specs.FlaggedMap.{FlaggedMap}
use Rattle.kv_model.specs.Sizes.{used}
use Rattle.kv_model.proofs.UsedLemmas.{used-empty}
use Rattle.kv_memory.proofs.store.MemoryStoreKv.reset.Goals as goal

pub invariant_of-self-clause-fits : goal.invariant_of-self-clause-fits
invariant_of-self-clause-fits c =
    let store = c.args.self.now in
    omega (arith, ap (λ (m : FlaggedMap). used store.prog m) c.clear.ensures.map, used-empty store.prog)
