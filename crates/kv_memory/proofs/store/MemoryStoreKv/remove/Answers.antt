use Rattle.std.proofs.Common.{ap, arith}
use Rattle.kv_model.specs.FlaggedMap.{FlaggedMap}
use Rattle.kv_model.specs.Sizes.{used}
use Rattle.kv_model.proofs.UsedLemmas.{used-remove_at_most}
use Rattle.kv_memory.proofs.store.MemoryStoreKv.remove.Goals as goal

pub invariant_of-self-clause-fits : goal.invariant_of-self-clause-fits
invariant_of-self-clause-fits c =
    let store = c.args.self.now in
    omega (arith, store.fits, ap (λ (m : FlaggedMap). used store.prog m) c.remove.ensures.map, used-remove_at_most store.prog store.entries.map c.in_ok-key.key)
