use Rattle.std.proofs.Common.{ap, arith}
use Rattle.kv_model.specs.FlaggedMap.{FlaggedMap}
use Rattle.kv_model.specs.Sizes.{used}
use Rattle.kv_model.proofs.UsedLemmas.{used-empty}
use Rattle.kv_memory.proofs.memory.MemoryStore.new.Goals as goal

pub invariant_of-result-clause-fits : goal.invariant_of-result-clause-fits
invariant_of-result-clause-fits c =
    omega (arith, ap (λ (m : FlaggedMap). used c.args.prog m) c.new.ensures, used-empty c.args.prog)
