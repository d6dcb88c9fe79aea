use Rattle.kv_bench.proofs.LookupLemmas.{told_can_find}
use Rattle.kv_bench.proofs.lookup.place_of.Goals as goal

pub find-requires-clause-can : goal.find-requires-clause-can
find-requires-clause-can g c = told_can_find _ _ c.requires.index
