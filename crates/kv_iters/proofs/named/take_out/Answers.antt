use Rattle.std.proofs.Common.{arith}
use Rattle.kv_iters.proofs.SlotLemmas.{AreDistinct-removed, taken_out}
use Rattle.kv_iters.proofs.named.take_out.Goals as goal

pub returns-clause-taken : goal.returns-clause-taken
returns-clause-taken c = λ name is. taken_out _ _ name c.args.place c.remove.result c.requires.table is c.remove.ensures.value c.remove.ensures.updates

pub returns-clause-table : goal.returns-clause-table
returns-clause-table c = record {
  distinct = AreDistinct-removed _ _ c.args.place c.requires.table.distinct c.remove.result c.remove.ensures.value c.remove.ensures.updates;
  few = omega arith;
}
