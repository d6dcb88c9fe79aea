use Rattle.std.proofs.Common.{arith}
use Rattle.kv_iters.proofs.SlotLemmas.{AreDistinct-placed, placed}
use Rattle.kv_iters.proofs.named.put_in.Goals as goal

pub returns-clause-put : goal.returns-clause-put
returns-clause-put c =
    placed _ _ c.insert_reserved.result c.requires.table.distinct c.args.named c.insert_reserved.ensures.was_vacant c.insert_reserved.ensures.updates c.requires.absent

pub returns-clause-table : goal.returns-clause-table
returns-clause-table c = record {
  distinct = AreDistinct-placed _ _ c.insert_reserved.result c.requires.table.distinct c.args.named c.insert_reserved.ensures.was_vacant c.insert_reserved.ensures.updates c.requires.absent;
  few = omega arith;
}
