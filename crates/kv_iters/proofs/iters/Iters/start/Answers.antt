use Rattle.kv_iters.proofs.SlotLemmas.{few_iterators, in_any_case}
use Rattle.kv_iters.proofs.iters.Iters.start.Goals as goal

pub returns-clause-few : goal.returns-clause-few
returns-clause-few c = in_any_case c.put_at.result (few_iterators c.put_at.new.slots c.put_at.ensures.table)
