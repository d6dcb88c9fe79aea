use Rattle.kv_memory.proofs.IteratorMapLemmas.{no_slots}
use Rattle.kv_memory.proofs.iterators.Iterators.new.Goals as goal

pub returns : goal.returns
returns c = no_slots c.new.result.items c.new.ensures.items
