use Rattle.kv_memory.proofs.EntryLemmas.{no_items}
use Rattle.kv_memory.proofs.entries.Entries.new.Goals as goal

pub returns : goal.returns
returns c = no_items c.new.result.items c.new.ensures.items
