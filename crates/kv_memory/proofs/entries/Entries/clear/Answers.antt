use Rattle.kv_memory.proofs.EntryLemmas.{no_items}
use Rattle.kv_memory.proofs.entries.Entries.clear.Goals as goal

pub returns-clause-map : goal.returns-clause-map
returns-clause-map c = no_items c.clear.new.self.items c.clear.ensures.items
