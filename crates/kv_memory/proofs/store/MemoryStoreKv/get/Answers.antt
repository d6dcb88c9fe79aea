use Rattle.std.proofs.Common.{arith}
use Rattle.kv_memory.specs.EntryOf.{stored_of}
use Rattle.kv_memory.proofs.MemoryLemmas.{value_within}
use Rattle.kv_memory.proofs.store.MemoryStoreKv.get.Goals as goal

pub read_item-requires-clause-short : goal.read_item-requires-clause-short
read_item-requires-clause-short c =
    let store = c.args.self.now in
    let short = value_within store.prog store.entries.map c.args.key.now (stored_of c.in_ok-item.item.now) (omega (arith, store.positive)) c.in_ok-item.ensures.item in
    omega (arith, short, store.fits, store.small)
