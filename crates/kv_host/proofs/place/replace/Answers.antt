use Rattle.std.proofs.Common.{ap}
use Rattle.kv_host.proofs.Files.{replaced}
use Rattle.kv_host.proofs.place.replace.Goals as goal

pub returns-clause-files : goal.returns-clause-files
returns-clause-files c = (replaced _ _ _ _ _ _ c.index_mut.result.now _ c.push_bytes-span.ensures.bytes c.requires.table c.requires.bound c.requires.before (c.requires.here c.index_mut.result.now)
    (ap (λ e. e.name) c.index_mut.ensures.value) c.push_bytes-span.ensures.start c.push_bytes-span.ensures.end).0

pub returns-clause-table : goal.returns-clause-table
returns-clause-table c = (replaced _ _ _ _ _ _ c.index_mut.result.now _ c.push_bytes-span.ensures.bytes c.requires.table c.requires.bound c.requires.before (c.requires.here c.index_mut.result.now)
    (ap (λ e. e.name) c.index_mut.ensures.value) c.push_bytes-span.ensures.start c.push_bytes-span.ensures.end).1
