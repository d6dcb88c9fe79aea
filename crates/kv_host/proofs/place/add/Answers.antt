use Rattle.kv_host.proofs.Files.{Stores, added}
use Rattle.kv_host.proofs.place.add.Goals as goal

stores : (c : goal.After-push_entry) → Stores c.args.arena.now.items c.args.entries.now.items c.args.name.now c.args.bytes.now c.push_bytes-bytes.new.arena.items c.push_entry.new.entries.items
stores c = added _ _ _ _ _ _ _ _ c.push_bytes-name.ensures.bytes c.push_bytes-bytes.ensures.bytes c.push_entry.ensures.items c.requires.table c.requires.few c.requires.new
    c.push_bytes-name.ensures.start c.push_bytes-name.ensures.end c.push_bytes-bytes.ensures.start c.push_bytes-bytes.ensures.end

pub returns-clause-files : goal.returns-clause-files
returns-clause-files c = (stores c).0

pub returns-clause-table : goal.returns-clause-table
returns-clause-table c = (stores c).1
