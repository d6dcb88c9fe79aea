use Rattle.std.proofs.Common.{rules}
use Rattle.kv_host.proofs.Sources.{all_that_was_left}
use Rattle.kv_host.proofs.whole.read_up_to.Goals as goal

pub returns-in-Ok-clause-whole : goal.returns-in-Ok-clause-whole
returns-in-Ok-clause-whole g c =
    all_that_was_left (g.R.Read.remaining c.args.source) c.args.out.now.items c.read_to_end-read.new.buf.items c.args.limit c.requires (search rules) (search rules)
