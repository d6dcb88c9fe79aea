use Rattle.kv_cli.proofs.RunLemmas.{settled_image}
use Rattle.kv_cli.proofs.run.close.Goals as goal

pub returns-in-Whole : goal.returns-in-Whole
returns-in-Whole c = settled_image c.args.session c.settle.new.self c.in-Whole.ensures c.into_image.result.items c.into_image.ensures.bytes c.into_image.ensures.sized
