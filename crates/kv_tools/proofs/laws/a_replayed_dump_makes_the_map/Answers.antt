use Rattle.kv_tools.proofs.ReplayLemmas.{makes_the_map}
use Rattle.kv_tools.proofs.laws.a_replayed_dump_makes_the_map.Goals as goal

pub returns : goal.returns
returns c = makes_the_map
