use Rattle.kv_model.proofs.WritesLemmas.{records_go_on}
use Rattle.kv_model.proofs.laws.writes_stand_for_the_map.Goals as goal

pub returns : goal.returns
returns c = records_go_on
