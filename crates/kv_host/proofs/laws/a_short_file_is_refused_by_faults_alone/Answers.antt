use Rattle.kv_host.specs.Laws.{within-refused}
use Rattle.kv_host.proofs.laws.a_short_file_is_refused_by_faults_alone.Goals as goal

pub returns : goal.returns
returns c = within-refused
