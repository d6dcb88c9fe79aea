use Rattle.kv_host.specs.Laws.{file_at-same, file_at-other}
use Rattle.kv_host.proofs.laws.a_written_file_is_there.Goals as goal

pub returns-clause-same : goal.returns-clause-same
returns-clause-same c = file_at-same

pub returns-clause-other : goal.returns-clause-other
returns-clause-other c = file_at-other
