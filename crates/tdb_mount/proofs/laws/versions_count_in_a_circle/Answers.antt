use Rattle.tdb_mount.proofs.LawLemmas.{next_is_second, previous_is_first}
use Rattle.tdb_mount.proofs.laws.versions_count_in_a_circle.Goals as goal

pub returns-clause-next : goal.returns-clause-next
returns-clause-next c version lt = next_is_second version

pub returns-clause-previous : goal.returns-clause-previous
returns-clause-previous c version lt = previous_is_first version lt
