use Rattle.tdb_mount.proofs.LawLemmas.{keeps_the_map}
use Rattle.tdb_mount.proofs.laws.mounting_keeps_the_map.Goals as goal

pub returns : goal.returns
returns c g image left map valid sized leaves mounts = keeps_the_map g valid image sized left map leaves mounts
