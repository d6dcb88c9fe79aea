use Rattle.tdb_read.proofs.LawLemmas.{log_mounts}
use Rattle.tdb_read.proofs.laws.a_log_stands_for_what_its_image_mounts_to.Goals as goal

pub returns : goal.returns
returns c = log_mounts
