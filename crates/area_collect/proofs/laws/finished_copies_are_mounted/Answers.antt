use Rattle.area_collect.proofs.KeptLemmas.{finished_mounts}
use Rattle.area_collect.proofs.laws.finished_copies_are_mounted.Goals as goal

pub returns : goal.returns
returns c g image copy version records contents valid sized is_route can holds follows = finished_mounts g image copy version records contents valid sized is_route can holds follows
