use Rattle.area_log.proofs.LawLemmas.{none_listed, one_more_listed}
use Rattle.area_log.proofs.laws.lists_go_on.Goals as goal

pub returns-clause-none : goal.returns-clause-none
returns-clause-none c g image area positive inside erased = none_listed g positive area image inside erased

pub returns-clause-one_more : goal.returns-clause-one_more
returns-clause-one_more c g old new area end list r positive is torn stands inside erased = one_more_listed g positive area old new end list r is torn stands inside erased
