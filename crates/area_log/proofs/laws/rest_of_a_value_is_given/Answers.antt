use Rattle.area_log.proofs.LawLemmas.{rest_given}
use Rattle.area_log.proofs.laws.rest_of_a_value_is_given.Goals as goal

pub returns : goal.returns
returns c r offset buf got room within gives = rest_given r offset buf got room within gives
