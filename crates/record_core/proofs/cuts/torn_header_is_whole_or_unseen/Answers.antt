use Rattle.record_core.proofs.TornLemmas.{torn_header}
use Rattle.record_core.proofs.cuts.torn_header_is_whole_or_unseen.Goals as goal

pub returns : goal.returns
returns goals = λ g before after torn c k n valid sized call. torn_header g valid before after torn sized c k n call
