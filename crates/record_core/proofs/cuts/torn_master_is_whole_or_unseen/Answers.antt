use Rattle.record_core.proofs.TornLemmas.{torn_erase, torn_master_header}
use Rattle.record_core.proofs.cuts.torn_master_is_whole_or_unseen.Goals as goal

pub returns : goal.returns
returns goals = record {
  erase = λ g before after torn c k n valid sized call. torn_erase g valid before after torn sized c k n call;
  header = λ g before after torn c k n valid sized call. torn_master_header g valid before after torn sized c k n call;
}
