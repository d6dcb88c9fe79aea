use Rattle.record_core.proofs.RenewalLemmas.{master_write_cuts}
use Rattle.record_core.proofs.cuts.master_write_is_whole_or_unseen.Goals as goal

pub returns : goal.returns
returns goals = λ g image c k version valid sized blank call now appends. master_write_cuts g valid image sized c k blank version call now appends
