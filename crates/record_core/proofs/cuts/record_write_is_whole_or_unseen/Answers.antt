use Rattle.record_core.proofs.CutLemmas.{record_cuts}
use Rattle.record_core.proofs.cuts.record_write_is_whole_or_unseen.Goals as goal

pub returns : goal.returns
returns goals = λ g image c k r valid sized may valid_key valid_header. record_cuts g valid image sized c k r may valid_key valid_header
