use Rattle.record_core.proofs.FormatCuts.{format_cuts}
use Rattle.record_core.proofs.cuts.format_stays_empty.Goals as goal

pub returns : goal.returns
returns goals = λ g image valid sized none call now moment. format_cuts g valid image sized none call now moment
