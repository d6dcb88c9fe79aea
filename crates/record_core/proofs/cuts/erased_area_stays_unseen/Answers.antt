use Rattle.record_core.proofs.FormatCuts.{erases_cuts}
use Rattle.record_core.proofs.cuts.erased_area_stays_unseen.Goals as goal

pub returns : goal.returns
returns goals = λ g image valid sized none. erases_cuts g valid image sized none
