use Rattle.std.proofs.Common.{[]}
use Rattle.kv_model.proofs.HistoryLemmas.{AreNumbered-push, runs_more}
use Rattle.kv_model.proofs.laws.history_goes_on.Goals as goal

pub returns : goal.returns
returns c = record { runs = runs_more; numbered = λ entries entry numbered next. AreNumbered-push [] entries entry numbered next }
