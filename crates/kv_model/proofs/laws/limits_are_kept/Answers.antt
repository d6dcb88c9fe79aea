use Rattle.kv_model.proofs.LimitLemmas.{fresh_keeps_limits, step_keeps_limits, follows_keeps_limits}
use Rattle.kv_model.proofs.laws.limits_are_kept.Goals as goal

pub returns-clause-fresh : goal.returns-clause-fresh
returns-clause-fresh c = fresh_keeps_limits

pub returns-clause-step : goal.returns-clause-step
returns-clause-step c constants state who operation plain = step_keeps_limits constants state who plain operation

pub returns-clause-history : goal.returns-clause-history
returns-clause-history c = follows_keeps_limits
