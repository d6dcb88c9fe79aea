use Rattle.sealed_pair.proofs.SealLemmas.{HaveForm}
use Rattle.sealed_pair.proofs.LimitLemmas.{follows_keeps_limits, fresh_keeps_limits, step_keeps_limits}
use Rattle.sealed_pair.proofs.laws.limits_are_kept.Goals as goal

pub returns-clause-fresh : goal.returns-clause-fresh
returns-clause-fresh c = fresh_keeps_limits

pub returns-clause-step : goal.returns-clause-step
returns-clause-step c constants state who operation within =
    let f = c.sealed_records_have_their_form.ensures in
    let form : HaveForm = record { size = f.size; tag = f.tag; metadata = f.metadata } in
    step_keeps_limits constants state who within form operation

pub returns-clause-history : goal.returns-clause-history
returns-clause-history c =
    let f = c.sealed_records_have_their_form.ensures in
    let form : HaveForm = record { size = f.size; tag = f.tag; metadata = f.metadata } in
    follows_keeps_limits form
