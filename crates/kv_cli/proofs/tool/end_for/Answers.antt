use Rattle.kv_cli.specs.Asked.{asked_in}
use Rattle.kv_cli.proofs.EndLemmas.{ended_behind, fits_in, refused_behind}
use Rattle.kv_cli.proofs.tool.end_for.Goals as goal

pub returns-in-Ok-clause-ended : goal.returns-in-Ok-clause-ended
returns-in-Ok-clause-ended g c =
    ended_behind (asked_in c.args.asked) _ _ _ _ _ _ c.replay.ensures.stands c.replay.ensures.count _ _ c.in-Ok.done.run.end c.in-Ok.done.text.items
    c.finish.ensures.history c.in-Ok.ensures.text c.in-Ok.ensures.made c.finish.ensures.ends

pub returns-in-Ok-clause-calm : goal.returns-in-Ok-clause-calm
returns-in-Ok-clause-calm g c = λ files room calm places primary script fits.
    let kept = c.replay.ensures.calm files room calm in
    c.finish.ensures.calm files room kept.1 places primary
    (fits_in (asked_in c.args.asked) _ _ _ c.in-Ok.done.run.end c.in-Ok.done.text.items room c.finish.ensures.history c.in-Ok.ensures.made c.in-Ok.ensures.short fits)

pub returns-in-Err-clause-ended : goal.returns-in-Err-clause-ended
returns-in-Err-clause-ended g c =
    refused_behind (asked_in c.args.asked) _ _ _ _ _ _ c.replay.ensures.stands c.replay.ensures.count _ c.in-Err.stop c.refuse-status.result c.refuse-status.ensures.count
    c.refused.ensures.status c.refused.ensures.nothing c.in-Err.ensures.stops c.refuse-status.ensures.refused
