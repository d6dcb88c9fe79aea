use Rattle.std.proofs.Common.{◌≡◌, sym, subst}
use Rattle.session_core.specs.declared.ended.Ended.TheVariants as ended
use Rattle.serve_core.specs.Serving.{Serves}
use Rattle.serve_core.proofs.ServeLemmas.{none_served}
use Rattle.serve_core.proofs.serving.serve_store.Goals as goal

pub returns-in-Err : goal.returns-in-Err
returns-in-Err g c =
    let same : c.in-Err.store ≡ c.args.store = c.in-Err.ensures.err in
    subst (λ s. Serves g.K.Kv.rules_by (g.K.Kv.state c.args.store).known (g.K.Kv.state s).known c.args.lines.now
    (record { journal = c.new-in-Err.result; ended = ended.Memory })) (sym same)
    (none_served g.K.Kv.rules_by (g.K.Kv.state c.args.store).known c.args.lines.now c.new-in-Err.result c.new-in-Err.ensures)
