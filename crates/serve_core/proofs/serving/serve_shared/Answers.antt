use Rattle.std.proofs.Common.{◌≡◌, Bool, refl, sym, ◌∙◌, ap}
use Rattle.shared_kv.specs.Passes.{known}
use Rattle.serve_core.proofs.ServeLemmas.{all_served, ended_by}
use Rattle.serve_core.proofs.serving.serve_shared.Goals as goal
use Rattle.serve_core.proofs.serving.serve_shared.Goals.{then-whole, else-whole}

pub returns : goal.returns
returns g c =
    let ended_is : c.if-whole.ended ≡ ended_by c.serve_from-pass.result.1 =
    elim c.if-whole.branch [
      | then-whole w ↦ w.ended-is ∙ ap ended_by (sym w.if-whole.true)
      | else-whole w ↦ w.ended-is ∙ ap ended_by (sym w.if-whole.false)
    ] in
    all_served g.K.Kv.rules_by (known c.args.pass).opening (g.K.Kv.state c.into_parts-store.result.0).known c.args.lines.now c.into_parts-store.result.1
    c.requires.lines (known c.args.pass) (known c.serve_from-pass.result.0) c.requires.first refl c.serve_from-pass.ensures.same c.into_parts-store.ensures
    c.serve_from-pass.result.1 c.if-whole.ended ended_is c.serve_from-pass.ensures.owns
