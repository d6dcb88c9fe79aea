use Rattle.std.proofs.Common.{subst}
use Rattle.kv_model.specs.declared.call.Call.{Call}
use Rattle.shared_kv.specs.Passes.{known}
use Rattle.shared_kv.specs.Turns.{Completes}
use Rattle.shared_kv.proofs.TurnLemmas.{completes_since, had_later}
use Rattle.shared_kv.proofs.shared.SharedKv.call.Goals as goal

pub returns-in-Ok-clause-calls : goal.returns-in-Ok-clause-calls
returns-in-Ok-clause-calls g c =
    let so_far = c.loop.invariant in
    let now = known c.call_once.new.pass in (
      had_later so_far.3 c.call_once.ensures.turn,
      subst (λ (call : Call). Completes (known c.args.pass.now) now call c.in-Ok.answer) so_far.4
          (completes_since c.loop.left so_far.2 c.in-Ok.answer c.in-Ok.ensures.ends),
      tt,
    )
