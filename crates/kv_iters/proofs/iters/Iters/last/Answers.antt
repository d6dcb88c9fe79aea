use Rattle.std.proofs.Common.{ap, sym, ◌∙◌}
use Rattle.std.specs.FinMap.{get}
use Rattle.kv_iters.proofs.SlotLemmas.{position_at}
use Rattle.kv_iters.proofs.iters.Iters.last.Goals as goal

pub returns-clause-found : goal.returns-clause-found
returns-clause-found c =
    ap (λ table. get table (c.args.who, c.args.n)) (sym c.self.view_is)
    ∙ position_at c.self.inside.slots _ c.in_ok-place.place c.index.result.now c.self.invariant c.in_ok-place.ensures.found c.index.ensures
