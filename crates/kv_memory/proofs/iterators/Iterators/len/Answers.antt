use Rattle.std.proofs.Common.{ap, arith}
use Rattle.kv_model.specs.StoreState.{Iterators}
use Rattle.std.specs.FinMap.{len}
use Rattle.kv_memory.proofs.IteratorMapLemmas.{counted}
use Rattle.kv_memory.proofs.iterators.Iterators.len.Goals as goal

pub returns : goal.returns
returns c =
    let slots = c.self.inside.slots in
    omega (arith, c.len.ensures, slots.ok, counted slots.items c.self.invariant, ap (λ (m : Iterators). len m) c.self.view_is)
