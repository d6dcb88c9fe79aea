use Rattle.std.proofs.Common.{length, sym, ◌∙◌, ap, subst, arith}
use Rattle.kv_model.specs.StoreState.{Iterators, iterator_cmp}
use Rattle.std.specs.FinMap.{remove}
use Rattle.kv_memory.specs.Places.{place_of}
use Rattle.kv_memory.specs.SlotOf.{Rise, map_of, name_of}
use Rattle.kv_memory.proofs.IteratorMapLemmas.{found_at, not_there, removed}
use Rattle.kv_memory.proofs.iterators.Iterators.close.Goals as goal

pub remove-requires : goal.remove-requires
remove-requires c =
    let placed = ap (place_of iterator_cmp name_of (c.args.who, c.args.n)) (sym c.deref.ensures.value) ∙ sym c.in-Ok.ensures in
    let within = (found_at (c.args.who, c.args.n) c.self.inside.slots.items c.in-Ok.at c.self.invariant placed).within in
    omega (arith, within, c.deref.ensures.len, ap length c.deref.ensures.value)

pub invariant_of-self : goal.invariant_of-self
invariant_of-self c =
    let placed = ap (place_of iterator_cmp name_of (c.args.who, c.args.n)) (sym c.deref.ensures.value) ∙ sym c.in-Ok.ensures in
    subst Rise (sym c.remove.ensures.items) (removed (c.args.who, c.args.n) c.self.inside.slots.items c.in-Ok.at c.self.invariant placed).1

pub returns-in-Ok : goal.returns-in-Ok
returns-in-Ok c =
    let placed = ap (place_of iterator_cmp name_of (c.args.who, c.args.n)) (sym c.deref.ensures.value) ∙ sym c.in-Ok.ensures in
    ap map_of c.remove.ensures.items ∙ (removed (c.args.who, c.args.n) c.self.inside.slots.items c.in-Ok.at c.self.invariant placed).0
    ∙ ap (λ (m : Iterators). remove m (c.args.who, c.args.n)) c.self.view_is

pub returns-in-Err : goal.returns-in-Err
returns-in-Err c =
    let placed = ap (place_of iterator_cmp name_of (c.args.who, c.args.n)) (sym c.deref.ensures.value) ∙ sym c.in-Err.ensures in
    sym c.self.view_is ∙ not_there (c.args.who, c.args.n) c.self.inside.slots.items c.in-Err.field-0 c.self.invariant placed
    ∙ ap (λ (m : Iterators). remove m (c.args.who, c.args.n)) c.self.view_is
