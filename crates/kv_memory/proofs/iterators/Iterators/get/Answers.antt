use Rattle.std.proofs.Common.{length, sym, ◌∙◌, ap, arith}
use Rattle.kv_model.specs.StoreState.{Iterators, iterator_cmp}
use Rattle.std.specs.FinMap.{get}
use Rattle.kv_memory.specs.Places.{place_of}
use Rattle.kv_memory.specs.SlotOf.{name_of}
use Rattle.kv_memory.proofs.IteratorMapLemmas.{found_at, got_absent, got_found}
use Rattle.kv_memory.proofs.iterators.Iterators.get.Goals as goal

pub index-slot-requires : goal.index-slot-requires
index-slot-requires c =
    let placed = ap (place_of iterator_cmp name_of (c.args.who, c.args.n)) (sym c.deref.ensures.value) ∙ sym c.in-Ok.ensures in
    let within = (found_at (c.args.who, c.args.n) c.self.inside.slots.items c.in-Ok.at c.self.invariant placed).within in
    omega (arith, within, c.deref.ensures.len, ap length c.deref.ensures.value)

pub returns-in-Ok : goal.returns-in-Ok
returns-in-Ok c =
    let placed = ap (place_of iterator_cmp name_of (c.args.who, c.args.n)) (sym c.deref.ensures.value) ∙ sym c.in-Ok.ensures in
    ap (λ (m : Iterators). get m (c.args.who, c.args.n)) (sym c.self.view_is)
    ∙ got_found (c.args.who, c.args.n) c.self.inside.slots.items c.in-Ok.at c.index-slot.result.now c.self.invariant placed c.index-slot.ensures

pub returns-in-Err : goal.returns-in-Err
returns-in-Err c =
    let placed = ap (place_of iterator_cmp name_of (c.args.who, c.args.n)) (sym c.deref.ensures.value) ∙ sym c.in-Err.ensures in
    ap (λ (m : Iterators). get m (c.args.who, c.args.n)) (sym c.self.view_is)
    ∙ got_absent (c.args.who, c.args.n) c.self.inside.slots.items c.in-Err.field-0 c.self.invariant placed
