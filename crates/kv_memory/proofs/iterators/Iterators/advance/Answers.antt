use Rattle.std.proofs.Common.{length, sym, ◌∙◌, ap, arith, Option}
use Rattle.std.specs.Option.{option_map_or}
use Rattle.std.specs.FinMap.{get, insert}
use Rattle.kv_model.specs.StoreState.{Iterators, Position, iterator_cmp}
use Rattle.kv_memory.specs.Cursors.{behind}
use Rattle.kv_memory.specs.Places.{place_of}
use Rattle.kv_memory.specs.SlotOf.{map_of, name_of}
use Rattle.kv_memory.proofs.IteratorMapLemmas.{found_at, got_absent, got_found, moved}
use Rattle.kv_memory.proofs.iterators.Iterators.advance.Goals as goal

pub index_mut-slot-requires : goal.index_mut-slot-requires
index_mut-slot-requires c =
    let placed = ap (place_of iterator_cmp name_of (c.args.who, c.args.n)) (sym c.deref.ensures.value) ∙ sym c.in-Ok.ensures in
    let within = (found_at (c.args.who, c.args.n) c.self.inside.slots.items c.in-Ok.at c.self.invariant placed).within in
    omega (arith, within, c.deref.ensures.len, ap length c.deref.ensures.value)

pub invariant_of-self : goal.invariant_of-self
invariant_of-self c =
    let placed = ap (place_of iterator_cmp name_of (c.args.who, c.args.n)) (sym c.deref.ensures.value) ∙ sym c.in-Ok.ensures in
    (moved (c.args.who, c.args.n) c.self.inside.slots.items c.in-Ok.at c.index_mut-slot.result.now c.args.key c.self.invariant placed c.index_mut-slot.ensures.value).1

pub returns-in-Ok : goal.returns-in-Ok
returns-in-Ok c =
    let slots = c.self.inside.slots.items in
    let slot = c.index_mut-slot.result.now in
    let placed = ap (place_of iterator_cmp name_of (c.args.who, c.args.n)) (sym c.deref.ensures.value) ∙ sym c.in-Ok.ensures in
    (moved (c.args.who, c.args.n) slots c.in-Ok.at slot c.args.key c.self.invariant placed c.index_mut-slot.ensures.value).0
    ∙ ap (λ (found : Option Position). option_map_or (λ (p : Position). insert (map_of slots) (c.args.who, c.args.n) (behind p c.args.key)) found (map_of slots))
    (sym (got_found (c.args.who, c.args.n) slots c.in-Ok.at slot c.self.invariant placed c.index_mut-slot.ensures.value))
    ∙ ap (λ (m : Iterators). option_map_or (λ (p : Position). insert m (c.args.who, c.args.n) (behind p c.args.key)) (get m (c.args.who, c.args.n)) m) c.self.view_is

pub returns-in-Err : goal.returns-in-Err
returns-in-Err c =
    let slots = c.self.inside.slots.items in
    let placed = ap (place_of iterator_cmp name_of (c.args.who, c.args.n)) (sym c.deref.ensures.value) ∙ sym c.in-Err.ensures in
    sym c.self.view_is
    ∙ ap (λ (found : Option Position). option_map_or (λ (p : Position). insert (map_of slots) (c.args.who, c.args.n) (behind p c.args.key)) found (map_of slots))
    (sym (got_absent (c.args.who, c.args.n) slots c.in-Err.field-0 c.self.invariant placed))
    ∙ ap (λ (m : Iterators). option_map_or (λ (p : Position). insert m (c.args.who, c.args.n) (behind p c.args.key)) (get m (c.args.who, c.args.n)) m) c.self.view_is
