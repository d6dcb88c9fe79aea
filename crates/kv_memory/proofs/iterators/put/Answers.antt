use Rattle.std.proofs.Common.{length, sym, ◌∙◌, ap, subst, arith}
use Rattle.kv_model.specs.StoreState.{iterator_cmp}
use Rattle.kv_memory.specs.Places.{place_of}
use Rattle.kv_memory.specs.SlotOf.{Rise, map_of, name_of}
use Rattle.kv_memory.proofs.IteratorMapLemmas.{absent_at, found_at, inserted, replaced}
use Rattle.kv_memory.proofs.iterators.put.Goals as goal

pub index_mut-requires : goal.index_mut-requires
index_mut-requires c =
    let placed = ap (place_of iterator_cmp name_of (c.args.slot.who, c.args.slot.n)) (sym c.deref.ensures.value) ∙ sym c.in-Ok.ensures in
    let within = (found_at (name_of c.args.slot) c.args.slots.now.items c.in-Ok.at c.requires.rise placed).within in
    omega (arith, within, c.deref.ensures.len, ap length c.deref.ensures.value)

pub returns-in-Ok-clause-rise : goal.returns-in-Ok-clause-rise
returns-in-Ok-clause-rise c =
    let placed = ap (place_of iterator_cmp name_of (c.args.slot.who, c.args.slot.n)) (sym c.deref.ensures.value) ∙ sym c.in-Ok.ensures in
    (replaced c.args.slots.now.items c.in-Ok.at c.args.slot c.requires.rise placed).1

pub returns-in-Ok-clause-map : goal.returns-in-Ok-clause-map
returns-in-Ok-clause-map c =
    let placed = ap (place_of iterator_cmp name_of (c.args.slot.who, c.args.slot.n)) (sym c.deref.ensures.value) ∙ sym c.in-Ok.ensures in
    (replaced c.args.slots.now.items c.in-Ok.at c.args.slot c.requires.rise placed).0

pub insert_at-requires-clause-place : goal.insert_at-requires-clause-place
insert_at-requires-clause-place c =
    let placed = ap (place_of iterator_cmp name_of (c.args.slot.who, c.args.slot.n)) (sym c.deref.ensures.value) ∙ sym c.in-Err.ensures in
    (absent_at (name_of c.args.slot) c.args.slots.now.items c.in-Err.at c.requires.rise placed).within

pub returns-in-Err-clause-rise : goal.returns-in-Err-clause-rise
returns-in-Err-clause-rise c =
    let placed = ap (place_of iterator_cmp name_of (c.args.slot.who, c.args.slot.n)) (sym c.deref.ensures.value) ∙ sym c.in-Err.ensures in
    subst Rise (sym c.insert_at.ensures) (inserted c.args.slots.now.items c.in-Err.at c.args.slot c.requires.rise placed).1

pub returns-in-Err-clause-map : goal.returns-in-Err-clause-map
returns-in-Err-clause-map c =
    let placed = ap (place_of iterator_cmp name_of (c.args.slot.who, c.args.slot.n)) (sym c.deref.ensures.value) ∙ sym c.in-Err.ensures in
    ap map_of c.insert_at.ensures ∙ (inserted c.args.slots.now.items c.in-Err.at c.args.slot c.requires.rise placed).0
