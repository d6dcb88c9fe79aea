use Rattle.std.proofs.Common.{length, sym, ◌∙◌, ap, subst, arith}
use Rattle.std.specs.Ordering.{nat_cmp}
use Rattle.std.specs.Cmp.Lexicographic.{slice_cmp}
use Rattle.std.specs.FinMap.{remove}
use Rattle.kv_memory.specs.EntriesState.{EntriesState}
use Rattle.kv_memory.specs.Places.{place_of}
use Rattle.kv_memory.specs.EntryOf.{Rise, key_of, map_of}
use Rattle.kv_memory.proofs.EntryLemmas.{found_at, not_there, removed}
use Rattle.kv_memory.proofs.entries.Entries.remove.Goals as goal

pub remove-requires : goal.remove-requires
remove-requires c =
    let placed = ap (place_of (slice_cmp nat_cmp) key_of c.args.key.now) (sym c.deref.ensures.value) ∙ sym c.in-Ok.ensures in
    let within = (found_at c.args.key.now c.self.inside.items.items c.in-Ok.at c.self.invariant placed).within in
    omega (arith, within, c.deref.ensures.len, ap length c.deref.ensures.value)

pub invariant_of-self : goal.invariant_of-self
invariant_of-self c =
    let placed = ap (place_of (slice_cmp nat_cmp) key_of c.args.key.now) (sym c.deref.ensures.value) ∙ sym c.in-Ok.ensures in
    subst Rise (sym c.remove.ensures.items) (removed c.args.key.now c.self.inside.items.items c.in-Ok.at c.self.invariant placed).1

pub returns-in-Ok-clause-map : goal.returns-in-Ok-clause-map
returns-in-Ok-clause-map c =
    let placed = ap (place_of (slice_cmp nat_cmp) key_of c.args.key.now) (sym c.deref.ensures.value) ∙ sym c.in-Ok.ensures in
    ap map_of c.remove.ensures.items ∙ (removed c.args.key.now c.self.inside.items.items c.in-Ok.at c.self.invariant placed).0
    ∙ ap (λ (e : EntriesState). remove e.map c.args.key.now) c.self.view_is

pub returns-in-Err-clause-map : goal.returns-in-Err-clause-map
returns-in-Err-clause-map c =
    let placed = ap (place_of (slice_cmp nat_cmp) key_of c.args.key.now) (sym c.deref.ensures.value) ∙ sym c.in-Err.ensures in
    ap (λ (e : EntriesState). e.map) (sym c.self.view_is)
    ∙ not_there c.args.key.now c.self.inside.items.items c.in-Err.field-0 c.self.invariant placed
    ∙ ap (λ (e : EntriesState). remove e.map c.args.key.now) c.self.view_is
