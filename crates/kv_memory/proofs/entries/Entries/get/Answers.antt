use Rattle.std.proofs.Common.{◌≡◌, Some, length, sym, ◌∙◌, ap, subst, arith}
use Rattle.std.specs.Ordering.{nat_cmp}
use Rattle.std.specs.Cmp.Lexicographic.{slice_cmp}
use Rattle.std.specs.FinMap.{get}
use Rattle.kv_model.specs.FlaggedMap.{FlaggedMap}
use Rattle.kv_memory.specs.EntriesState.{EntriesState}
use Rattle.kv_memory.specs.Places.{place_of}
use Rattle.kv_memory.specs.EntryOf.{key_of, stored_of}
use Rattle.kv_memory.proofs.EntryLemmas.{found_at, got_absent, got_found}
use Rattle.kv_memory.proofs.entries.Entries.get.Goals as goal

pub index-requires : goal.index-requires
index-requires c =
    let placed = ap (place_of (slice_cmp nat_cmp) key_of c.args.key.now) (sym c.deref.ensures.value) ∙ sym c.in-Ok.ensures in
    let within = (found_at c.args.key.now c.self.inside.items.items c.in-Ok.at c.self.invariant placed).within in
    omega (arith, within, c.deref.ensures.len, ap length c.deref.ensures.value)

pub returns-in-Ok : goal.returns-in-Ok
returns-in-Ok c =
    let placed = ap (place_of (slice_cmp nat_cmp) key_of c.args.key.now) (sym c.deref.ensures.value) ∙ sym c.in-Ok.ensures in
    let item = c.index.result.now in
    subst (λ (m : FlaggedMap). (item.key ≡ c.args.key.now) × (get m c.args.key.now ≡ Some (stored_of item))) (ap (λ (e : EntriesState). e.map) c.self.view_is)
    (got_found c.args.key.now c.self.inside.items.items c.in-Ok.at item c.self.invariant placed c.index.ensures)

pub returns-in-Err : goal.returns-in-Err
returns-in-Err c =
    let placed = ap (place_of (slice_cmp nat_cmp) key_of c.args.key.now) (sym c.deref.ensures.value) ∙ sym c.in-Err.ensures in
    ap (λ (e : EntriesState). get e.map c.args.key.now) (sym c.self.view_is) ∙ got_absent c.args.key.now c.self.inside.items.items c.in-Err.field-0 c.self.invariant placed
