use Rattle.std.proofs.Common.{length, sym, ◌∙◌, ap, subst, arith}
use Rattle.std.specs.Ordering.{nat_cmp}
use Rattle.std.specs.Cmp.Lexicographic.{slice_cmp}
use Rattle.std.specs.FinMap.{insert}
use Rattle.kv_model.specs.FlaggedMap.{Stored}
use Rattle.kv_memory.specs.declared.entries.Item.{Item}
use Rattle.kv_memory.specs.EntriesState.{EntriesState}
use Rattle.kv_memory.specs.Places.{place_of}
use Rattle.kv_memory.specs.EntryOf.{Rise, key_of, map_of}
use Rattle.kv_memory.proofs.EntryLemmas.{absent_at, found_at, inserted, replaced}
use Rattle.kv_memory.proofs.entries.Entries.set.Goals as goal

pub index_mut-requires : goal.index_mut-requires
index_mut-requires c =
    let placed = ap (place_of (slice_cmp nat_cmp) key_of c.args.key) (sym c.deref.ensures.value) ∙ sym c.in-Ok.ensures in
    let within = (found_at c.args.key c.self.inside.items.items c.in-Ok.at c.self.invariant placed).within in
    omega (arith, within, c.deref.ensures.len, ap length c.deref.ensures.value)

pub invariant_of-self : goal.invariant_of-self
invariant_of-self c =
    let placed = ap (place_of (slice_cmp nat_cmp) key_of c.args.key) (sym c.deref.ensures.value) ∙ sym c.in-Ok.ensures in
    let item : Item = record { key = c.args.key; flags = c.args.flags; value = c.args.value } in
    (replaced c.self.inside.items.items c.in-Ok.at item c.self.invariant placed).1

pub returns-in-Ok : goal.returns-in-Ok
returns-in-Ok c =
    let placed = ap (place_of (slice_cmp nat_cmp) key_of c.args.key) (sym c.deref.ensures.value) ∙ sym c.in-Ok.ensures in
    let item : Item = record { key = c.args.key; flags = c.args.flags; value = c.args.value } in
    let stored : Stored = record { flags = c.args.flags.bits; bytes = c.args.value } in
    (replaced c.self.inside.items.items c.in-Ok.at item c.self.invariant placed).0
    ∙ ap (λ (e : EntriesState). insert e.map c.args.key stored) c.self.view_is

pub insert_at-requires-clause-place : goal.insert_at-requires-clause-place
insert_at-requires-clause-place c =
    let placed = ap (place_of (slice_cmp nat_cmp) key_of c.args.key) (sym c.deref.ensures.value) ∙ sym c.in-Err.ensures in
    (absent_at c.args.key c.self.inside.items.items c.in-Err.at c.self.invariant placed).within

pub invariant_of-self-in-Err : goal.invariant_of-self-in-Err
invariant_of-self-in-Err c =
    let placed = ap (place_of (slice_cmp nat_cmp) key_of c.args.key) (sym c.deref.ensures.value) ∙ sym c.in-Err.ensures in
    let item : Item = record { key = c.args.key; flags = c.args.flags; value = c.args.value } in
    subst Rise (sym c.insert_at.ensures) (inserted c.self.inside.items.items c.in-Err.at item c.self.invariant placed).1

pub returns-in-Err : goal.returns-in-Err
returns-in-Err c =
    let placed = ap (place_of (slice_cmp nat_cmp) key_of c.args.key) (sym c.deref.ensures.value) ∙ sym c.in-Err.ensures in
    let item : Item = record { key = c.args.key; flags = c.args.flags; value = c.args.value } in
    let stored : Stored = record { flags = c.args.flags.bits; bytes = c.args.value } in
    ap map_of c.insert_at.ensures ∙ (inserted c.self.inside.items.items c.in-Err.at item c.self.invariant placed).0
    ∙ ap (λ (e : EntriesState). insert e.map c.args.key stored) c.self.view_is
