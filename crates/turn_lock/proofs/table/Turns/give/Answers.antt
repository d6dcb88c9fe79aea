use Rattle.std.proofs.Common.{rules, ◌∷◌, Some, refl, sym, ap, ◌∙◌, subst}
use Rattle.atomic_table.specs.Table.{rest}
use Rattle.turn_lock.specs.declared.view.Phase.TheVariants.{Idle}
use Rattle.turn_lock.proofs.Turning.{ends_turn}
use Rattle.turn_lock.proofs.table.Turns.give.Goals as goal

-- the value lies in its slot, and the seat is as it was
pub store-requires : goal.store-requires
store-requires g c =
    let e = c.exchange.ensures.3 in
    let turn = c.requires.turn in
    let value = c.requires.value in
    let stands_for = g.S.Booked.stands_for in
    let slot = ap (λ m. m.1) e ∙ ap (λ l. (0, Some c.args.held.state) ∷ rest l) turn.out in (
      search rules,
      search rules,
      ends_turn stands_for g.S.Booked.book Idle _ _ _ _ c.args.held.state refl refl (ap (λ m. m.0.phase) e ∙ turn.loaded) slot
          (subst (λ m. stands_for c.args.held.state m.0.opening) (sym e) value.stands) (value.entries ∙ ap (λ m. m.0.noted) (sym e)) (value.first ∙ ap (λ m. m.0.quitter) (sym e)),
    )
