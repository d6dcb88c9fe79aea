use Rattle.std.proofs.Common.{rules, ◌∷◌, Some, refl, sym, ap, ◌∙◌, subst}
use Rattle.atomic_table.specs.Table.{rest}
use Rattle.turn_lock.specs.Views.{in_phase}
use Rattle.turn_lock.specs.declared.view.Phase.TheVariants.{Closing}
use Rattle.turn_lock.proofs.Turning.{ends_turn}
use Rattle.turn_lock.proofs.Closing.{closes_pass}
use Rattle.turn_lock.proofs.table.Turns.close.Goals as goal

-- the value lies in its slot, and the word stays 1
pub store-requires : goal.store-requires
store-requires g c =
    let x = c.take-state.result.state in
    let e = c.exchange.ensures.3 in
    let has = c.take-state.ensures.value.1 in
    let view = ap (λ m. m.0) e ∙ has.view in
    let slot = ap (λ m. m.1) e ∙ ap (λ l. (0, Some x) ∷ rest l) c.take-state.ensures.turn.out in (
      search rules,
      search rules,
      ends_turn g.S.Booked.stands_for g.S.Booked.book Closing _ _ _ _ x refl refl (ap (λ v. v.phase) view) slot
          (subst (λ v. g.S.Booked.stands_for x v.opening) (sym view) has.stands) (sym (ap (λ v. v.noted) view)) (sym (ap (λ v. v.quitter) view)),
    )

pub returns : goal.returns
returns g c =
    let has = c.take-state.ensures.value.1 in
    let view = ap (λ m. m.0) c.exchange.ensures.3 ∙ has.view in
    closes_pass g.S.Booked.stands_for g.S.Booked.book (g.S.Booked.book c.take-state.result.state) c.take-state.ensures.value.0 _ c.store.new.seat.me.0 c.into_value.result
    (ap (λ m. m.0) c.store.ensures.2 ∙ ap (in_phase Closing) view) has.seen c.into_value.ensures
