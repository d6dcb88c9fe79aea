use Rattle.std.proofs.Common.{◌≡◌, Some, IsSome, refl, sym, ◌∙◌, subst}
use mathlib.Core.Option.{some-injective}
use Rattle.turn_lock.specs.Passes.{HasClosed}
use Rattle.turn_lock.proofs.Closing.{closes}
use Rattle.turn_lock.proofs.table.Turns.into_value.Goals as goal

pub only-state-requires : goal.only-state-requires
only-state-requires g c =
    let final = c.close_with-closed.ensures.values.2 in
    let got = closes g.S.Booked.stands_for g.S.Booked.book final.0 final.1.0 c.args.seat.id c.args.seat.me.0 final.1.1 c.requires.closing in
    let same : c.take.result ≡ Some got.0 = some-injective c.take.result (Some got.0) (sym c.take.ensures.value ∙ final.4 0 (Some got.0) got.1) in
    subst IsSome (sym same) refl

pub returns : goal.returns
returns g c =
    let final = c.close_with-closed.ensures.values.2 in
    let got = closes g.S.Booked.stands_for g.S.Booked.book final.0 final.1.0 c.args.seat.id c.args.seat.me.0 final.1.1 c.requires.closing in
    let same : c.take.result ≡ Some got.0 = some-injective c.take.result (Some got.0) (sym c.take.ensures.value ∙ final.4 0 (Some got.0) got.1) in
    let out : Some got.0 ≡ Some c.only-state.result = sym same ∙ c.only-state.ensures in
    let is : got.0 ≡ c.only-state.result = cc out in
    subst (HasClosed g.S.Booked.stands_for g.S.Booked.book c.args.seat.me.0) is got.2
