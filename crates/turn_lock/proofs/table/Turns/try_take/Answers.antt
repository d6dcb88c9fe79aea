use Rattle.std.proofs.Common.{rules, ◌≡◌, ◌∷◌, Some, sym, ap, ◌∙◌}
use Rattle.atomic_table.specs.Table.{rest}
use Rattle.turn_lock.proofs.Turning.{takes_turn, loads_turn}
use Rattle.turn_lock.proofs.table.Turns.try_take.Goals as goal

-- the exchange
pub compare_exchange-word-requires : goal.compare_exchange-word-requires
compare_exchange-word-requires g c =
    (c.requires.of_table, search rules, takes_turn g.S.Booked.stands_for g.S.Booked.book _ _ _ c.requires.idle c.requires.empty)

-- the value comes out of its slot
pub exchange-requires : goal.exchange-requires
exchange-requires g c =
    let hit : c.compare_exchange-word.result ≡ 0 = search rules in
    let got = c.compare_exchange-word.ensures.2.0 hit in
    (c.compare_exchange-word.ensures.0 ∙ c.requires.of_table, (Some got.0, got.1 ∙ ap (λ l. (0, Some got.0) ∷ l) (sym (ap rest got.1))))

-- the load
pub load-requires : goal.load-requires
load-requires g c =
    let hit : c.compare_exchange-word.result ≡ 0 = search rules in
    let got = c.compare_exchange-word.ensures.2.0 hit in
    let phase = ap (λ v. v.phase) got.2.view in
    (search rules, search rules, loads_turn g.S.Booked.stands_for g.S.Booked.book _ _ _ (ap (λ m. m.0.phase) c.exchange.ensures.3 ∙ phase))
