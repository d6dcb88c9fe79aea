use Rattle.std.proofs.Common.{rules, ◌∙◌, ap}
use Rattle.turn_lock.proofs.Turning.{looks_on}
use Rattle.turn_lock.proofs.Uniting.{joins_passes}
use Rattle.turn_lock.proofs.table.Turns.unite.Goals as goal

pub join_seat-requires : goal.join_seat-requires
join_seat-requires g c = (
  c.requires.seat.of_table,
  c.requires.other.of_table,
  c.requires.other.empty,
  search rules,
  joins_passes g.S.Booked.stands_for g.S.Booked.book _ _ _ _ c.requires.seat.idle c.requires.other.idle,
)

pub load-requires : goal.load-requires
load-requires g c =
    (search rules, search rules, looks_on g.S.Booked.stands_for g.S.Booked.book _ _ _ (ap (λ m. m.0.phase) c.join_seat.ensures.2 ∙ c.requires.seat.idle))
