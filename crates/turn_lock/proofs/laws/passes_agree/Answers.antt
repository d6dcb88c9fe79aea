use Rattle.turn_lock.proofs.Agreeing as agreeing
use Rattle.turn_lock.proofs.laws.passes_agree.Goals as goal

pub returns : goal.returns
returns g c = agreeing.passes_agree g.S.Booked.stands_for g.S.Booked.book
