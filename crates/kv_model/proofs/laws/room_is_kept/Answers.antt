use Rattle.kv_model.proofs.RoomLemmas.{fresh_has_room, step_keeps_room, follows_keeps_room}
use Rattle.kv_model.proofs.laws.room_is_kept.Goals as goal

pub returns-clause-fresh : goal.returns-clause-fresh
returns-clause-fresh c = fresh_has_room

pub returns-clause-step : goal.returns-clause-step
returns-clause-step c constants state who operation plain room = step_keeps_room constants state who plain room operation

pub returns-clause-history : goal.returns-clause-history
returns-clause-history c = follows_keeps_room
