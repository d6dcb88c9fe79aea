use Rattle.sealed_pair.proofs.SealLemmas.{HaveForm}
use Rattle.sealed_pair.proofs.RoomLemmas.{follows_keeps_rooms, fresh_has_rooms, step_keeps_rooms}
use Rattle.sealed_pair.proofs.laws.rooms_are_kept.Goals as goal

pub returns-clause-fresh : goal.returns-clause-fresh
returns-clause-fresh c = fresh_has_rooms

pub returns-clause-step : goal.returns-clause-step
returns-clause-step c =
    let f = c.sealed_records_have_their_form.ensures in
    let form : HaveForm = record { size = f.size; tag = f.tag; metadata = f.metadata } in
    step_keeps_rooms form

pub returns-clause-history : goal.returns-clause-history
returns-clause-history c =
    let f = c.sealed_records_have_their_form.ensures in
    let form : HaveForm = record { size = f.size; tag = f.tag; metadata = f.metadata } in
    follows_keeps_rooms form
