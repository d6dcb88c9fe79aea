use Rattle.sealed_pair.proofs.SealLemmas.{HaveForm}
use Rattle.sealed_pair.proofs.CutLemmas.{cut_shows}
use Rattle.sealed_pair.proofs.FinishLemmas.{cut_finish_shows}
use Rattle.sealed_pair.proofs.laws.a_cut_set_is_whole_or_absent.Goals as goal

pub returns-clause-set : goal.returns-clause-set
returns-clause-set c constants state who key value flags tag secure stands long =
    let f = c.sealed_records_have_their_form.ensures in
    let form : HaveForm = record { size = f.size; tag = f.tag; metadata = f.metadata } in
    cut_shows c.sealed_records_are_opened.ensures.second form constants state secure.next_vector who key value flags tag stands long

pub returns-clause-finish : goal.returns-clause-finish
returns-clause-finish c constants state who set tag secure rooms is ends stands long =
    let f = c.sealed_records_have_their_form.ensures in
    let form : HaveForm = record { size = f.size; tag = f.tag; metadata = f.metadata } in
    cut_finish_shows c.sealed_records_are_opened.ensures.second form constants state secure.next_vector state.next_vector who tag long set is ends secure.open_set rooms.reserved stands
