use Rattle.sealed_pair.proofs.SealLemmas.{HaveForm}
use Rattle.fresh_numbers.proofs.AttackLemmas.{shows_first, shows_second}
use Rattle.fresh_numbers.proofs.laws.a_number_taken_again_lets_an_old_map_in.Goals as goal

pub returns : goal.returns
returns c a may =
    let f = c.sealed_records_have_their_form.ensures in
    let form : HaveForm = record { size = f.size; tag = f.tag; metadata = f.metadata } in
    let opens = c.sealed_records_are_opened.ensures.second in
    (shows_first opens form a may, shows_second opens form a may)
