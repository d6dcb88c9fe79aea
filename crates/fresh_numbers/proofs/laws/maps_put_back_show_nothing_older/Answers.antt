use Rattle.sealed_pair.proofs.SealLemmas.{HaveForm}
use Rattle.fresh_numbers.proofs.PutBackLemmas.{is_under_attack, nothing_older}
use Rattle.fresh_numbers.proofs.laws.maps_put_back_show_nothing_older.Goals as goal

pub returns-clause-shown : goal.returns-clause-shown
returns-clause-shown c h state maps key flags value is passed finds held mirrored =
    let f = c.sealed_records_have_their_form.ensures in
    let form : HaveForm = record { size = f.size; tag = f.tag; metadata = f.metadata } in
    nothing_older c.sealed_records_are_opened.ensures.second form c.records_have_one_reading.ensures c.healing_completes_sets.ensures.each h is state passed maps finds key flags value held mirrored

pub returns-clause-honest : goal.returns-clause-honest
returns-clause-honest c = is_under_attack
