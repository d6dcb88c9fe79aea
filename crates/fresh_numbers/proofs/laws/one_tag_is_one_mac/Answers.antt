use Rattle.sealed_pair.proofs.SealLemmas.{HaveForm}
use Rattle.fresh_numbers.proofs.MacLemmas.{had_one_mac, left_one_mac}
use Rattle.fresh_numbers.proofs.laws.one_tag_is_one_mac.Goals as goal

pub returns-clause-stood : goal.returns-clause-stood
returns-clause-stood c h key is =
    let f = c.sealed_records_have_their_form.ensures in
    let form : HaveForm = record { size = f.size; tag = f.tag; metadata = f.metadata } in
    had_one_mac c.sealed_records_are_opened.ensures.second form c.records_have_one_reading.ensures c.healing_completes_sets.ensures.each h key is

pub returns-clause-attacked : goal.returns-clause-attacked
returns-clause-attacked c h key is =
    let f = c.sealed_records_have_their_form.ensures in
    let form : HaveForm = record { size = f.size; tag = f.tag; metadata = f.metadata } in
    left_one_mac c.sealed_records_are_opened.ensures.second form c.records_have_one_reading.ensures c.healing_completes_sets.ensures.each h key is
