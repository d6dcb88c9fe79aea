use Rattle.sealed_pair.proofs.SealLemmas.{HaveForm}
use Rattle.fresh_numbers.proofs.OnceLemmas.{taken_once}
use Rattle.fresh_numbers.proofs.laws.numbers_are_taken_once.Goals as goal

pub returns : goal.returns
returns c h key first second number is a first_number b second_number =
    let form_of = c.sealed_records_have_their_form.ensures in
    let form : HaveForm = record { size = form_of.size; tag = form_of.tag; metadata = form_of.metadata } in
    taken_once c.sealed_records_are_opened.ensures.second form c.records_have_one_reading.ensures c.healing_completes_sets.ensures.each h is key number first second a first_number b second_number
