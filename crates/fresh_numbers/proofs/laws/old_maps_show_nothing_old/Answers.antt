use Rattle.sealed_pair.proofs.SealLemmas.{HaveForm}
use Rattle.fresh_numbers.proofs.ReplayLemmas.{nothing_old}
use Rattle.fresh_numbers.proofs.laws.old_maps_show_nothing_old.Goals as goal

pub returns : goal.returns
returns c h earlier key flags value is passed held mirrored =
    let f = c.sealed_records_have_their_form.ensures in
    let form : HaveForm = record { size = f.size; tag = f.tag; metadata = f.metadata } in
    nothing_old c.sealed_records_are_opened.ensures.second form c.records_have_one_reading.ensures c.healing_completes_sets.ensures.each h is earlier passed key flags value held mirrored
