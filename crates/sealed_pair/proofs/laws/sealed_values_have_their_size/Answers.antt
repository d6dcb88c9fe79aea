use Rattle.std.proofs.Common.{refl}
use Rattle.sealed_pair.proofs.SealLemmas.{HaveForm, length-seal, tag_of_seal}
use Rattle.sealed_pair.proofs.laws.sealed_values_have_their_size.Goals as goal

pub returns-clause-size : goal.returns-clause-size
returns-clause-size c =
    let f = c.sealed_records_have_their_form.ensures in
    let form : HaveForm = record { size = f.size; tag = f.tag; metadata = f.metadata } in
    length-seal form

pub returns-clause-tag : goal.returns-clause-tag
returns-clause-tag c =
    let f = c.sealed_records_have_their_form.ensures in
    let form : HaveForm = record { size = f.size; tag = f.tag; metadata = f.metadata } in
    tag_of_seal form

pub returns-clause-largest : goal.returns-clause-largest
returns-clause-largest c = refl
