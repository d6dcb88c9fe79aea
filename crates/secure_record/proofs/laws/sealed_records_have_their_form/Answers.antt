use Rattle.secure_record.specs.Sealed.{record_tag}
use Rattle.secure_record.proofs.RecordLemmas.{length-sealed, metadata_of_sealed, tag_at_end}
use Rattle.secure_record.proofs.laws.sealed_records_have_their_form.Goals as goal

pub returns-clause-size : goal.returns-clause-size
unfolding record_tag
returns-clause-size c root key m value valid long = length-sealed root key m value valid long (c.cmacs_have_sixteen_bytes.ensures _ _)

pub returns-clause-tag : goal.returns-clause-tag
unfolding record_tag
returns-clause-tag c root key m value = tag_at_end root key m value (c.cmacs_have_sixteen_bytes.ensures _ _)

pub returns-clause-metadata : goal.returns-clause-metadata
unfolding record_tag
returns-clause-metadata c root key m value valid long = metadata_of_sealed root key m value valid long (c.cmacs_have_sixteen_bytes.ensures _ _)
