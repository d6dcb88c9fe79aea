use Rattle.secure_record.proofs.RecordLemmas.{in_parts, unseal-none}
use Rattle.secure_record.proofs.laws.metadata_divides_records.Goals as goal

pub returns : goal.returns
returns c = record { parts = in_parts; none = unseal-none }
