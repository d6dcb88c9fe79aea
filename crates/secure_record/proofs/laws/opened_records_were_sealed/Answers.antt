use Rattle.secure_record.proofs.RecordLemmas.{was_sealed}
use Rattle.secure_record.proofs.laws.opened_records_were_sealed.Goals as goal

pub returns : goal.returns
returns c = was_sealed
