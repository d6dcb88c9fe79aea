use Rattle.secure_record.proofs.RecordLemmas.{one_reading}
use Rattle.secure_record.proofs.laws.records_have_one_reading.Goals as goal

pub returns : goal.returns
returns c root key m n v w = one_reading root key m n v w c.cmacs_have_sixteen_bytes.ensures
