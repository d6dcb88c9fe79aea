use Rattle.record_core.proofs.LogLemmas.{IsRecordAt-put, no_record_erased}
use Rattle.record_core.proofs.MountLemmas.{IsMaster-put, no_master_erased}
use Rattle.record_core.proofs.laws.records_stand_where_programmed.Goals as goal

pub returns : goal.returns
returns c = record {
  log_record = λ prog image place r positive. IsRecordAt-put prog positive image place r;
  master = λ prog image area version positive. IsMaster-put prog positive image area version;
  no_record = λ prog image place r positive. no_record_erased prog positive image place r;
  no_master = λ prog image area version positive. no_master_erased prog positive image area version;
}
