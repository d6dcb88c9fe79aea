use Rattle.record_core.proofs.LogLemmas.{AreRecords-append, AreRecords-Torn, all_before_erased, header_at, key_at, value_at}
use Rattle.record_core.proofs.laws.records_go_on.Goals as goal

pub returns : goal.returns
returns c = record {
  append = AreRecords-append;
  stay = λ prog range size old new place end rs positive. AreRecords-Torn prog positive range size old new place end rs;
  all = λ prog image place limit end rs positive. all_before_erased prog positive image place limit end rs;
  header = λ prog image place r positive. header_at prog positive image place r;
  key = λ prog image place r positive. key_at prog positive image place r;
  value = λ prog image place r positive. value_at prog positive image place r;
}
