use Rattle.std.specs.Prelude.{Some, None}
use Rattle.record_core.proofs.AnswerLemmas.{erased_answer, one_answer, one_key, programmed_answer}
use Rattle.record_core.proofs.MountLemmas.{IsMaster-put, no_master_erased, one_version}
use Rattle.record_core.proofs.laws.readers_have_one_answer.Goals as goal

pub returns : goal.returns
returns c = record {
  one_header = λ prog image place end key other a b positive. one_answer prog positive image place end key other a b;
  one_key = λ prog image place end key other a b positive. one_key prog positive image place end key other a b;
  one_version = λ prog image area a b positive. one_version prog positive image area a b;
  programmed = λ prog image place end r key found positive. programmed_answer prog positive image place end r key found;
  master = λ prog image area version found positive in_range fits is.
      one_version prog positive _ area found (Some version) is (IsMaster-put prog positive image area version in_range fits);
  erased = λ prog image place end key found positive. erased_answer prog positive image place end key found;
  erased_master = λ prog image area found positive erased is.
      one_version prog positive image area found None is (λ version stands. no_master_erased prog positive image area version erased stands);
}
