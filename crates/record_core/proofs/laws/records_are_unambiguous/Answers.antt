use Rattle.record_core.proofs.HeaderLemmas.{same_sizes}
use Rattle.record_core.proofs.LogLemmas.{one_record, no_prefix}
use Rattle.record_core.proofs.MountLemmas.{one_master}
use Rattle.record_core.proofs.laws.records_are_unambiguous.Goals as goal

pub returns : goal.returns
returns c = record {
  one_record = λ prog image place r s positive. one_record prog positive image place r s;
  no_prefix = λ prog r s front rest positive. no_prefix prog positive r s front rest;
  one_header = λ a b valid_a valid_b same. let sizes = same_sizes a b valid_a valid_b same in (sizes.flags, sizes.key_size, sizes.value_size);
  one_master = λ prog bytes v w positive. one_master prog positive bytes v w;
}
