use Rattle.inc_set.proofs.PlaceLemmas.{no_record, no_record_fed, no_record_sealed}
use Rattle.inc_set.proofs.laws.no_record_stands_before_the_header.Goals as goal

pub returns : goal.returns
returns c = record {
  erased = λ g image set positive ahead. no_record g positive image set ahead;
  fed = λ g image set from units positive ahead. no_record_fed g positive image set ahead from units;
  sealed = λ g image set r positive ahead. no_record_sealed g positive image set ahead r;
}
