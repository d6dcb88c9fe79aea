use Rattle.tdb_mount.proofs.LawLemmas.{record_told, told_as_spelled}
use Rattle.tdb_mount.proofs.laws.keys_are_told_as_spelled.Goals as goal

pub returns : goal.returns
returns c = record {
  spelled = λ g area image key place positive. told_as_spelled g area image positive key place;
  records = λ g area image place r positive. record_told g area image positive place r;
}
