use Rattle.record_core.proofs.MountLemmas.{one_contents, mounts_once, reads_stand}
use Rattle.record_core.proofs.laws.mounts_once.Goals as goal

pub returns : goal.returns
returns c = record {
  contents = λ g image a b positive. one_contents g image positive a b;
  reads = λ g image contents positive. reads_stand g image positive contents;
  map = λ g image m n positive. mounts_once g image positive m n;
}
