use Rattle.sealed_pair.proofs.OtherKeyLemmas.{finish_leaves, remove_leaves, set_leaves}
use Rattle.sealed_pair.proofs.laws.a_cut_leaves_other_keys.Goals as goal

pub returns : goal.returns
returns c = record { set = set_leaves; remove = remove_leaves; finish = finish_leaves }
