use Rattle.kv_model.specs.Operations.{Finish, Remove, Set}
use Rattle.sealed_pair.proofs.OtherKeyLemmas.{finish_leaves, remove_leaves, set_leaves}
use Rattle.sealed_pair.proofs.OtherViewLemmas.{shows_others}
use Rattle.sealed_pair.proofs.laws.a_cut_shows_other_keys.Goals as goal

pub returns : goal.returns
returns c = record {
  set = λ constants state who key value flags. shows_others constants state who (Set key value flags) key (set_leaves constants state who key value flags);
  remove = λ constants state who key. shows_others constants state who (Remove key) key (remove_leaves constants state who key);
  finish = λ constants state who set is. shows_others constants state who Finish set.key (finish_leaves constants state who set is);
}
