use Rattle.kv_model.proofs.IteratorLemmas.{plain_shares, gives_no_key_twice, gives_each_key_once}
use Rattle.kv_model.proofs.next_laws.iterators_give_each_key_once.Goals as goal

pub returns : goal.returns
returns c = record { plain = plain_shares; no_key_twice = gives_no_key_twice; each_key_once = gives_each_key_once }
