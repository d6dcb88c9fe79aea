use Rattle.kv_model.proofs.NextKeyLemmas.{next_key_is_least}
use Rattle.kv_model.proofs.next_laws.next_key_is_least.Goals as goal

pub returns : goal.returns
returns c = next_key_is_least
