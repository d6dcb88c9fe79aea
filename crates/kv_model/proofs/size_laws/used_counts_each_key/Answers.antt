use Rattle.kv_model.proofs.UsedLemmas.{used-empty, used-insert, used-remove, used-at_least}
use Rattle.kv_model.proofs.size_laws.used_counts_each_key.Goals as goal

pub returns : goal.returns
returns c = record { none = used-empty; insert = used-insert; remove = used-remove; each = used-at_least }
