use Rattle.kv_model.proofs.OrderLemmas.{key_order_total}
use Rattle.kv_model.proofs.laws.key_order_is_total.Goals as goal

pub returns : goal.returns
returns c = record { total = key_order_total }
