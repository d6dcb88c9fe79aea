use Rattle.ram_table.proofs.IndexLemmas.{index_in_more}
use Rattle.ram_table.proofs.laws.more_keys_keep_the_order.Goals as goal

pub returns : goal.returns
returns c = index_in_more
