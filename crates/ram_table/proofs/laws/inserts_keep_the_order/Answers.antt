use Rattle.ram_table.proofs.IndexLemmas.{index_insert}
use Rattle.ram_table.proofs.laws.inserts_keep_the_order.Goals as goal

pub returns : goal.returns
returns c bits keys = index_insert bits keys
