use Rattle.ram_table.proofs.IndexLemmas.{index_remove, index_replace}
use Rattle.ram_table.proofs.laws.changes_keep_the_order.Goals as goal

pub returns-clause-replaced : goal.returns-clause-replaced
returns-clause-replaced c bits keys = index_replace bits keys

pub returns-clause-removed : goal.returns-clause-removed
returns-clause-removed c bits keys = index_remove bits keys
