use Rattle.aes_core.specs.Aes.{shift_rows, sub_bytes, add_round_key}
use Rattle.aes_core.proofs.WordBytes.{four}
use Rattle.aes_core.proofs.columns.Columns.last_round.Goals as goal

pub returns : goal.returns
unfolding shift_rows sub_bytes add_round_key
returns c = four _ _ _ _ _ _ _ _ c.last_column.ensures c.last_column-2.ensures c.last_column-3.ensures c.last_column-4.ensures
