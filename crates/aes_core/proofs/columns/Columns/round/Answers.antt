use Rattle.aes_core.specs.Aes.{mixed_column, mix_columns, shift_rows, sub_bytes, add_round_key}
use Rattle.aes_core.proofs.WordBytes.{four}
use Rattle.aes_core.proofs.columns.Columns.round.Goals as goal

pub returns : goal.returns
unfolding mixed_column mix_columns shift_rows sub_bytes add_round_key
returns c = four _ _ _ _ _ _ _ _ c.round_column.ensures c.round_column-2.ensures c.round_column-3.ensures c.round_column-4.ensures
