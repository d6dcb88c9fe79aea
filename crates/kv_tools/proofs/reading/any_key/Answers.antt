use Rattle.std.proofs.Common.{refl}
use mathlib.Core.Bool.{false≢true}
use Rattle.kv_model.specs.Keys.{is_key, is_key_byte, is_prefix}
use Rattle.kv_tools.proofs.reading.any_key.Goals as goal

pub unreachable-requires : goal.unreachable-requires
unfolding is_key is_key_byte is_prefix
unreachable-requires c = false≢true (c.in-Err.ensures.valid.1 refl)
