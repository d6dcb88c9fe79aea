use Rattle.std.proofs.Common.{refl}
use Rattle.kv_model.specs.Crc.{shifted_times}
use Rattle.record_core.proofs.shifts.shifted_bytes.Goals as goal

pub returns : goal.returns
unfolding shifted_times
returns c = refl
