use Rattle.std.proofs.Common.{refl}
use Rattle.aes_lanes.specs.declared.registers.TheConstants.{ROWS_AFTER}
use Rattle.aes_lanes.proofs.Bytes.{HasByte-below}
use Rattle.aes_lanes.proofs.registers.Registers.rows_after.Goals as goal

pub returns : goal.returns
returns c = HasByte-below 2 ROWS_AFTER refl refl c.args.self
