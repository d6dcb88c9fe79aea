use Rattle.std.proofs.Common.{refl}
use Rattle.aes_lanes.specs.declared.registers.TheConstants.{NEXT_ROWS}
use Rattle.aes_lanes.proofs.Bytes.{HasByte-below}
use Rattle.aes_lanes.proofs.registers.Registers.next_rows.Goals as goal

pub returns : goal.returns
returns c = HasByte-below 1 NEXT_ROWS refl refl c.args.self
