use Rattle.std.proofs.Common.{refl}
use Rattle.aes_lanes.specs.declared.registers.TheConstants.{TURNED_ROWS}
use Rattle.aes_lanes.proofs.Bytes.{HasBlock-shifted}
use Rattle.aes_lanes.proofs.registers.Registers.shift_rows.Goals as goal

pub returns : goal.returns
returns c = HasBlock-shifted TURNED_ROWS refl refl c.args.self
