use Rattle.aes_lanes.proofs.Bytes.{HasByte-doubled}
use Rattle.aes_lanes.proofs.registers.Registers.doubled.Goals as goal

pub returns : goal.returns
returns c = HasByte-doubled c.args.self
