use Rattle.aes_lanes.proofs.Bytes.{HasByte-xor}
use Rattle.aes_lanes.proofs.registers.Registers.xored.Goals as goal

pub returns : goal.returns
returns c = HasByte-xor c.args.self c.args.other
