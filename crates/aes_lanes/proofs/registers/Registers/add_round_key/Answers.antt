use Rattle.aes_lanes.proofs.Bytes.{HasBlock-keyed}
use Rattle.aes_lanes.proofs.registers.Registers.add_round_key.Goals as goal

pub returns : goal.returns
returns c place block round_key = HasBlock-keyed c.args.self c.args.key _ place block round_key c.xored.ensures
