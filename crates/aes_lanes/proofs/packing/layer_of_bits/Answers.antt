use Rattle.aes_lanes.proofs.Layers.{IsLayer-bits}
use Rattle.aes_lanes.proofs.packing.layer_of_bits.Goals as goal

pub returns : goal.returns
returns c = IsLayer-bits c.args.q _ c.exchanged_bits-first.ensures c.exchanged_bits-second.ensures c.exchanged_bits-third.ensures c.exchanged_bits-fourth.ensures
