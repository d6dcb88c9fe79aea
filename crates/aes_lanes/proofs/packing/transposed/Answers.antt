use Rattle.aes_lanes.proofs.Layers.{IsLayer-three}
use Rattle.aes_lanes.proofs.packing.transposed.Goals as goal

pub returns : goal.returns
returns c = IsLayer-three c.args.q _ _ _ c.layer_of_halves.ensures c.layer_of_pairs.ensures c.layer_of_bits.ensures
