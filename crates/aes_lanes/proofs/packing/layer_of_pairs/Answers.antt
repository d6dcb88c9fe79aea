use Rattle.aes_lanes.proofs.Layers.{IsLayer-pairs}
use Rattle.aes_lanes.proofs.packing.layer_of_pairs.Goals as goal

pub returns : goal.returns
returns c = IsLayer-pairs c.args.q _ c.exchanged_pairs-first.ensures c.exchanged_pairs-second.ensures c.exchanged_pairs-third.ensures c.exchanged_pairs-fourth.ensures
