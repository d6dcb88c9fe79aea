use Rattle.aes_lanes.proofs.Layers.{IsLayer-halves}
use Rattle.aes_lanes.proofs.packing.layer_of_halves.Goals as goal

pub returns : goal.returns
returns c = IsLayer-halves c.args.q _ c.exchanged_halves-first.ensures c.exchanged_halves-second.ensures c.exchanged_halves-third.ensures c.exchanged_halves-fourth.ensures
