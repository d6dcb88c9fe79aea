use Rattle.aes_lanes.proofs.Slicing.{HasBits-unsliced}
use Rattle.aes_lanes.proofs.ctr.pads_of.Goals as goal

pub returns : goal.returns
returns c key n h keys =
    HasBits-unsliced _ _ (record { turned = c.transposed.ensures }) n h _ (c.encrypt_eight.ensures key _ n h keys (c.sliced_counters.ensures n h))
