use Rattle.aes_lanes.proofs.Slicing.{HasBlock-sliced, register-same}
use Rattle.aes_lanes.proofs.rounds.sliced_key.Goals as goal

pub returns : goal.returns
returns c place p =
    HasBlock-sliced _ _ (record { turned = c.transposed.ensures }) place p c.args.round_key.now (register-same _ place p) c.told-round_key (λ n h. c.fits-round_key n)
