use Rattle.std.proofs.Common.{arith}
use Rattle.aes_lanes.proofs.Exchange.{exchanged}
use Rattle.aes_lanes.proofs.packing.exchanged_pairs.Goals as goal

pub returns : goal.returns
returns c =
    exchanged 1 (omega arith) c.args.low c.args.high (record { long = c.fits-low.0; fits = c.fits-low.1 }) (record { long = c.fits-high.0; fits = c.fits-high.1 })
