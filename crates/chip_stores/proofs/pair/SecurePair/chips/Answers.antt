use Rattle.chip_stores.proofs.PairLemmas.{told_maps}
use Rattle.chip_stores.proofs.pair.SecurePair.chips.Goals as goal

pub returns-clause-told : goal.returns-clause-told
returns-clause-told c = told_maps c.args.self.now
