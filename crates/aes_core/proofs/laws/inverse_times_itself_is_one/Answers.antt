use Rattle.aes_core.proofs.Inverses.{product-inverse}
use Rattle.aes_core.proofs.laws.inverse_times_itself_is_one.Goals as goal

pub returns : goal.returns
returns c = product-inverse
