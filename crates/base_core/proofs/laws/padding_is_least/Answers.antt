use Rattle.base_core.proofs.UnitLemmas.{up-ge, up-least, up-multiple}
use Rattle.base_core.proofs.laws.padding_is_least.Goals as goal

pub returns : goal.returns
returns c = record { not_less = up-ge; multiple = up-multiple; least = up-least }
