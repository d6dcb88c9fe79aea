use Rattle.kv_tools.proofs.OneTextLemmas.{one_check, one_text}
use Rattle.kv_tools.proofs.laws.texts_are_one.Goals as goal

pub returns : goal.returns
returns c = record { check = λ g image a b positive. one_check g positive image a b; lines = one_text }
