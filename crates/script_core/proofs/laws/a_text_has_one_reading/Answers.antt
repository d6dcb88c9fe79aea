use Rattle.script_core.proofs.Texts.{one_script}
use Rattle.script_core.proofs.laws.a_text_has_one_reading.Goals as goal

pub returns : goal.returns
returns c = one_script
