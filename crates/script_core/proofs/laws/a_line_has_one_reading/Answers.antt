use Rattle.script_core.proofs.Lines.{one_line}
use Rattle.script_core.proofs.laws.a_line_has_one_reading.Goals as goal

pub returns : goal.returns
returns c = one_line
