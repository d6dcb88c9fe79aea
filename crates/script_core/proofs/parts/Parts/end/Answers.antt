use Rattle.script_core.proofs.Splits.{not_empty, end_at-is_none}
use Rattle.script_core.proofs.parts.Parts.end.Goals as goal

pub returns-in-Some : goal.returns-in-Some
returns-in-Some c = rw c.in-Some.is (end_at-is_none _ (not_empty _ c.in-Some.field-0.now))
