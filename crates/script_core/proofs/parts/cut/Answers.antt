use Rattle.std.proofs.Common.{sym, ◌∙◌}
use Rattle.script_core.proofs.Splits.{slice_split-is_some, slice_split-is_none}
use Rattle.script_core.proofs.parts.cut.Goals as goal

pub returns-in-Some : goal.returns-in-Some
returns-in-Some c = slice_split-is_some _ c.args.bytes.now c.in-Some.end (sym c.find.ensures ∙ c.in-Some.is)

pub returns-in-None : goal.returns-in-None
returns-in-None c = slice_split-is_none _ c.args.bytes.now (sym c.find.ensures ∙ c.in-None.is)
