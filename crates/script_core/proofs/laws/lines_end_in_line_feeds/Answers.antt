use Rattle.script_core.proofs.Splits.{slice_split-joined}
use Rattle.script_core.proofs.laws.lines_end_in_line_feeds.Goals as goal

pub returns : goal.returns
returns c = slice_split-joined 10
