use Rattle.std.proofs.Common.{◌≡◌, ◌≤◌, take}
use Rattle.serve_core.specs.Clients.{lines_by}
use Rattle.serve_core.proofs.crew.count_of.Given as goal

abbrev pub invariant-loop-line : goal.invariant-loop-line
invariant-loop-line l = (l.count ≡ lines_by l.who (take l.line-index l.lines)) × (l.count ≤ l.line-index)
