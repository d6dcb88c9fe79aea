use Rattle.std.proofs.Common.{take}
use Rattle.kv_memory.specs.Going.{HasGoneOn, seen}
use Rattle.kv_memory.proofs.going.run_calls.Given as goal

abbrev pub invariant-loop-line : goal.invariant-loop-line
invariant-loop-line g l =
    HasGoneOn g.K.Kv.rules_by (seen (g.K.Kv.state l.fn.store) l.fn.journal.entries) (seen (g.K.Kv.state l.store) l.journal.entries)
    (take l.line-index l.lines)
