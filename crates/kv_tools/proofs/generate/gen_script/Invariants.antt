use Rattle.std.proofs.Common.{◌≡◌, ◌++◌, ◌+◌, ◌-◌}
use Rattle.kv_tools.specs.Generating.{generated, lines_from}
use Rattle.kv_tools.proofs.generate.gen_script.Given as goal

abbrev pub invariant-loop-place : goal.invariant-loop-place
invariant-loop-place l =
    l.lines.items ++ lines_from l.fn.clients l.place l.draws.number (l.fn.calls + 1 - l.place) ≡ generated l.fn.seed l.fn.clients l.fn.calls
