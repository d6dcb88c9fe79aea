use Rattle.std.proofs.Common.{◌≡◌, ◌+◌, length}
use Rattle.script_core.specs.Grammar.{lines_of}
use Rattle.script_core.specs.Parts.{parts_left}
use Rattle.script_core.specs.Reading.{read_text}
use Rattle.script_core.proofs.LaterEnds.{KnowsEnds}
use Rattle.script_core.proofs.Walk.{Counted}
use Rattle.script_core.proofs.parse.check.Given as goal

-- what is left goes on from as many lines as were counted
abbrev pub invariant-loop-text : goal.invariant-loop-text
invariant-loop-text l = record {
  same : Counted l.mode (l.number + 1) l.count (parts_left l.text-iterator) (read_text l.mode l.bytes);
  count : l.number + length (parts_left l.text-iterator) ≡ length (lines_of l.bytes);
  ends : KnowsEnds l.mode l.ends l.number (parts_left l.text-iterator);
}
