use Rattle.std.proofs.Common.{◌≡◌, ◌++◌, map, take}
use Rattle.script_core.specs.Reading.{behind}
use Rattle.script_core.proofs.print.append.Given as goal

abbrev pub invariant-loop-word : goal.invariant-loop-word
invariant-loop-word l = l.text.items ≡ l.initial.text.items ++ behind l.separator (map (λ word. word.now) (take l.word-index l.words))
