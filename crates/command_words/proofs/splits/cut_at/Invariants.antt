use Rattle.std.proofs.Common.{◌≡◌, ◌++◌, take, drop}
use Rattle.command_words.specs.Splits.{before, behind}
use Rattle.command_words.proofs.splits.cut_at.Given as goal

-- no separator stood so far
abbrev pub invariant-loop-at : goal.invariant-loop-at
invariant-loop-at l = record {
  front : before l.separator l.word ≡ take l.at l.word ++ before l.separator (drop l.at l.word);
  back : behind l.separator l.word ≡ behind l.separator (drop l.at l.word);
}
