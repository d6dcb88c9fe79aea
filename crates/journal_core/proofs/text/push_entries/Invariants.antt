use Rattle.std.proofs.Common.{◌≡◌, ◌++◌, take}
use Rattle.journal_core.specs.Texts.{text_of}
use Rattle.journal_core.proofs.text.push_entries.Given as goal

-- the lines of the entries so far stand behind what was there
abbrev pub invariant-loop-entry : goal.invariant-loop-entry
invariant-loop-entry l = l.text.items ≡ l.fn.text.items ++ text_of (take l.entry-index l.entries)
