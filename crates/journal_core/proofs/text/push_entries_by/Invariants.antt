use Rattle.std.proofs.Common.{◌≡◌, ◌++◌, take}
use Rattle.journal_core.specs.Clients.{entries_by}
use Rattle.journal_core.specs.Texts.{text_of}
use Rattle.journal_core.proofs.text.push_entries_by.Given as goal

-- the lines of the client's entries so far stand behind what was there
abbrev pub invariant-loop-entry : goal.invariant-loop-entry
invariant-loop-entry l = l.text.items ≡ l.fn.text.items ++ text_of (entries_by l.who (take l.entry-index l.entries))
