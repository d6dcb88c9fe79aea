use Rattle.std.proofs.Common.{◌≡◌, take}
use Rattle.journal_core.specs.Clients.{positions_of}
use Rattle.journal_core.proofs.journal.Journal.of_client.Given as goal

-- the positions of the client's entries so far
abbrev pub invariant-loop-i : goal.invariant-loop-i
invariant-loop-i l = l.positions.items ≡ positions_of l.who (take l.i l.entry-items)
