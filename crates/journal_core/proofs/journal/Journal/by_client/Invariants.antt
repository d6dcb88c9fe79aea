use Rattle.std.proofs.Common.{◌≡◌}
use Rattle.std.specs.List.{flat_map, range_with_len}
use Rattle.journal_core.specs.Clients.{entries_by}
use Rattle.journal_core.specs.Texts.{text_of}
use Rattle.journal_core.proofs.journal.Journal.by_client.Given as goal

-- the lines of the clients so far
abbrev pub invariant-loop-who : goal.invariant-loop-who
invariant-loop-who l = l.text.items ≡ flat_map (λ who. text_of (entries_by who l.self-inside.entries.items)) (range_with_len 0 l.who)
