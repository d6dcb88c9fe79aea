use Rattle.std.proofs.Common.{arith}
use Rattle.std.proofs.lemmas.Grind.{common_steps}
use Rattle.journal_core.specs.Clients.{entries_by}
use Rattle.journal_core.specs.Texts.{text_of}
use Rattle.journal_core.proofs.ClientLemmas.{flat_map-next}
use Rattle.journal_core.proofs.journal.Journal.by_client.Goals as goal

pub loop-who-preserved : goal.loop-who-preserved
loop-who-preserved c = grind (arith, common_steps, flat_map-next (λ who. text_of (entries_by who c.self.inside.entries.items)) c.loop-who.who)
