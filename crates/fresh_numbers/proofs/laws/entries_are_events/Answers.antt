use Rattle.fresh_numbers.proofs.EventLemmas.{entry_is_event}
use Rattle.fresh_numbers.proofs.laws.entries_are_events.Goals as goal

pub returns : goal.returns
returns c = entry_is_event
