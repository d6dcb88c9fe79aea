use denote.Param.Send.{sendable}
use Rattle.session_core.proofs.AreaLemmas.{same_areas}
use Rattle.serve_core.proofs.PowerLemmas.{shows_power}
use Rattle.serve_core.proofs.SendLemmas.{session_send}
use Rattle.serve_core.proofs.serving.serve.Goals as goal

pub serve_store-requires-send-K : goal.serve_store-requires-send-K
serve_store-requires-send-K g c κs within = search (sendable, session_send) depth 8

pub returns-clause-power : goal.returns-clause-power
returns-clause-power g c = shows_power c.args.session c.serve_store.result.0 c.serve_store.result.1.journal.entries c.serve_store.ensures.stands

pub returns-clause-areas : goal.returns-clause-areas
returns-clause-areas g c = same_areas c.args.session c.serve_store.result.0 c.serve_store.ensures.stands.constants
