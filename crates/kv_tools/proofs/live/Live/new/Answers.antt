use Rattle.std.proofs.Common.{refl}
use Rattle.kv_tools.proofs.LiveLemmas.{no_keys}
use Rattle.kv_tools.proofs.live.Live.new.Goals as goal

pub returns-clause-none : goal.returns-clause-none
returns-clause-none c prog = no_keys prog _ c.new.ensures.empty refl
