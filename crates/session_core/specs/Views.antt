-- What contracts see of a session.
use Rattle.std.specs.Prelude.{Bool, is_some}
use Rattle.flash_sim.specs.ChipState.{ChipState}
use Rattle.kv_model.specs.Kv.{KvState}
use Rattle.session_core.specs.declared.session.Session.{Session}
use Rattle.session_core.specs.Backing.{primary_by, state_by}

abbrev pub state_in : Session → KvState
state_in session = state_by session.hash_bits session.store session.chips

-- its primary chip
abbrev pub primary_in : Session → ChipState
primary_in session = primary_by session.store session.chips

-- its last mount found memory
abbrev pub is_mounted : Session → Bool
is_mounted session = is_some session.store
