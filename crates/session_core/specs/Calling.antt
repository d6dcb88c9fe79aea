-- What a call of a session does beside what a call of each store does.
use Rattle.std.specs.Prelude.{◌≡◌, false, Result, Err}
use Rattle.kv_model.specs.declared.error.KvError.{KvError}
use Rattle.kv_model.specs.declared.error.KvError.TheVariants.{Stopped}
use Rattle.kv_model.specs.Kv.{Answered, Answers}
use Rattle.session_core.specs.declared.session.Session.{Session}
use Rattle.session_core.specs.Backing.{session_rules}
use Rattle.session_core.specs.Views.{is_mounted, state_in}

-- it is one of its store
abbrev pub CallsBy : Session → Session → Answered → Type 0
CallsBy old new call = Answers session_rules (state_in old) (state_in new) call

-- the refusal of each call while it is not mounted
abbrev pub IsStoppedBy : {T : Type 0} → Session → Result T KvError → Type 0
IsStoppedBy session result = is_mounted session ≡ false → result ≡ Err Stopped
