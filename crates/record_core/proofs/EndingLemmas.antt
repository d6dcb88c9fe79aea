-- A store's error that is handed on ends a call as it ended the inner one.
use Rattle.std.proofs.Common.{◌≡◌, List, ℕ, sym, subst}
use Rattle.std.specs.Prelude.{Option, Result, Ok, Err, IsErrAnd}
use Rattle.flash_core.specs.Runs.{RunsBy}
use Rattle.flash_core.specs.State.{DeviceCall, FlashState}
use Rattle.kv_model.specs.declared.error.KvError.{KvError}
use Rattle.record_core.specs.Endings.{kv_ended, kv_ending}

pub handed_error : {T : Type 0} {old new : FlashState} {R : List ℕ → Option DeviceCall → List ℕ → Type 0} (result : Result T KvError) (e : KvError) → IsErrAnd result (λ x. x ≡ e) → RunsBy old new R (kv_ending e) → RunsBy old new R (kv_ended result)
handed_error (Ok x) e is runs = absurd is
handed_error {T} {old} {new} {R} (Err x) e is runs = subst (λ (k : KvError). RunsBy old new R (kv_ending k)) (sym is) runs
