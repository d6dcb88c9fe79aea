-- Two calls that write, one after the other.
use Rattle.std.proofs.Common.{◌≡◌, ℕ, List, inl, ⊎_elim, sym, ◌∙◌, subst}
use Rattle.std.specs.Prelude.{Option, Result, Ok, Err, IsErrAnd}
use Rattle.flash_core.specs.declared.geometry.Geometry.{Geometry}
use Rattle.flash_core.specs.Runs.{Ending, Done, WriteFailed, RunsBy}
use Rattle.flash_core.specs.State.{DeviceCall}
use Rattle.flash_core.proofs.RunLaws.{runs_then, runs_weakened}
use Rattle.kv_model.specs.FlaggedMap.{FlaggedMap}
use Rattle.kv_model.specs.Opening.{Log}
use Rattle.kv_model.specs.declared.error.KvError.{KvError}
use Rattle.kv_model.specs.declared.error.KvError.TheVariants.{WriteFault}
use Rattle.record_core.specs.CutMoments.{CutStrictly, MountsToOne}
use Rattle.record_core.specs.Endings.{kv_ended}
use Rattle.record_core.proofs.RenewalCuts.{cut_weakened}
use Rattle.tdb_read.specs.Reads.{map_in}
use Rattle.tdb_read.specs.Views.{LogView}
use Rattle.tdb_write.specs.Changes.{Changes, KeepsCallers, LeavesOneOf, unchanged}

-- what callers keep, over two calls
pub callers_then : (a b c : LogView) → KeepsCallers a.log b.log → KeepsCallers b.log c.log → KeepsCallers a.log c.log
callers_then a b c first second = record { hash_bits = second.hash_bits ∙ first.hash_bits; iterators = second.iterators ∙ first.iterators }

-- what is left where the map stays is one of any two of which the first is this map
stays_one : (v : LogView) (after : FlaggedMap → FlaggedMap) (image : List ℕ) (call : Option DeviceCall) (now : List ℕ) → LeavesOneOf v unchanged image call now → LeavesOneOf v after image call now
stays_one v after image call now cut =
    let m : FlaggedMap = map_in v.device.geometry v.log image in
    cut_weakened v.device.geometry (MountsToOne v.device.geometry m m) (MountsToOne v.device.geometry m (after m)) (λ left is. ⊎_elim (λ mounts. inl mounts) (λ mounts. inl mounts) is) call now cut

-- A call that leaves the map, and then one that changes it: at each moment a power cut leaves the map before both, or
-- what the second makes of it.
pub changes_then : (a b c : LogView) (after : FlaggedMap → FlaggedMap) (First Second : Log → Log → Type 0) (ending : Ending) → Changes a b unchanged First Done → Changes b c after Second ending
    → RunsBy a.device c.device (LeavesOneOf a after) ending
changes_then a b c after First Second ending first second =
    runs_then (runs_weakened (LeavesOneOf a after) (λ image told call now cut. stays_one a after image call now cut) first.runs) second.runs
    (λ image now told told_now was call left cut.
    subst (λ (m : FlaggedMap). CutStrictly a.device.geometry (MountsToOne a.device.geometry m (after m)) call left) (first.map_is image told now told_now)
    (subst (λ (g : Geometry). CutStrictly g (MountsToOne g (map_in g b.log now) (after (map_in g b.log now))) call left) first.runs.kept.geometry cut))

-- a refusal for a write that failed, handed on
pub handed_fault : {T : Type 0} (P : Ending → Type 0) (result : Result T KvError) (e : KvError) → IsErrAnd result (λ x. x ≡ e) → e ≡ WriteFault → P WriteFailed → P (kv_ended result)
handed_fault P (Ok x) e same fault failed = absurd (same)
handed_fault {T} P (Err x) e same fault failed = subst (λ (y : KvError). P (kv_ended {T = T} (Err y))) (sym (same ∙ fault)) failed
