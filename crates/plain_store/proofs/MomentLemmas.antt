-- What each moment of a call leaves, from what its parts did to the log.
use Rattle.std.proofs.Common.{◌≡◌, ◌⊎◌, ℕ, true, List, inl, inr, sym, ◌∙◌, ap, subst}
use Rattle.std.specs.Prelude.{Option, Some, None, is_some}
use Rattle.std.specs.Option.{ForSome}
use mathlib.Core.Bool.{false≢true}
use Rattle.flash_core.specs.declared.geometry.Geometry.{Geometry}
use Rattle.flash_core.specs.Calls.{OnlyReads}
use Rattle.flash_core.specs.Moments.{FailedInside}
use Rattle.flash_core.specs.Runs.{Ending, IfFailed, WriteFailed}
use Rattle.flash_core.specs.State.{DeviceCall}
use Rattle.flash_core.proofs.MomentLaws.{failed_weakened, joined, only_reads, weakened}
use Rattle.kv_model.specs.FlaggedMap.{FlaggedMap}
use Rattle.kv_model.specs.Opening.{Log}
use Rattle.kv_model.specs.Operations.{Operation}
use Rattle.kv_model.specs.PlainStep.{plain_step}
use Rattle.kv_model.specs.StoreState.{StoreState}
use Rattle.record_core.specs.CutMoments.{CutStrictly, MountsToOne}
use Rattle.record_core.specs.Mounts.{Mounts}
use Rattle.record_core.proofs.RenewalCuts.{cut_weakened}
use Rattle.tdb_read.specs.Reads.{map_in}
use Rattle.tdb_read.specs.States.{constants_of, state_in}
use Rattle.tdb_read.specs.Views.{HasOnlyRead, LogPart, LogView}
use Rattle.tdb_write.specs.Changes.{Changes, LeavesOneOf}
use Rattle.plain_store.specs.Moments.{CutsStrictly, LeavesStep}
use Rattle.plain_store.specs.Sets.{set_in}
use Rattle.plain_store.specs.Stores.{StoreView}
use Rattle.plain_store.specs.declared.active.ActiveSet.{ActiveSet}
use Rattle.plain_store.proofs.StoreLemmas.{view_at}

-- nothing was written
pub unwritten : (old new : StoreView) (who : ℕ) (operation : Operation) → OnlyReads old.log.device new.log.device → new.note ≡ None → CutsStrictly old new who operation
unwritten old new who operation only runs = record {
  adds = λ image told. only_reads (LeavesStep old who operation image) only;
  failed = λ stopped. absurd (false≢true (sym (ap is_some runs) ∙ stopped));
}

one_more : (g : Geometry) (u v w : FlaggedMap) (left : List ℕ) → (v ≡ u) ⊎ (v ≡ w) → MountsToOne g u v left → MountsToOne g u w left
one_more g u v w left step (inl first) = inl first
one_more g u v w left (inl none) (inr second) = inl (subst (Mounts g left) none second)
one_more g u v w left (inr to) (inr second) = inr (subst (Mounts g left) to second)

module _ (old mid new : LogView) (read : HasOnlyRead old mid) (after : FlaggedMap → FlaggedMap) (Step : Log → Log → Type 0) (ending : Ending) (changes : Changes mid new after Step ending)
    (active : Option ActiveSet) (note : Option StoreState) (who : ℕ) (operation : Operation) where
  abbrev before : List ℕ → StoreState
  before image = state_in old.device.geometry old.log (set_in active) image

  abbrev stepped : List ℕ → FlaggedMap
  stepped image = (plain_step (constants_of old.device.geometry old.log) (before image) who operation).state.primary

  module _ (step : (image : List ℕ) → old.device.image ≡ Some image → (after (before image).primary ≡ (before image).primary) ⊎ (after (before image).primary ≡ stepped image)) where
    leaves : (image : List ℕ) → old.device.image ≡ Some image → (call : Option DeviceCall) (left : List ℕ) → LeavesOneOf mid after image call left → LeavesStep (view_at old active note) who operation image call left
    leaves image told call left is =
        cut_weakened old.device.geometry (MountsToOne old.device.geometry (map_in old.device.geometry old.log image) (after (map_in old.device.geometry old.log image)))
        (MountsToOne old.device.geometry (before image).primary (stepped image))
        (λ c. one_more old.device.geometry (before image).primary (after (before image).primary) (stepped image) c (step image told)) call left
        (subst (λ (l : LogPart). CutStrictly old.device.geometry (MountsToOne old.device.geometry (map_in old.device.geometry l image) (after (map_in old.device.geometry l image))) call left) read.log
        (subst (λ (x : Geometry). CutStrictly x (MountsToOne x (map_in x mid.log image) (after (map_in x mid.log image))) call left) read.device.geometry is))

    -- reads, and then writes
    pub written : (next : Option ActiveSet) (later : Option StoreState) → (is_some later ≡ true → ending ≡ WriteFailed) → CutsStrictly (view_at old active note) (view_at new next later) who operation
    written next later fails = record {
      adds = λ image told.
          joined (only_reads (LeavesStep (view_at old active note) who operation image) read.device)
          (weakened (LeavesStep (view_at old active note) who operation image) (leaves image told) (changes.runs.adds image (read.device.image ∙ told)));
      failed = λ stopped image told left now.
          failed_weakened (LeavesStep (view_at old active note) who operation image) (leaves image told)
          (subst (λ (e : Ending). IfFailed e (ForSome new.device.image (FailedInside new.device (LeavesOneOf mid after image)))) (fails stopped)
          (changes.runs.failed image (read.device.image ∙ told)) left now);
    }
