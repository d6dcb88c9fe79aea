-- A remove that is done at once.
use Rattle.std.proofs.Common.{◌≡◌, ℕ, ◌+◌, ◌||◌, Bool, not, nat_lt, List, [], length, sym, ◌∙◌, subst}
use Rattle.std.specs.Prelude.{MatchBool, Option, Some, None, is_some}
use Rattle.std.specs.FinMap as map
use Rattle.base_core.specs.Sizes.{record_size}
use Rattle.flash_core.specs.Runs.{Ending}
use Rattle.kv_model.specs.LogStep.{IsCollected, LogSteps, SameButOther, appended, removal}
use Rattle.kv_model.specs.Opening.{Log}
use Rattle.kv_model.specs.Operations.{Remove as RemoveCall, RemoveStart}
use Rattle.area_log.specs.Areas.{end_of}
use Rattle.ram_table.specs.declared.table.Place.{Place}
use Rattle.tdb_read.specs.States.{constants_of, log_in, state_in}
use Rattle.tdb_read.specs.Views.{HasOnlyRead, IsReady, LogPart, LogView, area_in}
use Rattle.tdb_write.specs.Changes.{Changes}
use Rattle.tdb_write.specs.Copying.{IsRenewed, without}
use Rattle.tdb_write.specs.Writing.{IsAppended}
use Rattle.tdb_write.proofs.CollectedLemmas.{step_more}
use Rattle.plain_store.specs.Begun.{must_collect}
use Rattle.plain_store.specs.Removing.{Readies, RemovesFrom}
use Rattle.plain_store.specs.Steps.{FinishesTo, finished_by}
use Rattle.plain_store.specs.declared.active.Begun.TheVariants.{Remove}
use Rattle.plain_store.proofs.PartLemmas.{collects_by_end}

-- the finish of a remove that was readied, said of the log before that
pub finished_found : (old mid new : LogView) (owner : ℕ) (key : List ℕ) (place : Place) (copied : Option ℕ) (ending : Ending) → is_some copied ≡ must_collect old key
    → mid.log.hash_bits ≡ old.log.hash_bits
    → Changes mid new (finished_by (record { owner = owner; begun = Remove key place copied })) (FinishesTo mid (Remove key place copied)) ending
    → Changes mid new (without key) (RemovesFrom old key) ending
finished_found old mid new owner key place None ending exact bits changes =
    step_more mid new (IsAppended (removal key)) (RemovesFrom old key) (without key) ending
    (λ a b is. subst (λ (c : Bool). MatchBool c (IsRenewed old.log.hash_bits (without key) a b) (IsAppended (removal key) a b)) exact is) changes
finished_found old mid new owner key place (Some end) ending exact bits changes =
    step_more mid new (IsRenewed mid.log.hash_bits (without key)) (RemovesFrom old key) (without key) ending
    (λ a b is. subst (λ (c : Bool). MatchBool c (IsRenewed old.log.hash_bits (without key) a b) (IsAppended (removal key) a b)) exact
    (subst (λ (n : ℕ). IsRenewed n (without key) a b) bits is)) changes

-- what it does to the log is what the rules say
module _ (old mid : LogView) (ready : IsReady old) (read : HasOnlyRead old mid) (key : List ℕ) (image : List ℕ) (told : old.device.image ≡ Some image) (l : Log) where
  abbrev now : Log
  now = log_in old.device.geometry old.log image

  same_test : must_collect mid key ≡ must_collect old key
  same_test = λ i. not (read.log i).is_clean
      || nat_lt (end_of (area_in (read.device.geometry i) (read.log i))) ((read.log i).end + record_size (read.device.geometry i).prog (length key) 0)

  pub remove_follows : RemovesFrom mid key (log_in old.device.geometry old.log image) l
      → LogSteps (constants_of old.device.geometry old.log) (state_in old.device.geometry old.log None image) (log_in old.device.geometry old.log image) l (RemoveCall key)
  remove_follows step = subst (λ (b : Bool). MatchBool b (IsCollected old.log.hash_bits (map.remove (state_in old.device.geometry old.log None image).primary key) [] now l) (l ≡ appended now (removal key)))
      (same_test ∙ sym (collects_by_end old ready image told key 0))
      (subst (λ (p : LogPart). MatchBool (must_collect mid key) (IsRenewed p.hash_bits (without key) now l) (IsAppended (removal key) now l)) read.log step)

  -- of one that is begun
  pub ready_follows : Readies mid key (log_in old.device.geometry old.log image) l
      → LogSteps (constants_of old.device.geometry old.log) (state_in old.device.geometry old.log None image) (log_in old.device.geometry old.log image) l (RemoveStart key)
  ready_follows step = subst (λ (b : Bool). MatchBool b (SameButOther now l) (l ≡ now)) (same_test ∙ sym (collects_by_end old ready image told key 0)) step
