-- A copy of all live records of a log, whatever it ended with.
use Rattle.std.proofs.Common.{◌≡◌, ◌⊎◌, ℕ, ◌+◌, ◌-◌, ◌<◌, ◌≤◌, List, length, refl, sym, ◌∙◌, ap, subst, arith}
use Rattle.std.specs.Prelude.{Option, Some, Result, Ok, Err, IfErr, IfOk}
use Rattle.std.specs.Option.{ForSome}
use Rattle.flash_core.specs.declared.geometry.Geometry.{Geometry}
use Rattle.flash_core.specs.Runs.{Done, Ending, RunsBy}
use Rattle.flash_core.specs.State.{FlashState, IsLawful}
use Rattle.kv_model.specs.declared.error.KvError.{KvError}
use Rattle.kv_model.specs.FlaggedMap.{FlaggedMap}
use Rattle.kv_model.specs.Sizes.{used}
use Rattle.kv_model.specs.Write.{Write}
use Rattle.record_core.specs.Endings.{kv_ended}
use Rattle.record_core.specs.Renewal.{FillsArea}
use Rattle.area_log.specs.declared.area.Area.{Area}
use Rattle.area_log.specs.Areas.{IsAreaOf, first_place}
use Rattle.area_collect.specs.Collection.{CanCopy, HasCopied, copy_of, number_of}
use Rattle.area_collect.specs.Copies.{Copy, IsNotCopied}
use Rattle.area_collect.specs.Payload.{IsFault}
use Rattle.ram_table.specs.declared.table.Entry.{Entry}
use Rattle.ram_table.specs.declared.table.Place.{Place}
use Rattle.ram_table.specs.Table.{KeepsRoom, TableState}
use Rattle.tdb_mount.specs.Keys.{keys_in}
use Rattle.tdb_mount.specs.Room.{HasRoomFor, area_of}
use Rattle.tdb_read.specs.Reads.{IsFound, map_in}
use Rattle.tdb_read.specs.Views.{IsReady, LogPart, LogView, area_in}
use Rattle.kv_model.specs.LogStep.{SameButOther}
use Rattle.tdb_write.specs.Changes.{Changes, IsCopyRefusal, unchanged}
use Rattle.tdb_write.specs.Copying.{CanComplete, IsFoundCopied, IsPreparedFor}
use Rattle.tdb_write.proofs.CopiedLemmas.{can_copy, copying, other}
use Rattle.tdb_write.proofs.FillLemmas.{filled}
use Rattle.tdb_write.proofs.LiveLemmas.{AreLiveEntries, live_of}
use Rattle.tdb_write.proofs.PreparedLemmas.{can_complete, places_copied, prepared, same_count}
use Rattle.tdb_write.proofs.RefusalLemmas.{copy_refused}

-- What a copy of these entries' records gives: the log as it was, the copies, and why it was refused.
pub record HasFilled (old : LogView) (device : FlashState) (spare : TableState) (es : List Entry) (result : Result ℕ KvError) : Type 0 where
  pub runs : RunsBy old.device device (FillsArea old.device.geometry (number_of (other old.device.geometry old.log))) (kv_ended result)
  pub cause : IfErr result (λ e. IsFault e ⊎ IsNotCopied old.device (copying old.device.geometry old.log es) (first_place old.device.geometry (other old.device.geometry old.log)) e)
  pub told : ForSome old.device.image (λ image. (records : List Write) → CanCopy old.device.geometry image (copying old.device.geometry old.log es) records → IfErr result IsFault)
  pub copied : IfOk result (λ end. HasCopied old.device device (copying old.device.geometry old.log es) (record { end = end; entries = spare.entries }) (λ image. image))
  pub room : HasRoomFor spare old.log.table

-- the same, where the areas are those that were asked for
pub has_filled : (old : LogView) (device : FlashState) (spare : TableState) (es : List Entry) (result : Result ℕ KvError) (from to : Area) → from ≡ area_in old.device.geometry old.log → to ≡ other old.device.geometry old.log
    → RunsBy old.device device (FillsArea old.device.geometry (number_of to)) (kv_ended result)
    → IfErr result (λ e. IsFault e ⊎ IsNotCopied old.device (copy_of from to es) (first_place old.device.geometry to) e)
    → ForSome old.device.image (λ image. (records : List Write) → CanCopy old.device.geometry image (copy_of from to es) records → IfErr result IsFault)
    → IfOk result (λ end. HasCopied old.device device (copy_of from to es) (record { end = end; entries = spare.entries }) (λ image. image))
    → IsReady old → KeepsRoom old.log.spare spare → HasFilled old device spare es result
has_filled old device spare es result from to from_is to_is runs cause told copied ready room = record {
  runs = subst (λ (t : Area). RunsBy old.device device (FillsArea old.device.geometry (number_of t)) (kv_ended result)) to_is runs;
  cause = subst (λ (f : Area). IfErr result (λ e. IsFault e ⊎ IsNotCopied old.device (copy_of f (other old.device.geometry old.log) es) (first_place old.device.geometry (other old.device.geometry old.log)) e)) from_is
      (subst (λ (t : Area). IfErr result (λ e. IsFault e ⊎ IsNotCopied old.device (copy_of from t es) (first_place old.device.geometry t) e)) to_is cause);
  told = subst (λ (f : Area). ForSome old.device.image (λ image. (records : List Write) → CanCopy old.device.geometry image (copy_of f (other old.device.geometry old.log) es) records → IfErr result IsFault)) from_is
      (subst (λ (t : Area). ForSome old.device.image (λ image. (records : List Write) → CanCopy old.device.geometry image (copy_of from t es) records → IfErr result IsFault)) to_is told);
  copied = subst (λ (f : Area). IfOk result (λ end. HasCopied old.device device (copy_of f (other old.device.geometry old.log) es) (record { end = end; entries = spare.entries }) (λ image. image))) from_is
      (subst (λ (t : Area). IfOk result (λ end. HasCopied old.device device (copy_of from t es) (record { end = end; entries = spare.entries }) (λ image. image))) to_is copied);
  room = omega (arith, room, ready.safe.room);
}

module _ {old : LogView} (lawful : IsLawful old.device) (ready : IsReady old) (is_area : IsAreaOf old.device.geometry (other old.device.geometry old.log)) {device : FlashState} (spare : TableState) (work : ℕ) (work_is : work ≡ old.log.work) where
  pub fill_changes : (es : List Entry) (result : Result ℕ KvError) → HasFilled old device spare es result → Changes old (record { device = device; log = record old.log { spare = spare; work = work } }) unchanged SameButOther (kv_ended result)
  fill_changes es result fill =
      subst (λ (w : ℕ). Changes old (record { device = device; log = record old.log { spare = spare; work = w } }) unchanged SameButOther (kv_ended result)) (sym work_is)
      (filled lawful ready spare fill.room (other old.device.geometry old.log) refl is_area fill.runs)

  module _ (es : List Entry) (after : FlaggedMap → FlaggedMap) (fewer : length es ≤ length old.log.table.entries)
      (live : (image : List ℕ) → old.device.image ≡ Some image → AreLiveEntries old.device.geometry.prog old.log.hash_bits image old.log.end (keys_in old.device.geometry (area_in old.device.geometry old.log) image)
      (after (map_in old.device.geometry old.log image)) es)
      (less : (image : List ℕ) → old.device.image ≡ Some image → used old.device.geometry.prog (after (map_in old.device.geometry old.log image)) ≤ used old.device.geometry.prog (map_in old.device.geometry old.log image)) where
    pub fill_refused : (result : Result ℕ KvError) → HasFilled old device spare es result → IfErr result (IsCopyRefusal old.device device)
    fill_refused result fill = copy_refused old.device device (FillsArea old.device.geometry (number_of (other old.device.geometry old.log))) (copying old.device.geometry old.log es) (first_place old.device.geometry (other old.device.geometry old.log))
        result (λ image told. (
          live_of old.device.geometry.prog image es,
          can_copy old.device.geometry image old.log ready.safe (ready.stands image told) (lawful.sized image told) es (keys_in old.device.geometry (area_in old.device.geometry old.log) image) (after (map_in old.device.geometry old.log image)) (live image told) (less image told),
        )) fill.told fill.runs fill.cause

    pub fill_prepared : (result : Result ℕ KvError) → HasFilled old device spare es result → IfOk result (λ end. IsPreparedFor (record { device = device; log = record old.log { spare = spare; work = work } }) end after)
    fill_prepared (Err e) fill = tt
    fill_prepared (Ok end) fill =
        subst (λ (w : ℕ). IsPreparedFor (record { device = device; log = record old.log { spare = spare; work = w } }) end after) (sym work_is)
        (prepared lawful ready spare es end after fill.room is_area fill.runs fill.copied fewer live less)

    pub fill_can : (result : Result ℕ KvError) → HasFilled old device spare es result → IfOk result (λ end. CanComplete (record { device = device; log = record old.log { spare = spare; work = work } }) end)
    fill_can (Err e) fill = tt
    fill_can (Ok end) fill = can_complete (record { device = device; log = record old.log { spare = spare; work = work } }) end after (fill_prepared (Ok end) fill)

  pub fill_count : (result : Result ℕ KvError) → HasFilled old device spare old.log.table.entries result → IfOk result (λ end. length spare.entries ≡ length old.log.table.entries)
  fill_count (Err e) fill = tt
  fill_count (Ok end) fill = same_count lawful ready spare end fill.room is_area fill.runs fill.copied

  pub fill_places : (result : Result ℕ KvError) → HasFilled old device spare old.log.table.entries result
      → IfOk result (λ end. (key : List ℕ) (place : Place) → IsFound old key place → IsFoundCopied (record { device = device; log = record old.log { spare = spare; work = work } }) end key place)
  fill_places (Err e) fill = tt
  fill_places (Ok end) fill = λ key place found.
      subst (λ (w : ℕ). IsFoundCopied (record { device = device; log = record old.log { spare = spare; work = w } }) end key place) (sym work_is)
      (places_copied lawful ready spare end fill.room is_area fill.runs fill.copied key place found)
