-- Copies of all live records but one, and of none.
use Rattle.std.proofs.Common.{◌≡◌, ◌⊎◌, ℕ, ◌+◌, ◌-◌, ◌<◌, ◌≤◌, true, List, [], ◌∷◌, length, inl, inr, refl, sym, ◌∙◌, ap, subst, arith}
use Rattle.std.specs.Prelude.{Option, Some, Result, Ok, Err, IfErr, IfOk, OnOk}
use Rattle.std.specs.FinMap as map
use Rattle.std.specs.List.{remove}
use Rattle.std.specs.Option.{ForSome}
use Rattle.std.proofs.lemmas.List.Edits.{length-remove}
use Rattle.flash_core.specs.declared.geometry.Geometry.{Geometry}
use Rattle.flash_core.specs.Erases.{erased_from}
use Rattle.flash_core.specs.Runs.{RunsBy}
use Rattle.flash_core.specs.Sizes.{area_size}
use Rattle.flash_core.specs.State.{FlashState, IsLawful}
use Rattle.flash_core.proofs.ImageLaws.{put-nil}
use Rattle.kv_model.specs.declared.error.KvError.{KvError}
use Rattle.kv_model.specs.declared.error.KvError.TheVariants.{WriteFault}
use Rattle.kv_model.specs.FlaggedMap.{FlaggedMap}
use Rattle.kv_model.specs.Sizes.{used}
use Rattle.kv_model.specs.Write.{Write}
use Rattle.kv_model.proofs.UsedLemmas.{used-empty, used-remove_at_most}
use Rattle.record_core.specs.Endings.{kv_ended}
use Rattle.record_core.specs.Renewal.{FillsArea}
use Rattle.area_log.specs.declared.area.Area.{Area}
use Rattle.area_log.specs.Areas.{IsAreaOf, IsEnd, end_of, first_place}
use Rattle.area_log.proofs.ScanLemmas.{walk_begins}
use Rattle.area_collect.specs.Collection.{HasCopied, StandAt, number_of}
use Rattle.ram_table.specs.declared.table.Entry.{Entry}
use Rattle.ram_table.specs.declared.table.Place.{Place}
use Rattle.ram_table.specs.Find.{key_at}
use Rattle.ram_table.specs.Table.{KeepsRoom, TableState}
use Rattle.tdb_mount.specs.Keys.{keys_in}
use Rattle.tdb_read.specs.Reads.{map_in}
use Rattle.tdb_read.specs.Views.{IsReady, LogPart, LogView, area_in}
use Rattle.tdb_write.specs.Changes.{IsCopyRefusal}
use Rattle.tdb_write.specs.Copying.{CanComplete, IsFoundAt, IsPrepared, IsPreparedFor, emptied, without}
use Rattle.tdb_write.proofs.AllCopiedLemmas.{HasFilled, fill_can, fill_prepared}
use Rattle.tdb_write.proofs.CopiedLemmas.{can_copy, copying, other}
use Rattle.tdb_write.proofs.EntryLemmas.{log_entries, no_entries, without_entry}
use Rattle.tdb_write.proofs.LiveLemmas.{AreLiveEntries, live_of}
use Rattle.tdb_write.proofs.RefusalLemmas.{copy_refused}

-- ---- all but one

module _ {old : LogView} (ready : IsReady old) (at : ℕ) (inside : at < length old.log.table.entries) where
  live_left : (image : List ℕ) → old.device.image ≡ Some image → AreLiveEntries old.device.geometry.prog old.log.hash_bits image old.log.end (keys_in old.device.geometry (area_in old.device.geometry old.log) image)
      (map.remove (map_in old.device.geometry old.log image) (key_at (keys_in old.device.geometry (area_in old.device.geometry old.log) image) old.log.table.entries at)) (remove old.log.table.entries at)
  live_left image told = without_entry old.device.geometry.prog old.log.hash_bits image old.log.end (keys_in old.device.geometry (area_in old.device.geometry old.log) image) (map_in old.device.geometry old.log image) old.log.table.entries
      (log_entries old.device.geometry image old.log ready.safe (ready.stands image told)) at inside

module _ {old : LogView} (lawful : IsLawful old.device) (ready : IsReady old) (is_area : IsAreaOf old.device.geometry (other old.device.geometry old.log)) {device : FlashState} (spare : TableState) (at : ℕ) (inside : at < length old.log.table.entries) where
  pub left_refused : (result : Result ℕ KvError) → HasFilled old device spare (remove old.log.table.entries at) result → IfErr result (IsCopyRefusal old.device device)
  left_refused result fill = copy_refused old.device device (FillsArea old.device.geometry (number_of (other old.device.geometry old.log))) (copying old.device.geometry old.log (remove old.log.table.entries at)) (first_place old.device.geometry (other old.device.geometry old.log))
      result (λ image told. (
        live_of old.device.geometry.prog image (remove old.log.table.entries at),
        can_copy old.device.geometry image old.log ready.safe (ready.stands image told) (lawful.sized image told) (remove old.log.table.entries at) (keys_in old.device.geometry (area_in old.device.geometry old.log) image)
            (map.remove (map_in old.device.geometry old.log image) (key_at (keys_in old.device.geometry (area_in old.device.geometry old.log) image) old.log.table.entries at)) (live_left ready at inside image told)
            (used-remove_at_most old.device.geometry.prog (map_in old.device.geometry old.log image) _),
      )) fill.told fill.runs fill.cause

  pub left_prepared : (work : ℕ) → work ≡ old.log.work → (result : Result ℕ KvError) → HasFilled old device spare (remove old.log.table.entries at) result → (key : List ℕ) (place : Place) → IsFoundAt old key place at
      → IfOk result (λ end. IsPrepared (record { device = device; log = record old.log { spare = spare; work = work } }) end key)
  left_prepared work work_is result fill key place is =
      fill_prepared lawful ready is_area spare work work_is (remove old.log.table.entries at) (without key) (omega (arith, length-remove old.log.table.entries at inside))
      (λ image told.
      let keys = keys_in old.device.geometry (area_in old.device.geometry old.log) image in
      let here : key_at keys old.log.table.entries at ≡ key = ap (key_at keys old.log.table.entries) (sym is.at_is) ∙ (is.found.located image told).place_is.here is.there in
      subst (λ (k : List ℕ). AreLiveEntries old.device.geometry.prog old.log.hash_bits image old.log.end keys (map.remove (map_in old.device.geometry old.log image) k) (remove old.log.table.entries at)) here (live_left ready at inside image told))
      (λ image told. used-remove_at_most old.device.geometry.prog (map_in old.device.geometry old.log image) key)
      result fill

-- ---- none

none_stand : (prog : ℕ) (image : List ℕ) (end : ℕ) (rs : List Write) → StandAt prog image end [] rs → rs ≡ []
none_stand prog image end [] stand = refl
none_stand prog image end (r ∷ rs) stand = absurd stand

module _ {old : LogView} (lawful : IsLawful old.device) (ready : IsReady old) (is_area : IsAreaOf old.device.geometry (other old.device.geometry old.log)) {device : FlashState} (spare : TableState) (empty : spare.entries ≡ []) where
  no_copies : (end : ℕ) → end ≡ first_place old.device.geometry (other old.device.geometry old.log)
      → ForSome old.device.image (λ image. device.image ≡ Some (erased_from image (other old.device.geometry old.log).base (area_size old.device.geometry)))
      → HasCopied old.device device (copying old.device.geometry old.log []) (record { end = end; entries = spare.entries }) (λ image. image)
  no_copies end is erased = record {
    records = [];
    read = tt;
    these = λ image told standing can. sym (none_stand old.device.geometry.prog image (end_of (area_in old.device.geometry old.log)) standing can.stand);
    end_is = is;
    end = subst (λ (n : ℕ). IsEnd old.device.geometry (other old.device.geometry old.log) n) (sym is) (walk_begins old.device.geometry (other old.device.geometry old.log) ready.safe.valid is_area);
    entries_are = empty;
    places = λ i lt. absurd (omega (arith, lt, ap length empty));
    written = λ image told. erased image told ∙ ap Some (sym (put-nil (erased_from image (other old.device.geometry old.log).base (area_size old.device.geometry)) (first_place old.device.geometry (other old.device.geometry old.log))));
  }

  pub none_filled : (result : Result ℕ KvError) → RunsBy old.device device (FillsArea old.device.geometry (number_of (other old.device.geometry old.log))) (kv_ended result) → IfErr result (λ e. e ≡ WriteFault)
      → IfOk result (λ place. place ≡ first_place old.device.geometry (other old.device.geometry old.log))
      → ForSome old.device.image (λ image. OnOk result (device.image ≡ Some (erased_from image (other old.device.geometry old.log).base (area_size old.device.geometry))))
      → KeepsRoom old.log.spare spare → HasFilled old device spare [] result
  none_filled (Err e) runs fault place erased room = record { runs = runs; cause = inl (inr fault); told = λ image told records can. inr fault; copied = tt; room = omega (arith, room, ready.safe.room) }
  none_filled (Ok end) runs fault place erased room = record { runs = runs; cause = tt; told = λ image told records can. tt; copied = no_copies end place erased; room = omega (arith, room, ready.safe.room) }

module _ (old : LogView) where
  live_none : (image : List ℕ) → old.device.image ≡ Some image → AreLiveEntries old.device.geometry.prog old.log.hash_bits image old.log.end (keys_in old.device.geometry (area_in old.device.geometry old.log) image) map.empty []
  live_none image told = no_entries old.device.geometry.prog old.log.hash_bits image old.log.end (keys_in old.device.geometry (area_in old.device.geometry old.log) image)

module _ {old : LogView} (lawful : IsLawful old.device) (ready : IsReady old) (is_area : IsAreaOf old.device.geometry (other old.device.geometry old.log)) {device : FlashState} (spare : TableState) (empty : spare.entries ≡ []) where
  pub none_prepared : (result : Result ℕ KvError) → HasFilled old device spare [] result → IfOk result (λ end. IsPreparedFor (record { device = device; log = record old.log { spare = spare } }) end emptied)
  none_prepared result fill = fill_prepared lawful ready is_area spare old.log.work refl [] emptied (omega arith) (live_none old) (λ image told. omega (arith, used-empty old.device.geometry.prog)) result fill

  pub none_can : (result : Result ℕ KvError) → HasFilled old device spare [] result → IfOk result (CanComplete (record { device = device; log = record old.log { spare = spare } }))
  none_can result fill = fill_can lawful ready is_area spare old.log.work refl [] emptied (omega arith) (live_none old) (λ image told. omega (arith, used-empty old.device.geometry.prog)) result fill
