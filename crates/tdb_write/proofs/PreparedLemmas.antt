-- Copies of a log's live records, made in the area that isn't active, want only a master record to be the log.
use Rattle.std.proofs.Common.{◌≡◌, ◌⊎◌, ℕ, suc, ◌+◌, ◌-◌, ◌%◌, ◌^◌, ◌<◌, ◌≤◌, true, List, [], ◌∷◌, length, inl, inr, refl, sym, ◌∙◌, ap, subst, arith}
use Rattle.std.specs.Prelude.{IsTrue, Option, Some}
use Rattle.std.specs.Option.{ForSome}
use Rattle.flash_core.specs.declared.geometry.Geometry.{Geometry}
use Rattle.flash_core.specs.Runs.{Done, RunsBy}
use Rattle.flash_core.specs.State.{FlashState, IsLawful}
use Rattle.flash_core.proofs.KeptLaws.{told_before}
use Rattle.kv_model.specs.FlaggedMap.{FlaggedMap}
use Rattle.kv_model.specs.Sizes.{used}
use Rattle.kv_model.specs.Write.{Write, map_of}
use Rattle.record_core.specs.Log.{extent}
use Rattle.record_core.specs.Renewal.{FillsArea}
use Rattle.area_log.specs.declared.area.Area.{Area}
use Rattle.area_log.specs.Areas.{IsAreaOf, IsEnd, first_place}
use Rattle.area_collect.specs.Copies.{AreRead, Copied, moved}
use Rattle.area_collect.specs.Collection.{HasCopied, copy_of, number_of}
use Rattle.ram_table.specs.declared.table.Entry.{Entry}
use Rattle.ram_table.specs.declared.table.Place.{Place}
use Rattle.ram_table.specs.Table.{TableState}
use Rattle.tdb_mount.specs.Keys.{keys_in}
use Rattle.tdb_mount.specs.Room.{HasRoomFor, area_of}
use Rattle.ram_table.specs.Find.{key_at}
use Rattle.tdb_read.specs.Reads.{IsFound, IsLocated, map_in}
use Rattle.tdb_read.specs.Views.{IsLogOf, IsReady, IsSafe, LogPart, LogView, area_in, records_in}
use Rattle.tdb_read.proofs.TableLemmas.{located}
use Rattle.tdb_write.specs.Changes.{unchanged}
use Rattle.tdb_write.specs.Copying.{CanComplete, IsCopyOf, IsFoundCopied, IsPreparedFor, completed, completed_image}
use Rattle.tdb_write.proofs.CopiedLemmas.{can_copy, copied, copies_end, copying, live_copy, moved_keys, other, whole}
use Rattle.tdb_write.proofs.EntryLemmas.{log_entries}
use Rattle.tdb_write.proofs.FillLemmas.{records_left}
use Rattle.tdb_write.proofs.LiveLemmas.{AreLiveEntries, live_of}
use Rattle.tdb_write.proofs.StayLemmas.{place_stays}

list_is : (a b : List ℕ) → Some a ≡ Some b → a ≡ b
list_is a b same = cc

-- a copy can be completed, whatever map it is of
pub can_complete : (v : LogView) (end : ℕ) (after : FlaggedMap → FlaggedMap) → IsPreparedFor v end after → CanComplete v end
can_complete v end after prepared = record { safe = prepared.safe; blank = λ image told. (prepared.copy image told).blank }

-- ---- as many entries as before, or fewer

pub moved_most : (prog place : ℕ) (es : List Entry) (rs : List Write) → length (moved prog place es rs) ≤ length es
moved_most prog place [] rs = omega arith
moved_most prog place (e ∷ es) [] = omega arith
moved_most prog place (e ∷ es) (r ∷ rs) = omega (arith, moved_most prog (place + extent prog r) es rs)

module _ {old : LogView} (lawful : IsLawful old.device) (ready : IsReady old) {device : FlashState} (spare : TableState) (es : List Entry) (end : ℕ) (after : FlaggedMap → FlaggedMap)
    (room : HasRoomFor spare old.log.table) (is_area : IsAreaOf old.device.geometry (other old.device.geometry old.log))
    (runs : RunsBy old.device device (FillsArea old.device.geometry (number_of (other old.device.geometry old.log))) Done)
    (done : HasCopied old.device device (copying old.device.geometry old.log es) (record { end = end; entries = spare.entries }) (λ image. image))
    (fewer : length es ≤ length old.log.table.entries)
    (live : (image : List ℕ) → old.device.image ≡ Some image → AreLiveEntries old.device.geometry.prog old.log.hash_bits image old.log.end (keys_in old.device.geometry (area_in old.device.geometry old.log) image)
    (after (map_in old.device.geometry old.log image)) es)
    (less : (image : List ℕ) → old.device.image ≡ Some image → used old.device.geometry.prog (after (map_in old.device.geometry old.log image)) ≤ used old.device.geometry.prog (map_in old.device.geometry old.log image)) where
  g : Geometry
  g = old.device.geometry

  abbrev pub copied_log : LogPart
  copied_log = record old.log { spare = spare }

  abbrev pub copied_view : LogView
  copied_view = record { device = device; log = record old.log { spare = spare } }

  safe_next : IsSafe old.device.geometry (completed (record old.log { spare = spare }) end)
  safe_next = record {
    valid = ready.safe.valid;
    hash_bits = ready.safe.hash_bits;
    active = omega arith;
    end = done.end;
    within = λ i lt. let range = done.places i lt in (range.from, range.to);
    room = omega (arith, ap length done.entries_are, moved_most old.device.geometry.prog (first_place old.device.geometry (other old.device.geometry old.log)) es done.records, fewer);
    work = ready.safe.work;
    unit = ready.safe.unit;
  }

  module _ (image : List ℕ) (told : old.device.image ≡ Some image) (left : List ℕ) (told_left : device.image ≡ Some left) where
    abbrev rs : List Write
    rs = live_of old.device.geometry.prog image es

    these : done.records ≡ live_of old.device.geometry.prog image es
    these = done.these image told (live_of old.device.geometry.prog image es)
        (can_copy old.device.geometry image old.log ready.safe (ready.stands image told) (lawful.sized image told) es (keys_in old.device.geometry (area_in old.device.geometry old.log) image)
        (after (map_in old.device.geometry old.log image)) (live image told) (less image told))

    left_is : left ≡ copied old.device.geometry old.log image (live_of old.device.geometry.prog image es)
    left_is = list_is left (copied old.device.geometry old.log image (live_of old.device.geometry.prog image es))
        (sym told_left ∙ done.written image told ∙ ap (λ (l : List Write). Some (copied old.device.geometry old.log image l)) these)

    end_is : end ≡ copies_end old.device.geometry old.log (live_of old.device.geometry.prog image es)
    end_is = done.end_is ∙ ap (copies_end old.device.geometry old.log) these

    spare_is : spare.entries ≡ moved old.device.geometry.prog (first_place old.device.geometry (other old.device.geometry old.log)) es (live_of old.device.geometry.prog image es)
    spare_is = done.entries_are ∙ ap (moved old.device.geometry.prog (first_place old.device.geometry (other old.device.geometry old.log)) es) these

    was_copy : IsCopyOf old.device.geometry (copied old.device.geometry old.log image (live_of old.device.geometry.prog image es)) (record old.log { spare = spare })
        (copies_end old.device.geometry old.log (live_of old.device.geometry.prog image es)) (after (map_in old.device.geometry old.log image))
    was_copy = live_copy old.device.geometry image old.log ready.safe (ready.stands image told) (lawful.sized image told) es (keys_in old.device.geometry (area_in old.device.geometry old.log) image)
        (after (map_in old.device.geometry old.log image)) (live image told) (less image told) spare spare_is

    map_stays : map_in old.device.geometry old.log image ≡ map_in old.device.geometry (record old.log { spare = spare }) left
    map_stays = sym (ap map_of (records_left lawful ready spare room (other old.device.geometry old.log) refl is_area runs image left told (runs.stands image told left told_left)))

    copy_left : IsCopyOf old.device.geometry left (record old.log { spare = spare }) end (after (map_in old.device.geometry (record old.log { spare = spare }) left))
    copy_left =
        subst (λ (m : FlaggedMap). IsCopyOf old.device.geometry left (record old.log { spare = spare }) end (after m)) map_stays
        (subst (λ (n : ℕ). IsCopyOf old.device.geometry left (record old.log { spare = spare }) n (after (map_in old.device.geometry old.log image))) (sym end_is)
        (subst (λ (l : List ℕ). IsCopyOf old.device.geometry l (record old.log { spare = spare }) (copies_end old.device.geometry old.log (live_of old.device.geometry.prog image es)) (after (map_in old.device.geometry old.log image))) (sym left_is) was_copy))

  pub prepared : IsPreparedFor copied_view end after
  prepared = record {
    safe = subst (λ (x : Geometry). IsSafe x (completed (record old.log { spare = spare }) end)) (sym runs.kept.geometry) safe_next;
    copy = λ left told_left.
        let was = told_before runs.kept told_left in
        subst (λ (x : Geometry). IsCopyOf x left (record old.log { spare = spare }) end (after (map_in x (record old.log { spare = spare }) left))) (sym runs.kept.geometry)
        (copy_left was.0 was.1 left told_left);
  }

-- ---- where keys stand in a copy of all entries

read_long : (s : FlashState) (from to : Area) (prog place end : ℕ) (es : List Entry) (rs : List Write) → AreRead s (copy_of from to []).route end es rs → length (moved prog place es rs) ≡ length es
read_long s from to prog place end [] rs read = refl
read_long s from to prog place end (e ∷ es) [] read = absurd read
read_long s from to prog place end (e ∷ es) (r ∷ rs) read = ap suc (read_long s from to prog (place + extent prog r) (end + extent s.geometry.prog r) es rs read.1)

module _ {old : LogView} (lawful : IsLawful old.device) (ready : IsReady old) {device : FlashState} (spare : TableState) (end : ℕ)
    (room : HasRoomFor spare old.log.table) (is_area : IsAreaOf old.device.geometry (other old.device.geometry old.log))
    (runs : RunsBy old.device device (FillsArea old.device.geometry (number_of (other old.device.geometry old.log))) Done)
    (done : HasCopied old.device device (copying old.device.geometry old.log old.log.table.entries) (record { end = end; entries = spare.entries }) (λ image. image)) where
  pub same_count : length spare.entries ≡ length old.log.table.entries
  same_count = ap length done.entries_are
      ∙ read_long old.device (area_in old.device.geometry old.log) (other old.device.geometry old.log) old.device.geometry.prog (first_place old.device.geometry (other old.device.geometry old.log))
      (first_place old.device.geometry (other old.device.geometry old.log)) old.log.table.entries done.records done.read

  live_all : (image : List ℕ) → old.device.image ≡ Some image → AreLiveEntries old.device.geometry.prog old.log.hash_bits image old.log.end (keys_in old.device.geometry (area_in old.device.geometry old.log) image)
      (map_in old.device.geometry old.log image) old.log.table.entries
  live_all image told = log_entries old.device.geometry image old.log ready.safe (ready.stands image told)

  pub prepared_all : IsPreparedFor (record { device = device; log = record old.log { spare = spare } }) end unchanged
  prepared_all = prepared lawful ready spare old.log.table.entries end unchanged room is_area runs done (omega arith) live_all (λ image told. omega arith)

  module _ (image : List ℕ) (told : old.device.image ≡ Some image) (left : List ℕ) (told_left : device.image ≡ Some left) (key : List ℕ) (place : Place) (found : IsFound old key place) where
    abbrev ls : List Write
    ls = live_of old.device.geometry.prog image old.log.table.entries

    same_keys : (i : ℕ) → i < length old.log.table.entries
        → key_at (keys_in old.device.geometry (other old.device.geometry old.log) (completed_image old.device.geometry (record old.log { spare = spare }) left)) spare.entries i
        ≡ key_at (keys_in old.device.geometry (area_in old.device.geometry old.log) image) old.log.table.entries i
    same_keys i lt =
        let g : Geometry = old.device.geometry in
        let left_here = left_is lawful ready spare old.log.table.entries end unchanged room is_area runs done (omega arith) live_all (λ image told. omega arith) image told left told_left in
        let spare_here = spare_is lawful ready spare old.log.table.entries end unchanged room is_area runs done (omega arith) live_all (λ image told. omega arith) image told left told_left in
        ap (λ (l : List ℕ). key_at (keys_in g (other g old.log) (completed_image g (record old.log { spare = spare }) l)) spare.entries i) left_here
        ∙ ap (λ (l : List Entry). key_at (keys_in g (other g old.log) (whole g old.log image ls)) l i) spare_here
        ∙ moved_keys g image old.log ready.safe (ready.stands image told) (lawful.sized image told) old.log.table.entries (keys_in g (area_in g old.log) image) (map_in g old.log image) (live_all image told) (omega arith) i lt

    located_copied : IsLocated old.device.geometry (completed_image old.device.geometry (record old.log { spare = spare }) left) (completed (record old.log { spare = spare }) end) key place
    located_copied =
        let g : Geometry = old.device.geometry in
        let log : LogPart = record old.log { spare = spare } in
        let copy = copy_left lawful ready spare old.log.table.entries end unchanged room is_area runs done (omega arith) live_all (λ image told. omega arith) image told left told_left in
        let safe = safe_next lawful ready spare old.log.table.entries end unchanged room is_area runs done (omega arith) live_all (λ image told. omega arith) in
        located g (completed log end) (completed_image g log left) safe copy.log_of key place
        (place_stays old.log.hash_bits (keys_in g (area_in g old.log) image) old.log.table.entries (keys_in g (other g old.log) (completed_image g log left)) spare.entries key place same_count
        same_keys found.inside found.there (found.located image told).place_is)
        (λ is. omega (arith, found.there is, same_count))

  pub places_copied : (key : List ℕ) (place : Place) → IsFound old key place → IsFoundCopied (record { device = device; log = record old.log { spare = spare } }) end key place
  places_copied key place found = record {
    inside = omega (arith, found.inside, same_count);
    there = λ is. omega (arith, found.there is, same_count);
    located = λ left told_left.
        let was = told_before runs.kept told_left in
        subst (λ (x : Geometry). IsLocated x (completed_image x (record old.log { spare = spare }) left) (completed (record old.log { spare = spare }) end) key place) (sym runs.kept.geometry)
        (located_copied was.0 was.1 left told_left key place found);
  }
