-- A set is begun at the end of a log.
use Rattle.std.proofs.Common.{◌≡◌, ℕ, ◌+◌, ◌-◌, ◌<◌, ◌≤◌, List, [], length, refl, sym, ◌∙◌, subst, arith}
use Rattle.std.specs.Prelude.{IsTrue, Option}
use Rattle.std.specs.Option.{ForSome}
use Rattle.base_core.specs.Sizes.{record_size}
use Rattle.flash_core.specs.declared.geometry.Geometry.{Geometry}
use Rattle.flash_core.specs.Images.{IsErased}
use Rattle.flash_core.specs.Sizes.{IsValid}
use Rattle.flash_core.specs.State.{FlashState}
use Rattle.flash_core.proofs.ImageLaws.{IsErased-within}
use Rattle.record_core.specs.Cuts.{IsInArea}
use Rattle.area_log.specs.Areas.{end_of}
use Rattle.inc_set.specs.declared.open_set.OpenSet.{OpenSet as Writer}
use Rattle.inc_set.specs.Sets.{Holds, opened}
use Rattle.ram_table.specs.declared.table.Place.{Place}
use Rattle.tdb_read.specs.Reads.{IsFound, IsLocated}
use Rattle.tdb_read.specs.Views.{HasOnlyRead, IsReady, LogPart, LogView, area_in}
use Rattle.tdb_write.specs.Changes.{KeepsPlaces}
use Rattle.tdb_write.specs.Writing.{FitsBehind, IsWriting}
use Rattle.tdb_write.proofs.FeedLemmas.{number_of_two, view}
use Rattle.tdb_write.proofs.StayLemmas.{located_still, with_tail}

-- a place that was found stands over reads
pub found_since : (old new : LogView) (key : List ℕ) (place : Place) → HasOnlyRead old new → IsFound old key place → IsFound new key place
found_since old new key place reads found = record {
  inside = subst (λ (l : LogPart). place.at ≤ length l.table.entries) (sym reads.log) found.inside;
  there = λ is. subst (λ (l : LogPart). place.at < length l.table.entries) (sym reads.log) (found.there is);
  located = λ image told. subst (λ (h : Geometry). IsLocated h image new.log key place) (sym reads.device.geometry)
      (subst (λ (l : LogPart). IsLocated old.device.geometry image l key place) (sym reads.log) (found.located image (sym reads.device.image ∙ told)));
}

module _ (device : FlashState) (log : LogPart) (ready : IsReady (view device log)) (unit : List ℕ) (unit_is : length unit ≡ length log.unit) where
  abbrev later : LogPart
  later = with_tail log log.is_clean unit

  -- another buffer of one unit changes nothing
  pub unit_ready : IsReady (view device (with_tail log log.is_clean unit))
  unit_ready = record {
    safe = record {
      valid = ready.safe.valid;
      hash_bits = ready.safe.hash_bits;
      active = ready.safe.active;
      end = ready.safe.end;
      within = ready.safe.within;
      room = ready.safe.room;
      work = ready.safe.work;
      unit = unit_is ∙ ready.safe.unit;
    };
    stands = λ image told. let is = ready.stands image told in
        record { first = is.first; second = is.second; active = is.active; version = is.version; holds = is.holds; table = is.table; clean = is.clean };
  }

  pub unit_places : KeepsPlaces (view device log) (view device (with_tail log log.is_clean unit))
  unit_places key place found = record {
    inside = found.inside;
    there = found.there;
    located = λ image told. let is = ready.stands image told in
        located_still device.geometry ready.safe.valid image log is image is.holds log.is_clean unit ready.safe unit_ready.safe (unit_ready.stands image told) key place found.inside found.there (found.located image told);
  }

  module _ (clean : IsTrue log.is_clean) (key : List ℕ) (flags size : ℕ) (room : FitsBehind (view device log) (record_size device.geometry.prog (length key) size)) (set : Writer) (set_is : set ≡ opened key flags size log.end)
      (holds : (g : Geometry) (told : Option (List ℕ)) (area : ℕ) → IsValid g → length log.unit ≡ g.prog → IsInArea g area log.end (record_size g.prog (length key) size)
      → ForSome told (λ image. IsErased image log.end (record_size g.prog (length key) size)) → Holds g told unit set []) where
    erased_behind : ForSome device.image (λ image. IsErased image log.end (end_of (area_in device.geometry log) - log.end))
    erased_behind image told = (ready.stands image told).clean.0 clean

    holds_none : Holds device.geometry device.image unit (opened key flags size log.end) []
    holds_none = subst (λ (s : Writer). Holds device.geometry device.image unit s []) set_is
        (holds device.geometry device.image log.active ready.safe.valid ready.safe.unit
        (record { number = number_of_two log.active ready.safe.active; from = ready.safe.end.inside.from; to = room })
        (λ image told. IsErased-within image log.end (end_of (area_in device.geometry log) - log.end) log.end (record_size device.geometry.prog (length key) size) (erased_behind image told) (omega arith) (omega (arith, room))))

    pub begun_writing : IsWriting (view device (with_tail log log.is_clean unit)) set []
    begun_writing = subst (λ (s : Writer). IsWriting (view device later) s []) (sym set_is) (record {
      at_end = record {
        at_end = refl;
        inside = room;
        placed = holds_none.placed;
        ahead = holds_none.ahead;
        behind = λ image told.
            let n : ℕ = record_size device.geometry.prog (length key) size in
            let limit : ℕ = end_of (area_in device.geometry log) in
            IsErased-within image log.end (limit - log.end) (log.end + n) (limit - (log.end + n)) (erased_behind image told) (omega arith) (omega (arith, room));
        clean = clean;
      };
      holds = holds_none;
    })
