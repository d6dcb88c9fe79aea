-- What was begun can still be finished after a read.
use Rattle.std.proofs.Common.{◌≡◌, ℕ, ◌+◌, ◌-◌, ◌<◌, ◌≤◌, ◌||◌, Bool, true, false, not, nat_lt, List, length, sym, subst}
use Rattle.std.specs.Prelude.{MatchBool, Option, Some, None}
use Rattle.std.specs.Option.{ForSome}
use Rattle.std.specs.FinMap.{get}
use Rattle.base_core.specs.Sizes.{record_size}
use Rattle.flash_core.specs.declared.geometry.Geometry.{Geometry}
use Rattle.flash_core.specs.Images.{IsErased}
use Rattle.kv_model.specs.FlaggedMap.{FlaggedMap}
use Rattle.kv_model.specs.StoreState.{Iterators}
use Rattle.area_log.specs.Areas.{end_of}
use Rattle.inc_set.specs.declared.open_set.OpenSet.{OpenSet as Writer}
use Rattle.inc_set.specs.Sets.{Holds, IsAhead, IsPlaced, set_size}
use Rattle.ram_table.specs.declared.table.Place.{Place}
use Rattle.tdb_read.specs.Reads.{HasAt, IsFound, IsLocated, map_in, offset_in}
use Rattle.tdb_read.specs.Views.{HasRead, IsLogOf, IsSafe, LogPart, LogView, area_in}
use Rattle.tdb_write.specs.Changes.{IsReserved}
use Rattle.tdb_write.specs.Copying.{IsCopyOf, IsPrepared, completed, completed_image, without}
use Rattle.tdb_write.specs.Writing.{IsAtEnd, IsWriting, is_unprogrammed}
use Rattle.plain_store.specs.Begun.{IsBegun, IsBegunBy, IsReadied, IsSetBegun, must_collect}
use Rattle.plain_store.specs.declared.active.ActiveSet.{ActiveSet}
use Rattle.plain_store.specs.declared.active.Begun.{Begun}
use Rattle.plain_store.specs.declared.active.Begun.TheVariants.{Remove, Set}

-- ---- with other iterators

module _ (g : Geometry) (image : List ℕ) (log : LogPart) (its : Iterators) where
  abbrev with_its : LogPart
  with_its = record log { iterators = its }

  map_with : (key : List ℕ) (place : Place) (b : Bool) → MatchBool b (HasAt g image log key (offset_in log place.at)) (get (map_in g log image) key ≡ None)
      → MatchBool b (HasAt g image with_its key (offset_in log place.at)) (get (map_in g log image) key ≡ None)
  map_with key place true is = record { stored = is.stored; present = is.present; kept = is.kept }
  map_with key place false is = is

  located_with : (key : List ℕ) (place : Place) → IsLocated g image log key place → IsLocated g image with_its key place
  located_with key place is = record { place_is = is.place_is; map_is = map_with key place place.found is.map_is }

  log_with : (end : ℕ) → IsLogOf g (completed_image g log image) (completed log end) → IsLogOf g (completed_image g log image) (completed with_its end)
  log_with end is = record {
    first = is.first;
    second = is.second;
    active = is.active;
    version = is.version;
    holds = is.holds;
    table = is.table;
    clean = is.clean;
  }

  copy_with : (end : ℕ) (m : FlaggedMap) → IsCopyOf g image log end m → IsCopyOf g image with_its end m
  copy_with end m is = record { log_of = log_with end is.log_of; live = is.live; blank = is.blank }

safe_with : (g : Geometry) (log : LogPart) (its : Iterators) (end : ℕ) → IsSafe g (completed log end) → IsSafe g (completed (record log { iterators = its }) end)
safe_with g log its end safe = record {
  valid = safe.valid;
  hash_bits = safe.hash_bits;
  active = safe.active;
  end = safe.end;
  within = safe.within;
  room = safe.room;
  work = safe.work;
  unit = safe.unit;
}

-- ---- after a read

module _ (old new : LogView) (read : HasRead old new) where
  abbrev kept : LogPart
  kept = record old.log { iterators = new.log.iterators }

  along : (P : Geometry → Option (List ℕ) → LogPart → Type 0) → P old.device.geometry old.device.image kept → P new.device.geometry new.device.image new.log
  along P is = subst (λ (l : LogPart). P new.device.geometry new.device.image l) (sym read.log)
      (subst (λ (o : Option (List ℕ)). P new.device.geometry o kept) (sym read.device.image)
      (subst (λ (g : Geometry). P g old.device.image kept) (sym read.device.geometry) is))

  pub still_at_end : (set : Writer) → IsAtEnd old set → IsAtEnd new set
  still_at_end set is = record {
    at_end = along (λ g o l. set.at ≡ l.end) is.at_end;
    inside = along (λ g o l. set.at + set_size g.prog set ≤ end_of (area_in g l)) is.inside;
    placed = along (λ g o l. IsPlaced g l.unit set) is.placed;
    ahead = along (λ g o l. ForSome o (λ image. IsAhead g image set)) is.ahead;
    behind = along (λ g o l. ForSome o (λ image. IsErased image (set.at + set_size g.prog set) (end_of (area_in g l) - (set.at + set_size g.prog set)))) is.behind;
    clean = along (λ g o l. l.is_clean ≡ is_unprogrammed g.prog (length set.key) set.fed) is.clean;
  }

  pub still_writing : (set : Writer) (bytes : List ℕ) → IsWriting old set bytes → IsWriting new set bytes
  still_writing set bytes is = record { at_end = still_at_end set is.at_end; holds = along (λ g o l. Holds g o l.unit set bytes) is.holds }

  pub still_found : (key : List ℕ) (place : Place) → IsFound old key place → IsFound new key place
  still_found key place is = record {
    inside = along (λ g o l. place.at ≤ length l.table.entries) is.inside;
    there = along (λ g o l. place.found ≡ true → place.at < length l.table.entries) is.there;
    located = along (λ g o l. ForSome o (λ image. IsLocated g image l key place))
        (λ image told. located_with old.device.geometry image old.log new.log.iterators key place (is.located image told));
  }

  still_reserved : IsReserved old.log → IsReserved new.log
  still_reserved is = record {
    table = along (λ g o l. 1 ≤ l.table.spare) is.table;
    spare = along (λ g o l. length l.table.entries + 1 ≤ length l.spare.entries + l.spare.spare) is.spare;
  }

  still_prepared : (end : ℕ) (key : List ℕ) → IsPrepared old end key → IsPrepared new end key
  still_prepared end key is = record {
    safe = along (λ g o l. IsSafe g (completed l end)) (safe_with old.device.geometry old.log new.log.iterators end is.safe);
    copy = along (λ g o l. ForSome o (λ image. IsCopyOf g image l end (without key (map_in g l image))))
        (λ image told. copy_with old.device.geometry image old.log new.log.iterators end (without key (map_in old.device.geometry old.log image)) (is.copy image told));
  }

  still_collects : (key : List ℕ) (b : Bool) → must_collect old key ≡ b → must_collect new key ≡ b
  still_collects key b is = along (λ g o l. (not l.is_clean || nat_lt (end_of (area_in g l)) (l.end + record_size g.prog (length key) 0)) ≡ b) is

  set_begun : (set : Writer) (place : Place) (fed : List ℕ) → IsSetBegun old set place fed → IsSetBegun new set place fed
  set_begun set place fed is = record {
    writing = still_writing set fed is.writing;
    flags = is.flags;
    found = still_found set.key place is.found;
    reserved = still_reserved is.reserved;
  }

  readied : (key : List ℕ) (copied : Option ℕ) → IsReadied old key copied → IsReadied new key copied
  readied key None is = still_collects key false is
  readied key (Some end) is = (still_collects key true is.0, still_prepared end key is.1)

  begun_by : (begun : Begun) → IsBegunBy old begun → IsBegunBy new begun
  begun_by (Set set place fed) is = set_begun set place fed.bytes is
  begun_by (Remove key place copied) is =
      record { valid = is.valid; found = still_found key place is.found; there = is.there; readied = readied key copied is.readied }

  pub still_begun : (active : Option ActiveSet) → ForSome active (IsBegun old) → ForSome active (IsBegun new)
  still_begun active is = λ a a_is. begun_by a.begun (is a a_is)
