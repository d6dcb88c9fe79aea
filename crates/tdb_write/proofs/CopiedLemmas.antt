-- Copies in the other area, with a master record before them, are the log that is active next.
use Rattle.std.proofs.Common.{◌≡◌, ◌≢◌, ◌⊎◌, ℕ, zero, suc, ◌+◌, ◌-◌, ◌*◌, ◌%◌, ◌^◌, ◌<◌, ◌≤◌, Bool, true, List, [], ◌∷◌, ◌++◌, length, inl, inr, ⊎_elim, refl, sym, ◌∙◌, ap, subst, arith}
use Rattle.std.specs.Prelude.{◌↔◌, All, IsTrue, Option, Some, None}
use Rattle.std.specs.FinMap as map
use Rattle.std.specs.Option.{unwrap_or}
use Rattle.base_core.specs.Sizes.{master_size}
use Rattle.flash_core.specs.declared.geometry.Geometry.{Geometry}
use Rattle.flash_core.specs.Erases.{erased_from}
use Rattle.flash_core.specs.Images.{IsErased}
use Rattle.flash_core.specs.Sizes.{IsValid, area_size, size_of}
use Rattle.flash_core.proofs.EraseLaws.{IsErased-erased}
use Rattle.flash_core.proofs.GeometryLaws.{erase_le_area, prog_positive, size-areas}
use Rattle.flash_core.proofs.ImageLaws.{IsErased-Torn, IsErased-within}
use Rattle.kv_model.specs.Crc.{key_hash}
use Rattle.kv_model.specs.FlaggedMap.{FlaggedMap}
use Rattle.kv_model.specs.LogStep.{AreLive, spent}
use Rattle.kv_model.specs.Sizes.{used}
use Rattle.kv_model.specs.Write.{Write}
use Rattle.record_core.specs.Cuts.{base_of, version_of}
use Rattle.record_core.specs.Log.{AreAllRecords, AreRecords, extent}
use Rattle.record_core.specs.Mounts.{ActiveRecords, Contents, Holds, MasterAt, active_area}
use Rattle.record_core.specs.Record.{IsMaster}
use Rattle.record_core.proofs.LogLemmas.{AreRecords-forward}
use Rattle.record_core.proofs.TornLemmas.{master_at, one_base, zero_base}
use Rattle.area_log.specs.declared.area.Area.{Area}
use Rattle.area_log.specs.Areas.{IsAreaOf, end_of, first_place}
use Rattle.area_log.specs.Listing.{listed}
use Rattle.area_collect.specs.Copies.{Copy, IsRoute, end_behind, moved, spellings}
use Rattle.area_collect.specs.Collection.{CanCopy, copy_of, with_copies, with_master}
use Rattle.area_collect.proofs.EntryLemmas.{end_length}
use Rattle.area_collect.proofs.KeptLemmas.{all_copied_records, copies_torn, other_master, own_master, rest, to_first, to_second}
use Rattle.ram_table.specs.declared.table.Entry.{Entry}
use Rattle.ram_table.specs.Find.{key_at}
use Rattle.ram_table.specs.Reader.{KeyMap}
use Rattle.ram_table.specs.Table.{TableState, entry_at}
use Rattle.tdb_mount.specs.Choice.{version_in}
use Rattle.tdb_mount.specs.Index.{IsTable, places_of}
use Rattle.tdb_mount.specs.Keys.{keys_in}
use Rattle.tdb_mount.specs.Room.{area_of}
use Rattle.tdb_mount.proofs.PlaceLemmas.{tells_record}
use Rattle.tdb_read.specs.Reads.{map_in}
use Rattle.tdb_read.specs.Records.{record_at}
use Rattle.tdb_read.specs.Views.{IsLogOf, IsSafe, LogPart, area_in, records_in}
use Rattle.tdb_read.proofs.RecordLemmas.{records_are}
use Rattle.tdb_read.proofs.TableLemmas.{all_records}
use Rattle.tdb_write.specs.Copying.{IsCopyOf, completed, completed_image}
use Rattle.tdb_write.proofs.FillLemmas.{small_number}
use Rattle.tdb_write.proofs.LiveLemmas.{AreLiveEntries, Each, IsLive, end_spent, first_is, live_are, live_first, live_of, live_rest, live_stand, live_used, records_spent, used_most}
use Rattle.tdb_write.proofs.MovedLemmas.{Fits, Keyed, key_moved, length-moved, moved_table}

-- the area that isn't active, and what it is once it has copies of these records
abbrev pub other : Geometry → LogPart → Area
other g log = area_of g (1 - log.active)

abbrev pub next_version : LogPart → ℕ
next_version log = (log.version + 1) % 2 ^ 16

abbrev pub copied : Geometry → LogPart → List ℕ → List Write → List ℕ
copied g log image rs = with_copies g (area_of g (1 - log.active)) image rs

abbrev pub whole : Geometry → LogPart → List ℕ → List Write → List ℕ
whole g log image rs = with_master g (area_of g (1 - log.active)) ((log.version + 1) % 2 ^ 16) (with_copies g (area_of g (1 - log.active)) image rs)

abbrev pub copies_end : Geometry → LogPart → List Write → ℕ
copies_end g log rs = end_behind g.prog (first_place g (area_of g (1 - log.active))) rs

-- the copy of these entries' records, from the active area to the other
abbrev pub copying : Geometry → LogPart → List Entry → Copy
copying g log es = copy_of (area_of g log.active) (area_of g (1 - log.active)) es

area_is : (g : Geometry) (k : ℕ) → k ≤ 1 → IsAreaOf g (area_of g k)
area_is g zero le = record { base = inl (zero_base g); size = refl }
area_is g (suc zero) le = record { base = inr (one_base g); size = refl }
area_is g (suc (suc k)) le = absurd (omega (arith, le))

-- these areas differ
bases_differ : (g : Geometry) → IsValid g → (k : ℕ) → k ≤ 1 → base_of g k ≢ base_of g (1 - k)
bases_differ g valid zero le same = omega (arith, same, zero_base g, one_base g, erase_le_area g valid, valid.erase_positive)
bases_differ g valid (suc zero) le same = omega (arith, same, zero_base g, one_base g, erase_le_area g valid, valid.erase_positive)
bases_differ g valid (suc (suc k)) le same = omega (arith, le)

pub route_is : (g : Geometry) → IsValid g → (log : LogPart) → log.active ≤ 1 → (es : List Entry) → IsRoute g (copying g log es).route
route_is g valid log le es = record { from = area_is g log.active le; to = area_is g (1 - log.active) (omega arith); apart = bases_differ g valid log.active le }

-- the versions of both areas, and which of them is active
record Masters (g : Geometry) (image : List ℕ) (k version : ℕ) : Type 0 where
  pub first : Option ℕ
  pub second : Option ℕ
  pub first_master : MasterAt g.prog image 0 first
  pub second_master : MasterAt g.prog image (area_size g) second
  pub active : active_area first second ≡ Some k
  pub version_is : version_in first second k ≡ Some version

version_at : (k : ℕ) (c : Contents) (version : ℕ) → k ≤ 1 → version_in c.first c.second k ≡ Some version → version_of k c ≡ Some version
version_at zero c version le is = is
version_at (suc zero) c version le is = is
version_at (suc (suc k)) c version le is = absurd (omega (arith, le))

module _ (g : Geometry) (image : List ℕ) (log : LogPart) (safe : IsSafe g log) (is : IsLogOf g image log) (sized : length image ≡ size_of g) (es : List Entry) (rs : List Write)
    (can : CanCopy g image (copying g log es) rs) where
  valid : IsValid g
  valid = safe.valid

  positive : 1 ≤ g.prog
  positive = prog_positive g safe.valid

  next_fits : next_version log < 2 ^ 16
  next_fits = omega arith

  had : MasterAt g.prog image (base_of g log.active) (Some log.version)
  had =
      let c : Contents = record { first = is.first; second = is.second; records = records_in g log image; end = log.end } in
      subst (MasterAt g.prog image (base_of g log.active)) (version_at log.active c log.version safe.active is.version) (master_at g image c log.active (small_number log.active safe.active) is.holds)

  own_at : (p : ℕ) → base_of g (1 - log.active) ≡ p → MasterAt g.prog (whole g log image rs) p (Some (next_version log))
  own_at p same = subst (λ (q : ℕ). MasterAt g.prog (whole g log image rs) q (Some (next_version log))) same (own_master g valid image sized (copying g log es).route (route_is g valid log safe.active es) (next_version log) next_fits es rs can)

  other_at : (p : ℕ) → base_of g log.active ≡ p → MasterAt g.prog (whole g log image rs) p (Some log.version)
  other_at p same = subst (λ (q : ℕ). MasterAt g.prog (whole g log image rs) q (Some log.version)) same (other_master g valid image sized (copying g log es).route (route_is g valid log safe.active es) (next_version log) next_fits es rs can (Some log.version) had)

  masters_by : (k : ℕ) → log.active ≡ k → k ≤ 1 → Masters g (whole g log image rs) (1 - k) (next_version log)
  masters_by zero at le = record {
    first = Some log.version;
    second = Some (next_version log);
    first_master = other_at 0 (ap (base_of g) at ∙ zero_base g);
    second_master = own_at (area_size g) (ap (λ (n : ℕ). base_of g (1 - n)) at ∙ one_base g);
    active = to_second g valid image sized (copying g log es).route (route_is g valid log safe.active es) (next_version log) next_fits es rs can log.version had.in_range refl;
    version_is = refl;
  }
  masters_by (suc zero) at le = record {
    first = Some (next_version log);
    second = Some log.version;
    first_master = own_at 0 (ap (λ (n : ℕ). base_of g (1 - n)) at ∙ zero_base g);
    second_master = other_at (area_size g) (ap (base_of g) at ∙ one_base g);
    active = to_first g valid image sized (copying g log es).route (route_is g valid log safe.active es) (next_version log) next_fits es rs can log.version had.in_range refl;
    version_is = refl;
  }
  masters_by (suc (suc k)) at le = absurd (omega (arith, le))

  masters : Masters g (whole g log image rs) (1 - log.active) (next_version log)
  masters = masters_by log.active refl safe.active

  all : AreAllRecords g.prog (whole g log image rs) (first_place g (other g log)) (end_of (other g log)) (copies_end g log rs) rs
  all = all_copied_records g valid image sized (copying g log es).route (route_is g valid log safe.active es) (next_version log) next_fits es rs can

  in_device : (k : ℕ) → k ≤ 1 → base_of g k + area_size g ≤ size_of g
  in_device zero le = omega (arith, zero_base g, size-areas g)
  in_device (suc zero) le = omega (arith, one_base g, size-areas g)
  in_device (suc (suc k)) le = absurd (omega (arith, le))

  -- its place of the master record is erased before
  pub copies_blank : IsErased (copied g log image rs) (base_of g (1 - log.active)) (master_size g.prog)
  copies_blank =
      let base : ℕ = base_of g (1 - log.active) in
      let inside : base_of g (1 - log.active) + area_size g ≤ size_of g = in_device (1 - log.active) (omega arith) in
      IsErased-Torn (first_place g (other g log)) (length (spellings g.prog rs)) (erased_from image base (area_size g)) (copied g log image rs) base (master_size g.prog)
      (copies_torn g valid image sized (copying g log es).route (route_is g valid log safe.active es) (next_version log) next_fits es rs can) (inl (omega arith))
      (IsErased-within (erased_from image base (area_size g)) base (area_size g) base (master_size g.prog)
      (IsErased-erased image base (area_size g) (omega (arith, inside, sized))) (omega arith) (omega (arith, valid.master_fits)))

  module _ (spare : TableState) (table : IsTable log.hash_bits (places_of (listed g.prog (first_place g (other g log)) rs)) spare.entries) where
    pub records_now : records_in g (completed (record log { spare = spare }) (copies_end g log rs)) (whole g log image rs) ≡ rs
    records_now = records_are g.prog positive (whole g log image rs) (first_place g (other g log)) (copies_end g log rs) rs all.each

    -- a master record before the copies makes them the log
    pub log_now : IsLogOf g (whole g log image rs) (completed (record log { spare = spare }) (copies_end g log rs))
    log_now = record {
      first = masters.first;
      second = masters.second;
      active = masters.active;
      version = masters.version_is;
      holds = subst (λ (l : List Write). Holds g (whole g log image rs) (record { first = masters.first; second = masters.second; records = l; end = copies_end g log rs })) (sym records_now) (record {
        first_master = masters.first_master;
        second_master = masters.second_master;
        active = subst (λ (o : Option ℕ). ActiveRecords g (whole g log image rs) o (copies_end g log rs) rs) (sym masters.active) all;
      });
      table = subst (λ (l : List Write). IsTable log.hash_bits (places_of (listed g.prog (first_place g (other g log)) l)) spare.entries) (sym records_now) table;
      clean = (λ clean. rest g valid image sized (copying g log es).route (route_is g valid log safe.active es) (next_version log) next_fits es rs can, λ erased. refl);
    }

    pub copy_now : (m : FlaggedMap) → AreLive log.hash_bits m rs → IsCopyOf g (copied g log image rs) (record log { spare = spare }) (copies_end g log rs) m
    copy_now m live = record {
      log_of = log_now;
      live = subst (AreLive log.hash_bits m) (sym records_now) live;
      blank = copies_blank;
    }

-- ---- the copies of a table's entries

module _ (g : Geometry) (image : List ℕ) (log : LogPart) (safe : IsSafe g log) (is : IsLogOf g image log) (sized : length image ≡ size_of g) (es : List Entry) (keys : KeyMap) (m : FlaggedMap)
    (live : AreLiveEntries g.prog log.hash_bits image log.end keys m es) (less : used g.prog m ≤ used g.prog (map_in g log image)) where
  abbrev pub live_records : List Write
  live_records = live_of g.prog image es

  here : 1 ≤ g.prog
  here = prog_positive g safe.valid

  in_area : AreAllRecords g.prog image (first_place g (area_in g log)) (end_of (area_in g log)) log.end (records_in g log image)
  in_area = all_records g log image safe is

  -- they fit, since the map's records did
  pub live_fit : copies_end g log (live_of g.prog image es) ≤ end_of (other g log)
  live_fit =
      let long = end_spent g.prog (first_place g (other g log)) (live_of g.prog image es) in
      let takes : spent g.prog (live_of g.prog image es) ≡ used g.prog m = live_used g.prog here log.hash_bits image log.end keys m es live in
      let most : used g.prog (map_in g log image) ≤ spent g.prog (records_in g log image) = used_most g.prog (records_in g log image) in
      let end_is = records_spent g.prog image (first_place g (area_in g log)) log.end (records_in g log image) in_area.each in
      omega (arith, long, takes, less, most, end_is, in_area.inside)

  pub can_copy : CanCopy g image (copying g log es) (live_of g.prog image es)
  can_copy = record {
    stand = live_stand g.prog here log.hash_bits image log.end keys m es live (end_of (area_in g log)) in_area.inside;
    fit = live_fit;
  }

  now_records : AreRecords g.prog (whole g log image (live_of g.prog image es)) (first_place g (other g log)) (copies_end g log (live_of g.prog image es)) (live_of g.prog image es)
  now_records = (all_copied_records g safe.valid image sized (copying g log es).route (route_is g safe.valid log safe.active es) (next_version log) (omega arith) es (live_of g.prog image es) can_copy).each

  -- each copy tells its key
  fits_from : (place : ℕ) (fs : List Entry) → Each g.prog here log.hash_bits image log.end keys m fs → ((i : ℕ) → i < length fs → (entry_at fs i).hash ≡ key_hash log.hash_bits (key_at keys fs i))
      → AreRecords g.prog (whole g log image (live_of g.prog image es)) place (copies_end g log (live_of g.prog image es)) (live_of g.prog image fs)
      → Fits g.prog log.hash_bits (keys_in g (other g log) (whole g log image (live_of g.prog image es))) place fs (live_of g.prog image fs)
  fits_from place [] each hash records = tt
  fits_from place (e ∷ fs) each hash records =
      let r : Write = record_at g.prog image e.offset in
      let this = first_is g.prog here log.hash_bits image log.end keys m e (live_first g.prog here log.hash_bits image log.end keys m e fs each) r refl in
      let forward = AreRecords-forward g.prog here (whole g log image (live_of g.prog image es)) (place + extent g.prog r) (copies_end g log (live_of g.prog image es)) (live_of g.prog image fs) records.1 in (
        hash 0 (omega arith) ∙ ap (key_hash log.hash_bits) (sym this.3),
        (
          this.2.kept,
          (
            tells_record g here (whole g log image (live_of g.prog image es)) (other g log) place r records.0 (omega (arith, forward, live_fit)),
            fits_from (place + extent g.prog r) fs (live_rest g.prog here log.hash_bits image log.end keys m e fs each) (λ i lt. hash (suc i) (omega (arith, lt))) records.1,
          ),
        ),
      )

  keyed_from : (fs : List Entry) → Each g.prog here log.hash_bits image log.end keys m fs → Keyed (λ (e : Entry). unwrap_or (map.get keys e.offset) []) fs (live_of g.prog image fs)
  keyed_from [] each = tt
  keyed_from (e ∷ fs) each = (
    (first_is g.prog here log.hash_bits image log.end keys m e (live_first g.prog here log.hash_bits image log.end keys m e fs each) (record_at g.prog image e.offset) refl).3,
    keyed_from fs (live_rest g.prog here log.hash_bits image log.end keys m e fs each),
  )

  fits : Fits g.prog log.hash_bits (keys_in g (other g log) (whole g log image (live_of g.prog image es))) (first_place g (other g log)) es (live_of g.prog image es)
  fits = fits_from (first_place g (other g log)) es live.each live.index.hash now_records

  pub moved_long : length (moved g.prog (first_place g (other g log)) es (live_of g.prog image es)) ≡ length es
  moved_long = length-moved g.prog log.hash_bits (keys_in g (other g log) (whole g log image (live_of g.prog image es))) (first_place g (other g log)) es (live_of g.prog image es) fits

  -- each entry has the key that it had
  pub moved_keys : (i : ℕ) → i < length es → key_at (keys_in g (other g log) (whole g log image (live_of g.prog image es))) (moved g.prog (first_place g (other g log)) es (live_of g.prog image es)) i ≡ key_at keys es i
  moved_keys i lt = key_moved g.prog log.hash_bits (keys_in g (other g log) (whole g log image (live_of g.prog image es))) (first_place g (other g log)) es (live_of g.prog image es) fits
      (λ (e : Entry). unwrap_or (map.get keys e.offset) []) (keyed_from es live.each) i lt

  module _ (spare : TableState) (spare_is : spare.entries ≡ moved g.prog (first_place g (other g log)) es (live_of g.prog image es)) where
    table_now : IsTable log.hash_bits (places_of (listed g.prog (first_place g (other g log)) (live_of g.prog image es))) spare.entries
    table_now = subst (IsTable log.hash_bits (places_of (listed g.prog (first_place g (other g log)) (live_of g.prog image es)))) (sym spare_is)
        (moved_table g.prog log.hash_bits (keys_in g (other g log) (whole g log image (live_of g.prog image es))) (first_place g (other g log)) es (live_of g.prog image es) fits
        (live_are g.prog here log.hash_bits image log.end keys m es live).ascend)

    pub live_copy : IsCopyOf g (copied g log image (live_of g.prog image es)) (record log { spare = spare }) (copies_end g log (live_of g.prog image es)) m
    live_copy = copy_now g image log safe is sized es (live_of g.prog image es) can_copy spare table_now m (live_are g.prog here log.hash_bits image log.end keys m es live)
