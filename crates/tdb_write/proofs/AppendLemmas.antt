-- A log with one record more at its end.
use Rattle.std.proofs.Common.{◌≡◌, ℕ, ◌+◌, ◌-◌, ◌<◌, ◌≤◌, Bool, true, false, List, [], ◌∷◌, ◌++◌, length, inl, inr, ⊎_elim, refl, sym, ◌∙◌, ap, subst, arith}
use Rattle.std.specs.Prelude.{◌==◌, ◌||◌, IsTrue, Option, Some, slice_index}
use Rattle.std.specs.Option.{unwrap_or}
use Rattle.std.proofs.lemmas.Bool.{cases_lt}
use Rattle.base_core.specs.Units.{up}
use Rattle.base_core.specs.Sizes.{record_size}
use Rattle.base_core.proofs.UnitLemmas.{IsMultipleOf-add, up-ge, up-multiple}
use Rattle.flash_core.specs.declared.geometry.Geometry.{Geometry}
use Rattle.flash_core.specs.Images.{IsErased, Torn, put}
use Rattle.flash_core.specs.Runs.{Ending, Done, WriteFailed, RunsBy}
use Rattle.flash_core.specs.Sizes.{size_of}
use Rattle.flash_core.specs.State.{DeviceCall, FlashState, IsLawful}
use Rattle.flash_core.proofs.GeometryLaws.{prog_positive}
use Rattle.flash_core.proofs.ImageLaws.{IsErased-Torn, Torn-put}
use Rattle.flash_core.proofs.KeptLaws.{told_before}
use Rattle.flash_core.proofs.RunLaws.{runs_weakened}
use Rattle.kv_model.specs.Crc.{key_hash}
use Rattle.kv_model.specs.FlaggedMap.{FlaggedMap}
use Rattle.kv_model.specs.Flags.{remove_flags}
use Rattle.kv_model.specs.Keys.{is_key}
use Rattle.kv_model.specs.Write.{Write, applied, map_of}
use Rattle.kv_model.proofs.WritesLemmas.{map_of-append}
use Rattle.record_core.specs.CutMoments.{CutStrictly, MayAppend, MountsToOne, with_record}
use Rattle.record_core.specs.Header.{IsHeader}
use Rattle.record_core.specs.Log.{AreAllRecords, extent, spelling_of}
use Rattle.record_core.specs.Mounts.{ActiveRecords, Holds}
use Rattle.record_core.specs.Written.{AppendsRecord}
use Rattle.record_core.proofs.CutLemmas.{holds_more}
use Rattle.record_core.proofs.LogLemmas.{AreRecords-Torn, IsRecordAt-put, extent-positive}
use Rattle.record_core.proofs.MapCuts.{append_map}
use Rattle.record_core.proofs.RecordLemmas.{length-record_bytes}
use Rattle.record_core.proofs.RenewalCuts.{area_inside}
use Rattle.record_core.proofs.TornLemmas.{active_number}
use Rattle.area_log.specs.declared.area.Area.{Area}
use Rattle.area_log.specs.Areas.{end_of, first_place}
use Rattle.area_log.specs.Listing.{Found, IsNext, found_at, listed}
use Rattle.area_log.proofs.ScanLemmas.{listed-append}
use Rattle.inc_set.specs.declared.open_set.OpenSet.{OpenSet as Writer}
use Rattle.inc_set.specs.Sets.{Appended, record_of, set_size}
use Rattle.ram_table.specs.declared.table.Entry.{Entry}
use Rattle.ram_table.specs.declared.table.Place.{Place}
use Rattle.ram_table.specs.Find.{key_at}
use Rattle.ram_table.specs.Table.{TableState, changed, changed_by, entry_at}
use Rattle.tdb_mount.specs.Index.{IsTable, places_of}
use Rattle.tdb_mount.specs.Keys.{keys_in}
use Rattle.tdb_mount.specs.Room.{AreIn}
use Rattle.tdb_mount.proofs.PlaceLemmas.{table_this, tells_before}
use Rattle.tdb_mount.proofs.TableLemmas.{AreIn-changed, length-changed, length-changed_old}
use Rattle.tdb_read.specs.Reads.{IsFound, IsLocated, map_in}
use Rattle.tdb_read.specs.States.{other_part}
use Rattle.tdb_read.specs.Views.{IsLogOf, IsReady, IsSafe, LogPart, area_in, records_in}
use Rattle.tdb_read.proofs.RecordLemmas.{records_are}
use Rattle.tdb_read.proofs.TableLemmas.{all_records, told_table}
use Rattle.tdb_write.specs.Changes.{Changes, IsReserved, LeavesOneOf}
use Rattle.tdb_write.specs.Writing.{IsAppended, IsWriting}
use Rattle.tdb_write.proofs.FeedLemmas.{view}
use Rattle.tdb_write.proofs.OtherLemmas.{other_stays}
use Rattle.tdb_write.proofs.StayLemmas.{KeysStay, contents, place_stays}

-- the log in memory with a record of this size more
abbrev pub longer : LogPart → ℕ → TableState → List ℕ → LogPart
longer log end table unit = record log { end = end; is_clean = true; table = table; unit = unit }

module _ (g : Geometry) (image : List ℕ) (log : LogPart) (safe : IsSafe g log) (is : IsLogOf g image log) (sized : length image ≡ size_of g) (r : Write)
    (valid_key : IsTrue (is_key r.key)) (valid_header : IsHeader r.flags (length r.key) (length r.value)) (fits : log.end + extent g.prog r ≤ end_of (area_in g log)) (erased : slice_index image log.end ≡ 255)
    (behind : IsErased image (log.end + extent g.prog r) (end_of (area_in g log) - (log.end + extent g.prog r))) where
  positive : 1 ≤ g.prog
  positive = prog_positive g safe.valid

  abbrev area : Area
  area = area_in g log

  abbrev end : ℕ
  end = log.end + extent g.prog r

  abbrev records : List Write
  records = records_in g log image

  abbrev now : List ℕ
  now = put image log.end (spelling_of g.prog r)

  may : MayAppend g image (contents g image log is) log.active r
  may = record {
    holds = is.holds;
    active = is.active;
    inside = record { number = active_number is.first is.second log.active is.active; from = safe.end.inside.from; to = fits };
    erased = erased;
    behind = ⊎_elim (λ less. inr (behind (log.end + extent g.prog r) (omega arith) (omega (arith, less)))) (λ full. inl (omega (arith, full, fits))) (cases_lt (log.end + extent g.prog r) (end_of (area_in g log)));
  }

  pub append_moment : (call : Option DeviceCall) (left : List ℕ) → AppendsRecord g.prog log.end r image call left → CutStrictly g (MountsToOne g (map_in g log image) (applied r (map_in g log image))) call left
  append_moment call left moment = subst (λ (m : FlaggedMap). CutStrictly g (MountsToOne g (map_in g log image) m) call left) (map_of-append (records_in g log image) r)
      (append_map g safe.valid image sized (contents g image log is) log.active r may valid_key valid_header call left moment)

  held_more : Holds g (put image log.end (spelling_of g.prog r)) (with_record g.prog r (contents g image log is))
  held_more = holds_more g safe.valid image sized (contents g image log is) log.active r may valid_key valid_header

  all_more : AreAllRecords g.prog (put image log.end (spelling_of g.prog r)) (first_place g (area_in g log)) (end_of (area_in g log)) (log.end + extent g.prog r) (records_in g log image ++ r ∷ [])
  all_more = subst (λ (o : Option ℕ). ActiveRecords g now o end (records ++ r ∷ [])) is.active held_more.active

  in_image : log.end + extent g.prog r ≤ length image
  in_image = omega (arith, fits, area_inside g safe.valid log.active (active_number is.first is.second log.active is.active) image sized)

  torn : Torn log.end (extent g.prog r) image (put image log.end (spelling_of g.prog r))
  torn =
      let long : length (spelling_of g.prog r) ≡ extent g.prog r = length-record_bytes g.prog positive r.flags r.key r.value in
      subst (λ (n : ℕ). Torn log.end n image now) long (Torn-put image log.end (spelling_of g.prog r) (omega (arith, long, in_image)))

  pub other_more : other_part g log.active (put image log.end (spelling_of g.prog r)) ≡ other_part g log.active image
  other_more = other_stays g safe.valid log.active safe.active image now sized log.end (extent g.prog r) safe.end.inside.from fits torn

  module _ (table : TableState) (unit : List ℕ) where
    pub records_more : records_in g (longer log (log.end + extent g.prog r) table unit) (put image log.end (spelling_of g.prog r)) ≡ records_in g log image ++ r ∷ []
    records_more = records_are g.prog positive now (first_place g area) end (records ++ r ∷ []) all_more.each

    module _ (place : Place) (hash : ℕ) (is_remove : Bool) (inside : place.at ≤ length log.table.entries) (there : place.found ≡ true → place.at < length log.table.entries) (located : IsLocated g image log r.key place)
        (hash_is : hash ≡ key_hash log.hash_bits r.key) (removes : is_remove ≡ (r.flags == remove_flags)) (entries_are : table.entries ≡ changed log.table.entries place hash log.end is_remove) where
      next : IsNext g (put image log.end (spelling_of g.prog r)) (area_in g log) (found_at log.end r) (listed g.prog (first_place g (area_in g log)) (records_in g log image))
      next = record {
        records = records;
        each = AreRecords-Torn g.prog positive log.end (extent g.prog r) image now (first_place g area) log.end records torn (inl (omega arith)) (all_records g log image safe is).each;
        before_is = refl;
        this = r;
        stands = IsRecordAt-put g.prog positive image log.end r valid_key valid_header in_image;
        inside = fits;
        found_is = refl;
      }

      same_keys : KeysStay (keys_in g (area_in g log) image) log.table.entries (keys_in g (area_in g log) (put image log.end (spelling_of g.prog r))) log.table.entries
      same_keys i lt =
          let key : List ℕ = key_at (keys_in g area image) log.table.entries i in
          let placed = ((told_table g log image safe is).same key (entry_at log.table.entries i).offset).1 (record { place = i; inside = lt; key_is = refl; offset_is = refl }) in
          ap (λ (o : Option (List ℕ)). unwrap_or o []) (tells_before g positive now area (found_at log.end r) (listed g.prog (first_place g area) records) next key (entry_at log.table.entries i).offset placed)

      table_is : IsTable log.hash_bits (places_of (listed g.prog (first_place g (area_in g log)) (records_in g log image ++ r ∷ []))) (changed log.table.entries place hash log.end is_remove)
      table_is = subst (λ (l : List Found). IsTable log.hash_bits (places_of l) (changed log.table.entries place hash log.end is_remove))
          (sym (listed-append g.prog image (first_place g area) log.end records r (all_records g log image safe is).each))
          (table_this g positive now area (found_at log.end r) (listed g.prog (first_place g area) records) next log.hash_bits log.table.entries place hash is_remove is.table
          (place_stays log.hash_bits (keys_in g area image) log.table.entries (keys_in g area now) log.table.entries r.key place refl same_keys inside there located.place_is) inside there hash_is removes)

      pub longer_log : IsLogOf g (put image log.end (spelling_of g.prog r)) (longer log (log.end + extent g.prog r) table unit)
      longer_log = record {
        first = is.first;
        second = is.second;
        active = is.active;
        version = is.version;
        holds = subst (λ (rs : List Write). Holds g now (record { first = is.first; second = is.second; records = rs; end = end })) (sym records_more) held_more;
        table = subst (λ (rs : List Write). IsTable log.hash_bits (places_of (listed g.prog (first_place g area) rs)) table.entries) (sym records_more)
            (subst (IsTable log.hash_bits (places_of (listed g.prog (first_place g area) (records ++ r ∷ [])))) (sym entries_are) table_is);
        clean = (
          (λ clean. IsErased-Torn log.end (extent g.prog r) image now end (end_of area - end) torn (inr (omega arith)) behind),
          (λ erased_now. refl),
        );
      }

-- ---- what is kept in memory

or_true : (b : Bool) → (b || true) ≡ true
or_true true = refl
or_true false = refl

room_by : (log : LogPart) (at hash offset : ℕ) (is_remove found : Bool) → at ≤ length log.table.entries → (found ≡ true → at < length log.table.entries) → length log.table.entries ≤ length log.spare.entries + log.spare.spare
    → (found ≡ false → IsReserved log) → length (changed_by log.table.entries at hash offset is_remove found) ≤ length log.spare.entries + log.spare.spare
room_by log at hash offset is_remove true inside there room reserved = omega (arith, length-changed_old log.table.entries at hash offset is_remove true (or_true is_remove) there, room)
room_by log at hash offset is_remove false inside there room reserved = omega (arith, length-changed log.table.entries at hash offset is_remove false inside there, (reserved refl).spare)

module _ (g : Geometry) (log : LogPart) (safe : IsSafe g log) (r : Write) (fits : log.end + extent g.prog r ≤ end_of (area_in g log)) (place : Place) (hash : ℕ) (is_remove : Bool)
    (inside : place.at ≤ length log.table.entries) (there : place.found ≡ true → place.at < length log.table.entries) (reserved : place.found ≡ false → IsReserved log)
    (table : TableState) (entries_are : table.entries ≡ changed log.table.entries place hash log.end is_remove) (unit : List ℕ) (unit_is : length unit ≡ g.prog) where
  pub longer_safe : IsSafe g (longer log (log.end + extent g.prog r) table unit)
  longer_safe =
      let long = extent-positive g.prog (prog_positive g safe.valid) r in
      record {
        valid = safe.valid;
        hash_bits = safe.hash_bits;
        active = safe.active;
        end = record {
          inside = record { from = omega (arith, safe.end.inside.from); to = fits };
          aligned = IsMultipleOf-add g.prog log.end (extent g.prog r) safe.end.aligned
              (IsMultipleOf-add g.prog (up g.prog 24) (up g.prog (length r.key + length r.value)) (up-multiple g.prog 24) (up-multiple g.prog (length r.key + length r.value)));
        };
        within = subst (AreIn (area_in g log)) (sym entries_are)
            (AreIn-changed (area_in g log) log.table.entries place.at hash log.end is_remove place.found safe.within inside there safe.end.inside.from (omega (arith, fits, long)));
        room = subst (λ (es : List Entry). length es ≤ length log.spare.entries + log.spare.spare) (sym entries_are) (room_by log place.at hash log.end is_remove place.found inside there safe.room reserved);
        work = safe.work;
        unit = unit_is;
      }

-- ---- a set that is sealed

some_is : (x y : List ℕ) → Some x ≡ Some y → x ≡ y
some_is x y same = cc

module _ (old new : FlashState) (log : LogPart) (set : Writer) (bytes : List ℕ) (lawful : IsLawful old) (ready : IsReady (view old log)) (writing : IsWriting (view old log) set bytes) (whole : set.fed ≡ set.size) where
  abbrev r : Write
  r = record_of set bytes

  size_is : set.size ≡ length bytes
  size_is = sym whole ∙ writing.holds.has.count

  header_is : IsHeader set.flags (length set.key) (length bytes)
  header_is = subst (IsHeader set.flags (length set.key)) size_is writing.holds.placed.header

  extent_is : extent old.geometry.prog (record_of set bytes) ≡ set_size old.geometry.prog set
  extent_is = ap (record_size old.geometry.prog (length set.key)) (sym size_is)

  record_fits : log.end + extent old.geometry.prog (record_of set bytes) ≤ end_of (area_in old.geometry log)
  record_fits = omega (arith, writing.at_end.inside, writing.at_end.at_end, extent_is)

  module _ (image : List ℕ) (told : old.image ≡ Some image) where
    erased_here : slice_index image log.end ≡ 255
    erased_here = (writing.at_end.ahead image told).header log.end (omega (arith, writing.at_end.at_end)) (omega (arith, writing.at_end.at_end, up-ge old.geometry.prog 24 (prog_positive old.geometry ready.safe.valid)))

    erased_behind : IsErased image (log.end + extent old.geometry.prog (record_of set bytes)) (end_of (area_in old.geometry log) - (log.end + extent old.geometry.prog (record_of set bytes)))
    erased_behind = subst (λ (p : ℕ). IsErased image p (end_of (area_in old.geometry log) - p))
        ((λ i. writing.at_end.at_end i + set_size old.geometry.prog set) ∙ ap (λ (n : ℕ). log.end + n) (sym extent_is)) (writing.at_end.behind image told)

  pub seal_runs : (ending : Ending) → Appended old new set bytes ending → RunsBy old new (LeavesOneOf (view old log) (applied (record_of set bytes))) ending
  seal_runs ending appended = runs_weakened (LeavesOneOf (view old log) (applied r))
      (λ image told call left moment.
      append_moment old.geometry image log ready.safe (ready.stands image told) (lawful.sized image told) r writing.holds.placed.key header_is record_fits (erased_here image told) (erased_behind image told) call left
      (subst (λ (p : ℕ). AppendsRecord old.geometry.prog p r image call left) writing.at_end.at_end moment)) appended.runs

  pub seal_failed : (later : LogPart) → later.hash_bits ≡ log.hash_bits → later.iterators ≡ log.iterators → Appended old new set bytes WriteFailed
      → Changes (view old log) (view new later) (applied (record_of set bytes)) (IsAppended (record_of set bytes)) WriteFailed
  seal_failed later bits iterators appended = record {
    runs = seal_runs WriteFailed appended;
    callers = record { hash_bits = bits; iterators = iterators };
    ready = tt;
    map_is = λ image told left told_left. tt;
    log_is = λ image told left told_left. tt;
  }

  module _ (appended : Appended old new set bytes Done) (place : Place) (found : IsFound (view old log) set.key place) (reserved : place.found ≡ false → IsReserved log) (hash : ℕ) (hash_is : hash ≡ key_hash log.hash_bits set.key)
      (is_remove : Bool) (removes : is_remove ≡ (set.flags == remove_flags)) (table : TableState) (entries_are : table.entries ≡ changed log.table.entries place hash log.end is_remove)
      (end : ℕ) (end_is : end ≡ set.at + set_size old.geometry.prog set) (unit : List ℕ) (unit_is : length unit ≡ old.geometry.prog) where
    same_geometry : new.geometry ≡ old.geometry
    same_geometry = appended.runs.kept.geometry

    behind_is : log.end + extent old.geometry.prog (record_of set bytes) ≡ end
    behind_is = ap (λ (n : ℕ). log.end + n) extent_is ∙ (λ i. sym writing.at_end.at_end i + set_size old.geometry.prog set) ∙ sym end_is

    abbrev later : LogPart
    later = longer log (log.end + extent old.geometry.prog r) table unit

    module _ (image left : List ℕ) (told : old.image ≡ Some image) (told_left : new.image ≡ Some left) where
      left_is : put image log.end (spelling_of old.geometry.prog (record_of set bytes)) ≡ left
      left_is = ap (λ (p : ℕ). put image p (spelling_of old.geometry.prog r)) (sym writing.at_end.at_end) ∙ sym (some_is left _ (sym told_left ∙ appended.written image told))

      log_left : IsLogOf old.geometry left (longer log (log.end + extent old.geometry.prog (record_of set bytes)) table unit)
      log_left = subst (λ (l : List ℕ). IsLogOf old.geometry l later) left_is
          (longer_log old.geometry image log ready.safe (ready.stands image told) (lawful.sized image told) r writing.holds.placed.key header_is record_fits (erased_here image told) (erased_behind image told)
          table unit place hash is_remove found.inside found.there (found.located image told) hash_is removes entries_are)

      records_left : records_in old.geometry (longer log (log.end + extent old.geometry.prog (record_of set bytes)) table unit) left ≡ records_in old.geometry log image ++ record_of set bytes ∷ []
      records_left = ap (records_in old.geometry later) (sym left_is)
          ∙ records_more old.geometry image log ready.safe (ready.stands image told) (lawful.sized image told) r writing.holds.placed.key header_is record_fits (erased_here image told) (erased_behind image told) table unit

      other_left : other_part old.geometry log.active left ≡ other_part old.geometry log.active image
      other_left = ap (other_part old.geometry log.active) (sym left_is)
          ∙ other_more old.geometry image log ready.safe (ready.stands image told) (lawful.sized image told) r writing.holds.placed.key header_is record_fits (erased_here image told) (erased_behind image told)

    sealed_ready : IsReady (view new (longer log (log.end + extent old.geometry.prog (record_of set bytes)) table unit))
    sealed_ready = record {
      safe = subst (λ (h : Geometry). IsSafe h later) (sym same_geometry)
          (longer_safe old.geometry log ready.safe r record_fits place hash is_remove found.inside found.there reserved table entries_are unit unit_is);
      stands = λ left told_left. let was = told_before appended.runs.kept told_left in
          subst (λ (h : Geometry). IsLogOf h left later) (sym same_geometry) (log_left was.0 left was.1 told_left);
    }

    pub seal_changes : Changes (view old log) (view new (longer log end table unit)) (applied (record_of set bytes)) (IsAppended (record_of set bytes)) Done
    seal_changes = subst (λ (e : ℕ). Changes (view old log) (view new (longer log e table unit)) (applied r) (IsAppended r) Done) behind_is (record {
      runs = seal_runs Done appended;
      callers = record { hash_bits = refl; iterators = refl };
      ready = sealed_ready;
      map_is = λ image told left told_left. ap map_of (records_left image left told told_left) ∙ map_of-append (records_in old.geometry log image) r;
      log_is = λ image told left told_left. λ i. record {
        active = log.active;
        version = log.version;
        records = records_left image left told told_left i;
        is_clean = true;
        other = other_left image left told told_left i;
      };
    })
