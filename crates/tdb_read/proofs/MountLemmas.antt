-- What was mounted is a log that is ready.
use Rattle.std.proofs.Common.{◌≡◌, ◌≤◌, ◌%◌, ℕ, List, length, inl, inr, refl, sym, ◌∙◌, ap, subst}
use Rattle.std.specs.Prelude.{Option}
use Rattle.std.specs.FinMap as map
use Rattle.std.specs.Option.{ForSome}
use Rattle.flash_core.specs.declared.geometry.Geometry.{Geometry}
use Rattle.flash_core.specs.Runs.{Done, OutOfMemory, RunsBy}
use Rattle.flash_core.specs.Sizes.{IsValid, area_size, size_of}
use Rattle.base_core.specs.Sizes.{master_size}
use Rattle.base_core.specs.Units.{up}
use Rattle.std.specs.Int.{is_power_of_two}
use Rattle.std.proofs.lemmas.Bool.{cases_eq}
use Rattle.record_core.proofs.Existence.{Known, known_as, known_both, known_le, known_true}
use Rattle.flash_core.specs.State.{DeviceCall, FlashState}
use Rattle.flash_core.proofs.GeometryLaws.{prog_positive}
use Rattle.kv_model.specs.Write.{Write, map_of}
use Rattle.record_core.specs.Log.{AreAllRecords}
use Rattle.record_core.specs.Mounts.{ActiveRecords, Holds}
use Rattle.record_core.proofs.MountLemmas.{mounts_once}
use Rattle.area_log.specs.Areas.{end_of, first_place}
use Rattle.area_log.specs.Listing.{listed}
use Rattle.tdb_mount.specs.declared.mount.Parts.{Parts}
use Rattle.tdb_mount.specs.Format.{Leaves, MountsAlike, MountsBy}
use Rattle.record_core.specs.CutMoments.{Cuts}
use Rattle.flash_core.proofs.KeptLaws.{told_before}
use Rattle.tdb_mount.specs.Index.{IsTable, places_of}
use Rattle.tdb_mount.specs.Mounted.{IsMountOf, IsSafe as AreSafe, MountsAs}
use Rattle.tdb_read.specs.Mounting.{IsMounted}
use Rattle.tdb_read.specs.Views.{IsLogOf, IsReady, IsSafe, LogPart, LogView, area_in, records_in}
use Rattle.tdb_read.proofs.RecordLemmas.{records_are}

known_valid : (g : Geometry) → Known (IsValid g)
known_valid g =
    known_as
    (λ all. record {
      prog_is_power = all.0;
      prog_limit = all.1.0;
      erase_positive = all.1.1.0;
      erase_limit = all.1.1.1.0;
      erase_is_multiple = all.1.1.1.1.0;
      header_fits = all.1.1.1.1.1.0;
      units_positive = all.1.1.1.1.1.1.0;
      size_limit = all.1.1.1.1.1.1.1.0;
      master_fits = all.1.1.1.1.1.1.1.1;
    })
    (λ is. (is.prog_is_power, (is.prog_limit, (is.erase_positive, (is.erase_limit, (is.erase_is_multiple, (is.header_fits, (is.units_positive, (is.size_limit, is.master_fits)))))))))
    (known_both (known_true (is_power_of_two g.prog))
    (known_both (known_le g.prog 4096)
    (known_both (known_le 1 g.erase)
    (known_both (known_le g.erase 65536)
    (known_both (cases_eq (g.erase % g.prog) 0)
    (known_both (known_le (up g.prog 24) g.erase)
    (known_both (known_le 1 g.units_per_area)
    (known_both (known_le (size_of g) 16777216)
    (known_le (master_size g.prog) (area_size g))))))))))

-- a geometry that is not said to be bad is valid
pub valid_if : (g : Geometry) → ((IsValid g → ⊥) → ⊥) → IsValid g
valid_if g not_bad = elim (known_valid g) [ inl valid ↦ valid | inr bad ↦ absurd (not_bad bad) ]

-- a call that ended for want of memory in place of Ok
pub short_of_memory : {old new : FlashState} {R : List ℕ → Option DeviceCall → List ℕ → Type 0} → RunsBy old new R Done → RunsBy old new R OutOfMemory
short_of_memory runs = record {
  kept = runs.kept;
  cause = tt;
  counts = runs.counts;
  steady = λ _. tt;
  adds = runs.adds;
  stands = runs.stands;
  torn_stands = runs.torn_stands;
  failed = λ image told. tt;
}

abbrev pub log_of : ℕ → Parts → ℕ → List ℕ → LogPart
log_of hash_bits parts work unit = record {
  hash_bits = hash_bits;
  active = parts.active;
  version = parts.version;
  end = parts.end;
  is_clean = parts.clean;
  table = parts.table;
  spare = parts.spare;
  iterators = map.empty;
  work = work;
  unit = unit;
}

module _ (g : Geometry) (valid : IsValid g) (image : List ℕ) (hash_bits : ℕ) (parts : Parts) (is : IsMountOf g hash_bits image parts) (work : ℕ) (unit : List ℕ) where
  abbrev log : LogPart
  log = log_of hash_bits parts work unit

  all : AreAllRecords g.prog image (first_place g (area_in g log)) (end_of (area_in g log)) is.contents.end is.contents.records
  all = subst (λ (o : Option ℕ). ActiveRecords g image o is.contents.end is.contents.records) is.active is.holds.active

  records_same : records_in g log image ≡ is.contents.records
  records_same =
      records_are g.prog (prog_positive g valid) image (first_place g (area_in g log)) parts.end is.contents.records
      (subst (λ (e : ℕ). AreAllRecords g.prog image (first_place g (area_in g log)) (end_of (area_in g log)) e is.contents.records) (sym is.end) all).each

  mounted_log : IsLogOf g image log
  mounted_log = record {
    first = is.contents.first;
    second = is.contents.second;
    active = is.active;
    version = is.version;
    holds = subst (λ (e : ℕ). Holds g image (record { first = is.contents.first; second = is.contents.second; records = records_in g log image; end = e })) (sym is.end)
        (subst (λ (rs : List Write). Holds g image (record { first = is.contents.first; second = is.contents.second; records = rs; end = is.contents.end })) (sym records_same) is.holds);
    table = subst (λ (rs : List Write). IsTable hash_bits (places_of (listed g.prog (first_place g (area_in g log)) rs)) parts.table.entries) (sym records_same) is.table;
    clean = is.clean;
  }

module _ (old new : FlashState) (runs : RunsBy old new (MountsBy old.geometry) Done) (hash_bits : ℕ) (bits : hash_bits ≤ 32) (parts : Parts)
    (valid : IsValid old.geometry) (safe : AreSafe old.geometry parts)
    (mounted : ForSome old.image (λ image. ForSome new.image (λ left. MountsAs old.geometry hash_bits image left parts)))
    (cuts : RunsBy old new (Cuts old.geometry (MountsAlike old.geometry)) Done)
    (leaves : ForSome old.image (λ image. ForSome new.image (λ left. Leaves old.geometry image left Done)))
    (work : ℕ) (unit : List ℕ) (work_is : work ≡ 4096) (unit_is : length unit ≡ new.geometry.prog) where
  abbrev view : LogView
  view = record { device = new; log = log_of hash_bits parts work unit }

  same : new.geometry ≡ old.geometry
  same = runs.kept.geometry

  ready : IsReady view
  ready = record {
    safe = subst (λ (g : Geometry). IsSafe g view.log) (sym same) (record {
      valid = valid;
      hash_bits = bits;
      active = safe.active;
      end = safe.end;
      within = safe.within;
      room = safe.room;
      work = work_is;
      unit = unit_is ∙ ap (λ (g : Geometry). g.prog) same;
    });
    stands = λ image told. let was = told_before runs.kept told in
        subst (λ (g : Geometry). IsLogOf g image view.log) (sym same) (mounted_log old.geometry valid image hash_bits parts (mounted was.0 was.1 image told).found work unit);
  }

  pub is_mounted : IsMounted old hash_bits view
  is_mounted = record {
    ready = ready;
    runs = runs;
    cuts = cuts;
    bits = refl;
    no_iterators = refl;
    same_map = λ image told left now m mounts.
        let is = mounted image told left now in
        ap map_of (records_same old.geometry valid left hash_bits parts is.found work unit) ∙ sym is.stands
        ∙ mounts_once old.geometry image (prog_positive old.geometry valid) is.map m is.mounts mounts;
    leaves = leaves;
  }
