-- The master record before copies makes them the log.
use Rattle.std.proofs.Common.{◌≡◌, ◌⊎◌, ℕ, ◌+◌, ◌-◌, ◌%◌, ◌^◌, ◌<◌, ◌≤◌, true, List, [], ◌++◌, length, inl, inr, refl, sym, ◌∙◌, ap, subst, arith, append-nil}
use Rattle.std.specs.Prelude.{IsTrue, Option, Some, None, Result, Ok, Err, IsErrAnd}
use Rattle.std.specs.Option.{ForSome}
use Rattle.base_core.specs.Sizes.{master_size}
use Rattle.flash_core.specs.declared.geometry.Geometry.{Geometry}
use Rattle.flash_core.specs.Images.{put}
use Rattle.flash_core.specs.Runs.{Done, Ending, RunsBy, WriteFailed}
use Rattle.flash_core.specs.State.{DeviceCall, FlashState, IsLawful}
use Rattle.flash_core.proofs.KeptLaws.{told_before}
use Rattle.flash_core.proofs.RunLaws.{runs_weakened}
use Rattle.base_core.proofs.UnitLemmas.{up-ge}
use Rattle.flash_core.proofs.GeometryLaws.{prog_positive}
use Rattle.kv_model.specs.declared.error.KvError.{KvError}
use Rattle.kv_model.specs.declared.error.KvError.TheVariants.{WriteFault}
use Rattle.kv_model.specs.FlaggedMap.{FlaggedMap}
use Rattle.kv_model.specs.Opening.{Log}
use Rattle.kv_model.specs.Write.{Write, map_of}
use Rattle.record_core.specs.CutMoments.{CutStrictly, MountsToOne}
use Rattle.record_core.specs.Cuts.{base_of}
use Rattle.record_core.specs.Endings.{kv_ended, kv_ending}
use Rattle.record_core.specs.Mounts.{Mounts}
use Rattle.record_core.specs.Record.{master_bytes}
use Rattle.record_core.specs.Renewal.{CompletesArea}
use Rattle.record_core.specs.Written.{AppendsRecord, master_of}
use Rattle.record_core.proofs.MapCuts.{complete_map}
use Rattle.record_core.proofs.RenewalLemmas.{master_completes}
use Rattle.area_log.specs.declared.area.Area.{Area}
use Rattle.ram_table.specs.declared.table.Place.{Place}
use Rattle.tdb_mount.specs.Room.{area_of}
use Rattle.tdb_read.specs.Reads.{IsFound, IsLocated, map_in}
use Rattle.tdb_read.specs.States.{log_in, other_part}
use Rattle.tdb_read.specs.Views.{IsLogOf, IsReady, IsSafe, LogPart, LogView, records_in}
use Rattle.tdb_read.proofs.LawLemmas.{log_mounts}
use Rattle.tdb_write.specs.Changes.{Changes, KeepsCallers, LeavesOneOf}
use Rattle.tdb_write.specs.Copying.{CanComplete, IsCopyOf, IsFoundCopied, IsPreparedFor, IsRenewed, completed, completed_image}
use Rattle.tdb_write.proofs.FillLemmas.{contents, number, spare_area}

list_is : (a b : List ℕ) → Some a ≡ Some b → a ≡ b
list_is a b same = cc

module _ {old : LogView} (lawful : IsLawful old.device) (ready : IsReady old) (end : ℕ) {device : FlashState} {ending : Ending}
    (runs : RunsBy old.device device (AppendsRecord old.device.geometry.prog (base_of old.device.geometry (1 - old.log.active)) (master_of ((old.log.version + 1) % 2 ^ 16))) ending) (after : FlaggedMap → FlaggedMap) (prepared : IsPreparedFor old end after) where
  g : Geometry
  g = old.device.geometry

  module _ (image : List ℕ) (told : old.device.image ≡ Some image) where
    copy : IsCopyOf old.device.geometry image old.log end (after (map_in old.device.geometry old.log image))
    copy = prepared.copy image told

    mounts_next : Mounts old.device.geometry (completed_image old.device.geometry old.log image) (after (map_in old.device.geometry old.log image))
    mounts_next = subst (Mounts old.device.geometry (completed_image old.device.geometry old.log image)) (prepared.copy image told).live.map_is
        (log_mounts old.device.geometry (completed_image old.device.geometry old.log image) (completed old.log end) (prepared.copy image told).log_of)

    leaves : (call : Option DeviceCall) (now : List ℕ) → AppendsRecord old.device.geometry.prog (base_of old.device.geometry (1 - old.log.active)) (master_of ((old.log.version + 1) % 2 ^ 16)) image call now → LeavesOneOf old after image call now
    leaves call now appends =
        let is = ready.stands image told in
        complete_map old.device.geometry ready.safe.valid image (lawful.sized image told) (contents old.device.geometry image old.log ready.safe is) (1 - old.log.active) (after (map_in old.device.geometry old.log image))
        (record {
          spare = spare_area old.device.geometry image old.log ready.safe is;
          erased = (prepared.copy image told).blank (base_of old.device.geometry (1 - old.log.active)) (omega arith) (omega (arith, up-ge old.device.geometry.prog 24 (prog_positive old.device.geometry ready.safe.valid)));
        }) call now
        (master_completes old.device.geometry ready.safe.valid (1 - old.log.active) (number old.device.geometry image old.log ready.safe is) image (lawful.sized image told)
        (λ left. Mounts old.device.geometry left (after (map_in old.device.geometry old.log image))) ((old.log.version + 1) % 2 ^ 16) mounts_next call now appends)

  pub completing : RunsBy old.device device (LeavesOneOf old after) ending
  completing = runs_weakened (LeavesOneOf old after) leaves runs

module _ {old : LogView} (lawful : IsLawful old.device) (ready : IsReady old) (end : ℕ) {device : FlashState} where
  -- where the write failed
  pub not_completed : {T : Type 0} (result : Result T KvError) (e : KvError) → IsErrAnd result (λ x. x ≡ e) → e ≡ WriteFault → (log : LogPart) → KeepsCallers old.log log
      → RunsBy old.device device (AppendsRecord old.device.geometry.prog (base_of old.device.geometry (1 - old.log.active)) (master_of ((old.log.version + 1) % 2 ^ 16))) (kv_ending e)
      → (after : FlaggedMap → FlaggedMap) → IsPreparedFor old end after → Changes old (record { device = device; log = log }) after (IsRenewed old.log.hash_bits after) (kv_ended result)
  not_completed (Ok x) e is fault log callers runs after prepared = absurd is
  not_completed (Err x) e is fault log callers runs after prepared =
      let failed : RunsBy old.device device (LeavesOneOf old after) WriteFailed = subst (λ (y : KvError). RunsBy old.device device (LeavesOneOf old after) (kv_ending y)) fault (completing lawful ready end runs after prepared) in
      subst (λ (y : KvError). Changes old (record { device = device; log = log }) after (IsRenewed old.log.hash_bits after) (kv_ending y)) (sym (is ∙ fault)) (record {
        runs = failed;
        callers = callers;
        ready = tt;
        map_is = λ image told left told_left. tt;
        log_is = λ image told left told_left. tt;
      })

  module _ (runs : RunsBy old.device device (AppendsRecord old.device.geometry.prog (base_of old.device.geometry (1 - old.log.active)) (master_of ((old.log.version + 1) % 2 ^ 16))) Done)
      (written : ForSome old.device.image (λ image. device.image ≡ Some (put image (base_of old.device.geometry (1 - old.log.active)) (master_bytes old.device.geometry.prog ((old.log.version + 1) % 2 ^ 16))))) where
    left_is : (image left : List ℕ) → old.device.image ≡ Some image → device.image ≡ Some left → completed_image old.device.geometry old.log image ≡ left
    left_is image left told told_left = list_is (completed_image old.device.geometry old.log image) left (sym (written image told) ∙ told_left)

    -- where it was done
    pub is_completed : (after : FlaggedMap → FlaggedMap) → IsPreparedFor old end after → Changes old (record { device = device; log = completed old.log end }) after (IsRenewed old.log.hash_bits after) Done
    is_completed after prepared = record {
      runs = completing lawful ready end runs after prepared;
      callers = record { hash_bits = refl; iterators = refl };
      ready = record {
        safe = subst (λ (x : Geometry). IsSafe x (completed old.log end)) (sym runs.kept.geometry) prepared.safe;
        stands = λ left told_left.
            let was = told_before runs.kept told_left in
            subst (λ (x : Geometry). IsLogOf x left (completed old.log end)) (sym runs.kept.geometry)
            (subst (λ (l : List ℕ). IsLogOf old.device.geometry l (completed old.log end)) (left_is was.0 left was.1 told_left) (prepared.copy was.0 was.1).log_of);
      };
      map_is = λ image told left told_left.
          subst (λ (l : List ℕ). map_in old.device.geometry (completed old.log end) l ≡ after (map_in old.device.geometry old.log image)) (left_is image left told told_left) (prepared.copy image told).live.map_is;
      log_is = λ image told left told_left.
          subst (λ (l : List ℕ). IsRenewed old.log.hash_bits after (log_in old.device.geometry old.log image) (log_in old.device.geometry (completed old.log end) l)) (left_is image left told told_left) (
            records_in old.device.geometry (completed old.log end) (completed_image old.device.geometry old.log image),
            (prepared.copy image told).live,
            (λ i. record {
              active = 1 - old.log.active;
              version = (old.log.version + 1) % 2 ^ 16;
              records = sym (append-nil (records_in old.device.geometry (completed old.log end) (completed_image old.device.geometry old.log image))) i;
              is_clean = true;
              other = other_part old.device.geometry (1 - old.log.active) (completed_image old.device.geometry old.log image);
            }),
          );
    }

    pub places_completed : (key : List ℕ) (place : Place) → IsFoundCopied old end key place → IsFound (record { device = device; log = completed old.log end }) key place
    places_completed key place found = record {
      inside = found.inside;
      there = found.there;
      located = λ left told_left.
          let was = told_before runs.kept told_left in
          subst (λ (x : Geometry). IsLocated x left (completed old.log end) key place) (sym runs.kept.geometry)
          (subst (λ (l : List ℕ). IsLocated old.device.geometry l (completed old.log end) key place) (left_is was.0 left was.1 told_left) (found.located was.0 was.1));
    }
