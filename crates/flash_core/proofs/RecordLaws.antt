-- What a write does to a device in memory.
use Rattle.std.proofs.Common.{◌≡◌, ℕ, ◌≤◌, List, [], ◌∷◌, length, inl, inr, ⊎_elim, refl, sym, ◌∙◌, ap, arith, subst}
use Rattle.std.specs.Prelude.{Option, Some, None, Result, Ok, Err, IsErr, IfErr}
use Rattle.std.proofs.lemmas.List.{length-append}
use mathlib.Core.Bool.{false≢true}
use Rattle.base_core.proofs.CountLemmas.{Rose-counted, counted-ge}
use Rattle.flash_core.specs.declared.flash.FlashFault.{FlashFault}
use Rattle.flash_core.specs.declared.flash.FlashFault.TheVariants.{Read, Write}
use Rattle.flash_core.specs.declared.geometry.Geometry.{Geometry}
use Rattle.flash_core.specs.Calls.{Writes}
use Rattle.flash_core.specs.Images.{put, Torn}
use Rattle.flash_core.specs.RecordDevice.{LeadsTo, device_state, kept, logged_state, memory_state, refused}
use Rattle.flash_core.specs.WriteLog.{IsFull, LogState, replayed, with_refusal, with_write}
use Rattle.flash_core.proofs.ImageLaws.{Torn-refl}
use Rattle.flash_core.proofs.WriteLogLaws.{behind_is_told, inside_is_told, moments_anew, moments_stand, replayed_more}

some_is : {X : Type 0} (x y : X) → Some x ≡ Some y → x ≡ y
some_is x y same = cc

not_both : {X : Type 0} {x : X} {P : Type 0} → Some x ≡ None → P
not_both same = cc

module _ (T : Type 0) (geometry : Geometry) (image : List ℕ) (place : ℕ) (bytes : List ℕ) where
  memory_wrote : (x : T) → Writes (memory_state geometry image) (memory_state geometry (put image place bytes)) place bytes (Ok x)
  memory_wrote x = record {
    kept = record {
      geometry = refl;
      label = refl;
      tells_image = refl;
      tells_moments = refl;
      tells_torn = refl;
      read_faults = omega arith;
      write_faults = omega arith;
      sound = λ sound. sound;
      moment = omega arith;
      told = λ t call c le left. left;
    };
    steady = λ steady. steady;
    sound = λ sound. refl;
    cause = tt;
    counts = record { of_reads = refl; of_writes = refl };
    reads_stand = refl;
    written = λ was told. ap (λ (l : List ℕ). Some (put l place bytes)) (some_is image was told);
    failed = λ was told. tt;
    adds = λ was told. record { moment = omega arith; anew = λ t call c le left. inl left };
    tells = λ tells. absurd (false≢true tells);
    torn_stands = refl;
    torn = λ tells. absurd (false≢true tells);
  }

  module _ (log : LogState) (leads : image ≡ replayed log.first log.writes) where
    later : length log.writes ≤ length (with_write log place bytes).writes
    later = omega (arith, length-append log.writes (record { place = place; bytes = bytes } ∷ []))

    logged_wrote : (x : T) → Writes (logged_state geometry image log) (logged_state geometry (put image place bytes) (with_write log place bytes)) place bytes (Ok x)
    logged_wrote x = record {
      kept = record {
        geometry = refl;
        label = refl;
        tells_image = refl;
        tells_moments = refl;
        tells_torn = refl;
        read_faults = omega arith;
        write_faults = omega arith;
        sound = λ sound. sound;
        moment = later;
        told = λ t call c le left. moments_stand log place bytes t call c left;
      };
      steady = λ steady. steady;
      sound = λ sound. absurd (false≢true sound);
      cause = tt;
      counts = record { of_reads = refl; of_writes = refl };
      reads_stand = refl;
      written = λ was told. ap (λ (l : List ℕ). Some (put l place bytes)) (some_is image was told);
      failed = λ was told. tt;
      adds = λ was told. record {
        moment = later;
        anew = λ t call c le left. ⊎_elim (λ old. inl old)
            (λ new. inr (new, λ none. refl))
            (moments_anew log place bytes was (sym (some_is image was told) ∙ leads) t call c left);
      };
      tells = λ tells was told. record {
        inside = λ c torn. inside_is_told log place bytes was (sym (some_is image was told) ∙ leads) c torn;
        behind = behind_is_told log place bytes was (sym (some_is image was told) ∙ leads);
        failed = tt;
      };
      torn_stands = refl;
      torn = λ tells. absurd (false≢true tells);
    }

  -- a fault that leaves all but the count
  logged_failed : (log : LogState) → Writes {T = T} (logged_state geometry image log) (logged_state geometry image (with_refusal log)) place bytes (Err Write)
  logged_failed log = record {
    kept = record {
      geometry = refl;
      label = refl;
      tells_image = refl;
      tells_moments = refl;
      tells_torn = refl;
      read_faults = omega arith;
      write_faults = counted-ge log.faults;
      sound = λ sound. sound;
      moment = omega arith;
      told = λ t call c le left. left;
    };
    steady = λ steady. tt;
    sound = λ sound. absurd (false≢true sound);
    cause = (refl, Rose-counted log.faults);
    counts = tt;
    reads_stand = refl;
    written = λ was told. tt;
    failed = λ was told left stands. subst (λ (l : List ℕ). Torn place (length bytes) was l) (some_is was left (sym told ∙ stands)) (Torn-refl place (length bytes) was);
    adds = λ was told. record { moment = omega arith; anew = λ t call c le left. inl left };
    tells = λ tells was told. record { inside = tt; behind = tt; failed = inl told };
    torn_stands = tt;
    torn = λ tells. absurd (false≢true tells);
  }

  -- a write that went on
  pub device_wrote : (image_now : List ℕ) (log log_now : Option LogState) (x : T) → LeadsTo log image → image_now ≡ put image place bytes → log_now ≡ kept log place bytes
      → Writes (device_state geometry image log) (device_state geometry image_now log_now) place bytes (Ok x)
  device_wrote image_now None log_now x leads image_is log_is =
      subst (λ (l : Option LogState). Writes (memory_state geometry image) (device_state geometry image_now l) place bytes (Ok x)) (sym log_is)
      (subst (λ (l : List ℕ). Writes (memory_state geometry image) (memory_state geometry l) place bytes (Ok x)) (sym image_is) (memory_wrote x))
  device_wrote image_now (Some log) log_now x leads image_is log_is =
      subst (λ (l : Option LogState). Writes (logged_state geometry image log) (device_state geometry image_now l) place bytes (Ok x)) (sym log_is)
      (subst (λ (l : List ℕ). Writes (logged_state geometry image log) (logged_state geometry l (with_write log place bytes)) place bytes (Ok x)) (sym image_is) (logged_wrote log (leads log refl) x))

  -- one for which the log is full
  pub device_failed : (log log_now : Option LogState) (r : Result T FlashFault) (n : ℕ) → IsFull log n → log_now ≡ refused log → IsErr r → IfErr r (λ f. f ≡ Write)
      → Writes (device_state geometry image log) (device_state geometry image log_now) place bytes r
  device_failed log log_now (Ok x) n full log_is is same = absurd (false≢true is)
  device_failed log log_now (Err Read) n full log_is is same = cc same
  device_failed None log_now (Err Write) n full log_is is same = absurd full
  device_failed (Some log) log_now (Err Write) n full log_is is same =
      subst (λ (l : Option LogState). Writes {T = T} (logged_state geometry image log) (device_state geometry image l) place bytes (Err Write)) (sym log_is) (logged_failed log)

  pub leads_kept : (image_now : List ℕ) (log log_now : Option LogState) → LeadsTo log image → image_now ≡ put image place bytes → log_now ≡ kept log place bytes → LeadsTo log_now image_now
  leads_kept image_now None log_now leads image_is log_is next is = not_both (sym is ∙ log_is)
  leads_kept image_now (Some log) log_now leads image_is log_is next is =
      let same : with_write log place bytes ≡ next = some_is (with_write log place bytes) next (sym log_is ∙ is) in
      image_is
      ∙ ap (λ (l : List ℕ). put l place bytes) (leads log refl)
      ∙ sym (replayed_more log.first log.writes (record { place = place; bytes = bytes }))
      ∙ ap (λ (l : LogState). replayed l.first l.writes) same
