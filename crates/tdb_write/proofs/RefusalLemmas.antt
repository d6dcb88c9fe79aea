-- Why a copy of a log's records is refused.
use Rattle.std.proofs.Common.{◌≡◌, ◌≢◌, ◌⊎◌, ℕ, List, inl, inr, ⊎_elim, refl, sym, ◌∙◌, ap, subst, arith}
use Rattle.std.specs.Prelude.{Option, Some, None, Result, Ok, Err, IfErr}
use Rattle.std.specs.Option.{ForSome}
use Rattle.flash_core.specs.Runs.{RunsBy}
use Rattle.flash_core.specs.State.{DeviceCall, FlashState}
use Rattle.kv_model.specs.declared.error.KvError.{KvError}
use Rattle.kv_model.specs.declared.error.KvError.TheVariants.{Corrupt, ReadFault, WriteFault}
use Rattle.kv_model.specs.Write.{Write}
use Rattle.record_core.specs.Endings.{kv_ended, kv_ending}
use Rattle.area_log.specs.Areas.{first_place}
use Rattle.area_collect.specs.Collection.{CanCopy}
use Rattle.area_collect.specs.Copies.{Copy, IsNotCopied, IsNotReadAt}
use Rattle.area_collect.specs.Payload.{IsFault}
use Rattle.tdb_read.specs.Reads.{IsReadRefusal}
use Rattle.tdb_write.specs.Changes.{IsCopyRefusal}

none_if : {X : Type 0} (o : Option X) → ((x : X) → o ≡ Some x → ⊥) → o ≡ None
none_if None never = refl
none_if (Some x) never = absurd (never x refl)

no_fault : (stored computed : ℕ) (e : KvError) → e ≡ Corrupt stored computed → IsFault e → ⊥
no_fault stored computed e is (inl fault) = let same : Corrupt stored computed ≡ ReadFault = sym is ∙ fault in absurd (cc)
no_fault stored computed e is (inr fault) = let same : Corrupt stored computed ≡ WriteFault = sym is ∙ fault in absurd (cc)

-- a record that was not read: two values that differ
not_read : (s : FlashState) (place room : ℕ) (e : KvError) → IsNotReadAt s place room e → (stored : ℕ) × (computed : ℕ) × (stored ≢ computed) × (e ≡ Corrupt stored computed)
not_read s place room e (inl broken) = (_, _, (λ same. omega (arith, same)), broken.is)
not_read s place room e (inr wrong) = (wrong.header.crc, _, wrong.differ, wrong.is)

module _ (old new : FlashState) (R : List ℕ → Option DeviceCall → List ℕ → Type 0) (copy : Copy) (place : ℕ) where
  fault_refused : (e : KvError) → RunsBy old new R (kv_ending e) → IsFault e → IsCopyRefusal old new e
  fault_refused e runs (inl read) = inr (subst (IsReadRefusal old new) (sym read) (subst (λ (x : KvError). RunsBy old new R (kv_ending x)) read runs).cause)
  fault_refused e runs (inr write) = inl write

  refused : (e : KvError) → (told : ForSome old.image (λ image. (records : List Write) × CanCopy old.geometry image copy records))
      → ForSome old.image (λ image. (records : List Write) → CanCopy old.geometry image copy records → IsFault e)
      → RunsBy old new R (kv_ending e) → IsFault e ⊎ IsNotCopied old copy place e → IsCopyRefusal old new e
  refused e stand only runs (inl fault) = fault_refused e runs fault
  refused e stand only runs (inr failed) =
      let why = not_read old failed.this.offset _ e failed.not_read in
      let untold : old.image ≡ None = none_if old.image (λ image told. no_fault why.0 why.1 e why.3 (only image told (stand image told).0 (stand image told).1)) in
      inr (subst (IsReadRefusal old new) (sym why.3) (why.2, untold))

  pub copy_refused : {T : Type 0} (result : Result T KvError) → ForSome old.image (λ image. (records : List Write) × CanCopy old.geometry image copy records)
      → ForSome old.image (λ image. (records : List Write) → CanCopy old.geometry image copy records → IfErr result IsFault)
      → RunsBy old new R (kv_ended result) → IfErr result (λ e. IsFault e ⊎ IsNotCopied old copy place e) → IfErr result (IsCopyRefusal old new)
  copy_refused (Ok x) stand only runs cause = tt
  copy_refused (Err e) stand only runs cause = refused e stand only runs cause
