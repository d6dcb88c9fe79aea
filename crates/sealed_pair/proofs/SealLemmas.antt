-- What a secure store seals: sizes, tags and metadata.
use Rattle.std.proofs.Common.{◌≡◌, ℕ, ◌+◌, ◌-◌, ◌<◌, ◌^◌, Bool, true, false, ◌==◌, List, length, drop, take, Option, None, Some, refl, sym, ◌∙◌, ap, arith}
use Rattle.std.specs.Prelude.{if◌then◌else◌, is_some}
use Rattle.secure_record.specs.declared.metadata.Metadata.{Metadata}
use Rattle.secure_record.specs.Metadata.{metadata_of, record_size, IsMetadata}
use Rattle.secure_record.specs.Sealed.{record_tag, seal, sealed, sealed_metadata, sealed_vector, metadata2, stored, tag}
use Rattle.secure_record.specs.Unseal.{Opened, unseal}
use Rattle.secure_record.proofs.BodyLemmas.{length-stored}
use Rattle.sealed_pair.specs.declared.limits.TheConstants.{SEAL_SIZE}
use Rattle.sealed_pair.specs.Sealing.{tag_of}
use Rattle.sealed_pair.specs.Heal.{metadata_in}
use Rattle.sealed_pair.specs.Laws.{MaySeal}

-- the form of sealed records
pub record HaveForm : Type 0 where
  pub size : (root key : List ℕ) (m : Metadata) (value : List ℕ) → IsMetadata m → length value ≡ m.size → length (sealed root key m value) ≡ record_size m
  pub tag : (root key : List ℕ) (m : Metadata) (value : List ℕ)
      → drop (length (sealed root key m value) - 16) (sealed root key m value) ≡ record_tag root key m (stored root key m.flags m.vector value)
  pub metadata : (root key : List ℕ) (m : Metadata) (value : List ℕ) → IsMetadata m → length value ≡ m.size
      → metadata_of (take 40 (sealed root key m value)) (length (sealed root key m value)) ≡ Some m

small_or_zero : (b : Bool) (n : ℕ) → n < 2 ^ 64 → (if b then 0 else n) < 2 ^ 64
small_or_zero true n small = omega arith
small_or_zero false n small = small

module _ (form : HaveForm) (root key : List ℕ) (flags iv : ℕ) (prior : Option (List ℕ)) (value : List ℕ) where
  pub is_metadata : MaySeal flags iv prior value → IsMetadata (sealed_metadata (length value) flags iv prior)
  is_metadata may = record { size = omega (arith, may.most); flags = may.secure; vector = small_or_zero (flags == 0) iv may.number; prior = may.replaced }

  pub length-seal : MaySeal flags iv prior value → length (seal root key flags iv prior value) ≡ length value + SEAL_SIZE
  length-seal may =
      let size = form.size root key (sealed_metadata (length value) flags iv prior) value (is_metadata may) refl in
      omega (arith, size)

  pub tag_of_seal : tag_of (seal root key flags iv prior value) ≡ tag root key flags (sealed_vector flags iv) prior (stored root key flags (sealed_vector flags iv) value)
  tag_of_seal =
      let bytes : List ℕ = stored root key flags (sealed_vector flags iv) value in
      form.tag root key (sealed_metadata (length value) flags iv prior) value
      ∙ ap (λ (n : ℕ). record_tag root key (metadata2 n flags (sealed_vector flags iv) prior) bytes) (sym (length-stored root key flags (sealed_vector flags iv) value))

  in_sealed : (found : Option Opened) (o : Opened) (m : Option Metadata) → found ≡ Some o → (if is_some found then m else None) ≡ m
  in_sealed None o m is = absurd (cc is)
  in_sealed (Some p) o m is = refl

  pub metadata_in_seal : (o : Opened) → unseal root key (seal root key flags iv prior value) ≡ Some o → MaySeal flags iv prior value
      → metadata_in root key (seal root key flags iv prior value) ≡ Some (sealed_metadata (length value) flags iv prior)
  metadata_in_seal o opens may =
      in_sealed (unseal root key (seal root key flags iv prior value)) o _ opens
      ∙ form.metadata root key (sealed_metadata (length value) flags iv prior) value (is_metadata may) refl
