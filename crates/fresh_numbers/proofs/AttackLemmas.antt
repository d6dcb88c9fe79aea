-- The attack that fresh numbers bar.
use Rattle.std.proofs.Common.{◌≡◌, ℕ, List, Option, Some, None, refl, arith, true≢false}
use Rattle.std.specs.FinMap.{empty}
use Rattle.kv_model.specs.Constants.{Secure}
use Rattle.kv_model.specs.StoreState.{Maps}
use Rattle.secure_record.specs.declared.metadata.Metadata.{Metadata}
use Rattle.secure_record.specs.Sealed.{sealed_metadata, sealed_vector}
use Rattle.secure_record.specs.Unseal.{unseal}
use Rattle.std.specs.Prelude.{length}
use Rattle.sealed_pair.specs.Laws.{mounted_view}
use Rattle.sealed_pair.specs.Sealing.{secure_of, tag_entry, tag_of}
use Rattle.sealed_pair.specs.View.{Held, view_of}
use Rattle.sealed_pair.proofs.CutLemmas.{half_shown}
use Rattle.sealed_pair.proofs.SealLemmas.{HaveForm, metadata_in_seal}
use Rattle.sealed_pair.proofs.SetLemmas.{SealsOpen}
use Rattle.sealed_pair.proofs.ViewLemmas.{get_same, stored_held}
use Rattle.fresh_numbers.specs.Attacks.{Attack, IsPossible, copy_put_back, first_record, protected_flags, second_record, set_again}

module _ (opens : SealsOpen) (form : HaveForm) (a : Attack) (may : IsPossible a) where
  abbrev secure : Secure
  secure = secure_of a.constants

  abbrev none : Maps
  none = record { primary = empty; rollback = empty }

  pub shows_first : view_of secure.root (set_again a) a.key ≡ Held protected_flags a.first
  shows_first =
      let most = may.may_first.most in
      stored_held secure.root none a.key (first_record a) (record { flags = protected_flags; vector = sealed_vector protected_flags a.number; value = a.first })
      (opens secure.root a.key protected_flags a.number None a.first may.may_first.secure may.may_first.number may.may_first.replaced (omega (arith, most)))
      (λ plain. absurd (true≢false plain))

  abbrev prior : Option (List ℕ)
  prior = Some (tag_of (first_record a))

  second_opens : unseal secure.root a.key (second_record a) ≡ Some (record { flags = protected_flags; vector = sealed_vector protected_flags a.later; value = a.second })
  second_opens =
      let most = may.may_second.most in
      opens secure.root a.key protected_flags a.later prior a.second may.may_second.secure may.may_second.number may.may_second.replaced (omega (arith, most))

  abbrev metadata : Metadata
  metadata = sealed_metadata (length a.second) protected_flags a.later prior

  abbrev below : Maps
  below = record { primary = empty; rollback = (set_again a).rollback }

  pub shows_second : mounted_view a.constants (copy_put_back a) a.key ≡ Held protected_flags a.second
  shows_second =
      half_shown a.constants below a.key (second_record a) a.second protected_flags (sealed_vector protected_flags a.later) metadata (tag_entry protected_flags (first_record a))
      (record {
        opens = second_opens;
        named = metadata_in_seal form secure.root a.key protected_flags a.later prior a.second _ second_opens may.may_second;
        same = refl;
        mirrored = refl;
      })
      (get_same empty a.key (tag_entry protected_flags (first_record a))) refl refl may.room
