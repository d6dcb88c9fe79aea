-- What a mount shows of the keys that a cut left.
use Rattle.std.proofs.Common.{◌≡◌, ◌⊎◌, ℕ, Bool, true, false, List, Option, Some, None, refl, ◌∙◌, ap, ap₂, inl, inr}
use Rattle.std.specs.Prelude.{if◌then◌else◌, ◌&&◌}
use Rattle.std.specs.Option.{option_map, option_map_or}
use Rattle.std.specs.FinMap.{get}
use Rattle.kv_model.specs.Constants.{Constants}
use Rattle.kv_model.specs.FlaggedMap.{Stored}
use Rattle.kv_model.specs.Operations.{Operation}
use Rattle.kv_model.specs.StoreState.{Maps, StoreState, maps_of}
use Rattle.secure_record.specs.declared.metadata.Metadata.{Metadata}
use Rattle.sealed_pair.specs.Heal.{fits_tag, healed_by, is_prior, metadata_in}
use Rattle.sealed_pair.specs.Laws.{LeavesKey, LeavesOthers, ShowsOthers, completed_view, mounted_view}
use Rattle.sealed_pair.specs.Sealing.{secure_of, tag_entry}
use Rattle.sealed_pair.specs.View.{view_by, view_of}
use Rattle.sealed_pair.proofs.HealLemmas.{get_healed}

and_false : (a : Bool) → (a && false) ≡ false
and_false true = refl
and_false false = refl

-- without room a tag stays
no_room : (bytes : List ℕ) (m : Option Metadata) (tag : Stored) → healed_by false bytes m tag ≡ tag
no_room bytes None tag = refl
no_room bytes (Some m) tag = ap (λ (b : Bool). if b then tag_entry m.flags bytes else tag) (and_false (is_prior m.prior tag))

module _ (root key : List ℕ) where
  abbrev healed_so : Bool → Option Stored → Stored → Stored
  healed_so fits found tag = option_map_or (λ (s : Stored). healed_by fits s.bytes (metadata_in root key s.bytes) tag) found tag

  by_room : (fits : Bool) (found : Option Stored) (tag : Stored) → (healed_so fits found tag ≡ tag) ⊎ (healed_so fits found tag ≡ healed_so true found tag)
  by_room true found tag = inr refl
  by_room false None tag = inl refl
  by_room false (Some s) tag = inl (no_room s.bytes (metadata_in root key s.bytes) tag)

  shown : (fits : Bool) (found tag : Option Stored)
      → (view_by root key found (option_map (healed_so fits found) tag) ≡ view_by root key found tag)
      ⊎ (view_by root key found (option_map (healed_so fits found) tag) ≡ view_by root key found (option_map (healed_so true found) tag))
  shown fits found None = inl refl
  shown fits found (Some tag) =
      elim (by_room fits found tag) [
        | inl same ↦ inl (ap (λ (t : Stored). view_by root key found (Some t)) same)
        | inr same ↦ inr (ap (λ (t : Stored). view_by root key found (Some t)) same)
      ]

module _ (constants : Constants) (old new : Maps) (key : List ℕ) (leaves : LeavesKey old new key) where
  abbrev root : List ℕ
  root = (secure_of constants).root

  abbrev fits : Bool
  fits = fits_tag (secure_of constants) new key

  -- the mounted view, by what the stores held before
  as_before : mounted_view constants new key ≡ view_by root key (get old.primary key) (option_map (healed_so root key fits (get old.primary key)) (get old.rollback key))
  as_before =
      ap (view_by root key (get new.primary key)) (get_healed (secure_of constants) new key)
      ∙ ap₂ (λ (found tag : Option Stored). view_by root key found (option_map (healed_so root key fits found) tag)) leaves.0 leaves.1

  pub shows_other : (mounted_view constants new key ≡ view_of root old key) ⊎ (mounted_view constants new key ≡ completed_view constants old key)
  shows_other =
      elim (shown root key fits (get old.primary key) (get old.rollback key)) [
        | inl same ↦ inl (as_before ∙ same)
        | inr same ↦ inr (as_before ∙ same)
      ]

pub shows_others : (constants : Constants) (state : StoreState) (who : ℕ) (operation : Operation) (key : List ℕ)
    → LeavesOthers constants state who operation key → ShowsOthers constants state who operation key
shows_others constants state who operation key leaves maps cut other differs = shows_other constants (maps_of state) maps other (leaves maps cut other differs)
