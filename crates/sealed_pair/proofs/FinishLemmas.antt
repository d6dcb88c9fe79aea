-- What a mount shows of the finish of a set that was cut between the two stores, and of any set and remove.
use Rattle.std.proofs.Common.{◌≡◌, ◌⊎◌, inl, inr, ℕ, ◌-◌, ◌<◌, ◌^◌, Bool, true, false, List, length, Option, Some, None, IfSome, MatchBool, refl, sym, ◌∙◌, ap, subst, true≢false}
use Rattle.std.specs.Prelude.{if◌then◌else◌, is_some}
use Rattle.std.specs.Option.{option_map_or}
use Rattle.std.specs.FinMap.{get}
use Rattle.kv_model.specs.declared.error.KvError.{KvError}
use Rattle.kv_model.specs.declared.error.KvError.TheVariants as error
use Rattle.kv_model.specs.Checks.{first_refusal}
use Rattle.kv_model.specs.Constants.{Constants}
use Rattle.kv_model.specs.FlaggedMap.{Stored}
use Rattle.kv_model.specs.Flags.{is_mirrored, is_write_once}
use Rattle.kv_model.specs.Limits.{IsActive, IsSet}
use Rattle.kv_model.specs.Operations.{Finish}
use Rattle.kv_model.specs.Rules.{after_refusal, before_doubt, refused_or}
use Rattle.kv_model.specs.StoreState.{Maps, StoreState, OpenSet, maps_of}
use Rattle.kv_model.proofs.LimitLemmas.{one_of_three}
use Rattle.secure_record.specs.declared.metadata.Metadata.{Metadata}
use Rattle.secure_record.specs.Sealed.{sealed_metadata, sealed_vector}
use Rattle.secure_record.specs.Unseal.{Opened, unseal}
use Rattle.sealed_pair.specs.Sealing.{is_numbered, secure_of, with_record, without_key}
use Rattle.sealed_pair.specs.View.{View, Held, RollbackFailed, holds_tag, view_by, view_unsealed}
use Rattle.sealed_pair.specs.Heal.{heal}
use Rattle.sealed_pair.specs.SecureStep.{finished, finished_record, secure_checks, secure_rules}
use Rattle.sealed_pair.specs.Limits.{ForActive, IsReserved, secure_starts}
use Rattle.sealed_pair.specs.Laws.{ShowsOldOrSet, mounted_view}
use Rattle.sealed_pair.proofs.CutLemmas.{IsSealed, half, half_shown, whole_shown, mirrors, prior_is, second_false, small_before}
use Rattle.sealed_pair.proofs.LimitLemmas.{finish_seals}
use Rattle.sealed_pair.proofs.SealLemmas.{HaveForm, metadata_in_seal}
use Rattle.sealed_pair.proofs.SetLemmas.{SealsOpen, finish_opens}

-- ---- the finish of a set

module _ (opens : SealsOpen) (form : HaveForm) (constants : Constants) (state : StoreState) (small : state.next_vector < 2 ^ 64) (n : ℕ) (set : OpenSet)
    (valid : IsSet secure_starts state.rollback n set) where
  abbrev number : ℕ
  number = if is_numbered set.flags then state.next_vector - 1 else 0

  abbrev metadata : Metadata
  metadata = sealed_metadata (length set.bytes) set.flags number set.prior

  abbrev bytes : List ℕ
  bytes = finished_record constants state set

  module _ (tag : Stored) (stands : get state.rollback set.key ≡ Some tag) where
    finish_sealed : IsSealed constants (maps_of state) set.key bytes set.bytes set.flags (sealed_vector set.flags number) metadata
    finish_sealed =
        let opened = finish_opens opens constants state small n set valid in
        record {
          opens = opened;
          named = metadata_in_seal form (secure_of constants).root set.key set.flags number set.prior set.bytes _ opened (finish_seals constants state small n set valid);
          same = refl;
          mirrored = mirrors (is_mirrored set.flags) (get state.rollback set.key) tag valid.not_mirrored stands;
        }

    half_finish : length tag.bytes ≡ 16 → IsReserved constants (maps_of state) set.key set.size set.flags
        → mounted_view constants (half constants (maps_of state) set.key bytes set.bytes set.flags (sealed_vector set.flags number) metadata) set.key ≡ Held set.flags set.bytes
    half_finish long reserved =
        half_shown constants (maps_of state) set.key bytes set.bytes set.flags (sealed_vector set.flags number) metadata tag finish_sealed stands
        (valid.prior ∙ prior_is (is_mirrored set.flags) (get state.rollback set.key) tag finish_sealed.mirrored stands long)
        (ap (λ (o : Option Stored). is_write_once (option_map_or (λ (s : Stored). s.flags) o 0)) (sym stands) ∙ second_false _ _ reserved.free)
        (reserved.room_beside finish_sealed.mirrored)

    whole_finish : mounted_view constants (with_record (maps_of state) set.key set.flags bytes) set.key ≡ Held set.flags set.bytes
    whole_finish = whole_shown constants (maps_of state) set.key bytes set.bytes set.flags (sealed_vector set.flags number) metadata finish_sealed

module _ (opens : SealsOpen) (form : HaveForm) (constants : Constants) (state : StoreState) (small : state.next_vector < 2 ^ 64) (n who : ℕ) (tag : Stored) (long : length tag.bytes ≡ 16) where
  abbrev before : StoreState
  before = before_doubt (secure_rules constants) state

  small_then : before.next_vector < 2 ^ 64
  small_then = small_before state.next_vector state.doubt small

  abbrev Shows : OpenSet → Maps → Type 0
  Shows set maps = (mounted_view constants maps set.key ≡ mounted_view constants (maps_of state) set.key) ⊎ (mounted_view constants maps set.key ≡ Held set.flags set.bytes)

  -- the maps after the call, and those of them in the primary store alone
  abbrev Both : OpenSet → Maps → Type 0
  Both set maps = Shows set (record { primary = maps.primary; rollback = state.rollback }) × Shows set maps

  both_of : (set : OpenSet) (is_remove : Bool) → is_remove ≡ false → MatchBool is_remove (set.prior ≡ None) (IsSet secure_starts state.rollback n set)
      → MatchBool is_remove (Unit {0}) (IsReserved constants (maps_of state) set.key set.size set.flags) → get state.rollback set.key ≡ Some tag
      → Both set (if is_remove then without_key (maps_of state) set.key else with_record (maps_of state) set.key set.flags (finished_record constants before set))
  both_of set true is valid reserved stands = absurd (true≢false is)
  both_of set false is valid reserved stands =
      (inr (half_finish opens form constants before small_then n set valid tag stands long reserved), inr (whole_finish opens form constants before small_then n set valid tag stands))

  abbrev ended : OpenSet → StoreState
  ended set = record before { primary = (finished constants before set).primary; rollback = (finished constants before set).rollback; open_set = None }

  both_open : (set : OpenSet) (open_set : Option OpenSet) → open_set ≡ Some set → set.is_remove ≡ false → IfSome open_set (IsActive secure_starts state.rollback n)
      → IfSome open_set (ForActive constants (maps_of state)) → get state.rollback set.key ≡ Some tag → Both set (maps_of (option_map_or ended open_set before))
  both_open set None is ends valid reserved stands = absurd (cc is)
  both_open set (Some s) is ends valid reserved stands =
      let same : s ≡ set = cc is in
      subst (λ (x : OpenSet). Both x (finished constants before s)) same
      (both_of s s.is_remove (ap (λ (x : OpenSet). x.is_remove) same ∙ ends) valid reserved (ap (λ (x : OpenSet). get state.rollback x.key) same ∙ stands))

  stands_still : (set : OpenSet) (e : KvError) → Both set (maps_of (after_refusal before Finish e))
  stands_still set error.InvalidSize = (inl refl, inl refl)
  stands_still set e = (inl refl, inl refl)

  both_after : (set : OpenSet) (found : Option KvError) → state.open_set ≡ Some set → set.is_remove ≡ false → IfSome state.open_set (IsActive secure_starts state.rollback n)
      → IfSome state.open_set (ForActive constants (maps_of state)) → get state.rollback set.key ≡ Some tag
      → Both set (maps_of (refused_or (secure_rules constants) before who Finish found).state)
  both_after set None is ends valid reserved stands = both_open set state.open_set is ends valid reserved stands
  both_after set (Some e) is ends valid reserved stands = stands_still set e

  pub cut_finish_shows : (set : OpenSet) → state.open_set ≡ Some set → set.is_remove ≡ false → IfSome state.open_set (IsActive secure_starts state.rollback n)
      → IfSome state.open_set (ForActive constants (maps_of state)) → get state.rollback set.key ≡ Some tag
      → ShowsOldOrSet constants state who Finish set.key (Held set.flags set.bytes)
  cut_finish_shows set is ends valid reserved stands maps cut =
      let both = both_after set (first_refusal (secure_checks constants before who Finish)) is ends valid reserved stands in
      one_of_three (Shows set) _ _ _ maps (inl refl) both.0 both.1 cut.0 cut.1 cut.2

-- ---- any set

held_or_failed : (mirrored holds other : Bool) (v : View)
    → ((if mirrored then (if holds then v else RollbackFailed) else if other then RollbackFailed else v) ≡ v)
    ⊎ ((if mirrored then (if holds then v else RollbackFailed) else if other then RollbackFailed else v) ≡ RollbackFailed)
held_or_failed true true other v = inl refl
held_or_failed true false other v = inr refl
held_or_failed false holds true v = inr refl
held_or_failed false holds false v = inl refl

-- maps whose primary map has the record of a value show that value, or that the stores don't belong together
pub record_shown : (constants : Constants) (maps : Maps) (key bytes : List ℕ) (kept : ℕ) (o : Opened) → get maps.primary key ≡ Some (record { flags = kept; bytes = bytes })
    → unseal (secure_of constants).root key bytes ≡ Some o
    → (mounted_view constants maps key ≡ Held o.flags o.value) ⊎ (mounted_view constants maps key ≡ RollbackFailed)
record_shown constants maps key bytes kept o found opened =
    let tag : Option Stored = get (heal (secure_of constants) maps).rollback key in
    let is = ap (λ (s : Option Stored). view_by (secure_of constants).root key s tag) found ∙ ap (view_unsealed bytes tag) opened in
    subst (λ (v : View). (v ≡ Held o.flags o.value) ⊎ (v ≡ RollbackFailed)) (sym is)
    (held_or_failed (is_mirrored o.flags) (holds_tag bytes tag) (is_some tag) (Held o.flags o.value))
