-- What a mount shows of any set, remove or reset that was cut between the two stores.
use Rattle.std.proofs.Common.{◌≡◌, ◌⊎◌, inl, inr, ℕ, ◌<◌, ◌^◌, Bool, true, false, List, Option, Some, None, IfSome, MatchBool, refl, sym, ◌∙◌, ap, subst}
use Rattle.std.specs.Prelude.{if◌then◌else◌}
use Rattle.std.specs.Option.{option_map_or}
use Rattle.std.specs.Ordering.{nat_cmp}
use Rattle.std.specs.Cmp.Lexicographic.{slice_cmp}
use Rattle.std.specs.FinMap.{empty, get, insert, remove, get-empty}
use Rattle.kv_model.specs.declared.error.KvError.{KvError}
use Rattle.kv_model.specs.declared.error.KvError.TheVariants as error
use Rattle.kv_model.specs.Checks.{first_refusal}
use Rattle.kv_model.specs.Constants.{Constants}
use Rattle.kv_model.specs.FlaggedMap.{FlaggedMap, Stored}
use Rattle.kv_model.specs.Limits.{IsActive, IsSet}
use Rattle.kv_model.specs.Operations.{Operation, Set, Finish, Remove, Reset}
use Rattle.kv_model.specs.Rules.{after_refusal, before_doubt, refused_or}
use Rattle.kv_model.specs.StoreState.{Maps, StoreState, OpenSet, maps_of}
use Rattle.kv_model.proofs.LimitLemmas.{one_of_three}
use Rattle.sealed_pair.specs.Sealing.{record_entry, secure_of, with_record, without_key}
use Rattle.sealed_pair.specs.View.{View, Absent, Held, RollbackFailed, view_by}
use Rattle.sealed_pair.specs.Heal.{heal}
use Rattle.sealed_pair.specs.SecureStep.{finished, finished_record, secure_checks, secure_effect, secure_rules, set_record}
use Rattle.sealed_pair.specs.Limits.{secure_starts}
use Rattle.sealed_pair.specs.Laws.{ShowsOldSetOrFailed, mounted_view}
use Rattle.sealed_pair.proofs.CutLemmas.{small_before}
use Rattle.sealed_pair.proofs.FinishLemmas.{record_shown}
use Rattle.sealed_pair.proofs.SetLemmas.{SealsOpen, finish_opens, may_set, set_opens}
use Rattle.sealed_pair.proofs.ViewLemmas.{get_gone, get_same}

-- maps show this view of a key, or that the stores don't belong together
abbrev Sees : Constants → Maps → List ℕ → View → Type 0
Sees constants maps key want = (mounted_view constants maps key ≡ want) ⊎ (mounted_view constants maps key ≡ RollbackFailed)

lacking_sees : (constants : Constants) (maps : Maps) (key : List ℕ) → get maps.primary key ≡ None → Sees constants maps key Absent
lacking_sees constants maps key lacks =
    let tag : Option Stored = get (heal (secure_of constants) maps).rollback key in
    subst (λ (v : View). (v ≡ Absent) ⊎ (v ≡ RollbackFailed)) (sym (ap (λ (s : Option Stored). view_by (secure_of constants).root key s tag) lacks)) (by_tag tag)
  where
    by_tag : (tag : Option Stored) → (view_by (secure_of constants).root key None tag ≡ Absent) ⊎ (view_by (secure_of constants).root key None tag ≡ RollbackFailed)
    by_tag None = inl refl
    by_tag (Some tag) = inr refl

module _ (constants : Constants) (state : StoreState) (who : ℕ) where
  abbrev before : StoreState
  before = before_doubt (secure_rules constants) state

  module _ (operation : Operation) (key : List ℕ) (want : View)
      (granted : (rollback : FlaggedMap) → first_refusal (secure_checks constants before who operation) ≡ None
      → Sees constants (record { primary = (secure_effect constants before who operation).state.primary; rollback = rollback }) key want)
      (stays : (e : KvError) → maps_of (after_refusal before operation e) ≡ maps_of before) where
    abbrev Shows : Maps → Type 0
    Shows maps = (mounted_view constants maps key ≡ mounted_view constants (maps_of state) key) ⊎ Sees constants maps key want

    abbrev after : Option KvError → StoreState
    after found = (refused_or (secure_rules constants) before who operation found).state

    half_left : (found : Option KvError) → first_refusal (secure_checks constants before who operation) ≡ found → Shows (record { primary = (after found).primary; rollback = before.rollback })
    half_left None none = inr (granted before.rollback none)
    half_left (Some e) refused = inl (ap (λ (m : Maps). mounted_view constants (record { primary = m.primary; rollback = before.rollback }) key) (stays e))

    whole_left : (found : Option KvError) → first_refusal (secure_checks constants before who operation) ≡ found → Shows (maps_of (after found))
    whole_left None none = inr (granted (secure_effect constants before who operation).state.rollback none)
    whole_left (Some e) refused = inl (ap (λ (m : Maps). mounted_view constants m key) (stays e))

    any_cut : ShowsOldSetOrFailed constants state who operation key want
    any_cut maps cut =
        let found : Option KvError = first_refusal (secure_checks constants before who operation) in
        one_of_three Shows _ _ _ maps (inl refl) (half_left found refl) (whole_left found refl) cut.0 cut.1 cut.2

  finish_stays : (e : KvError) → maps_of (after_refusal before Finish e) ≡ maps_of before
  finish_stays error.InvalidSize = refl
  finish_stays e = refl

  abbrev ended : OpenSet → StoreState
  ended set = record before { primary = (finished constants before set).primary; rollback = (finished constants before set).rollback; open_set = None }

  finished_primary : (set : OpenSet) (is_remove : Bool) → state.open_set ≡ Some set → set.is_remove ≡ is_remove
      → (secure_effect constants before who Finish).state.primary
      ≡ (if is_remove then without_key (maps_of state) set.key else with_record (maps_of state) set.key set.flags (finished_record constants before set)).primary
  finished_primary set is_remove is ends =
      ap (λ (o : Option OpenSet). (option_map_or ended o before).primary) is
      ∙ ap (λ (b : Bool). (if b then without_key (maps_of state) set.key else with_record (maps_of state) set.key set.flags (finished_record constants before set)).primary) ends

  pub cut_remove : (key : List ℕ) → ShowsOldSetOrFailed constants state who (Remove key) key Absent
  cut_remove key =
      any_cut (Remove key) key Absent
      (λ rollback none. lacking_sees constants (record { primary = remove state.primary key; rollback = rollback }) key (get_gone state.primary key))
      (λ e. refl)

  pub cut_reset : (key : List ℕ) → ShowsOldSetOrFailed constants state who Reset key Absent
  cut_reset key =
      any_cut Reset key Absent
      (λ rollback none. lacking_sees constants (record { primary = empty; rollback = rollback }) key (get-empty (slice_cmp nat_cmp) key))
      (λ e. refl)

  pub cut_finish_remove : (set : OpenSet) → state.open_set ≡ Some set → set.is_remove ≡ true → ShowsOldSetOrFailed constants state who Finish set.key Absent
  cut_finish_remove set is ends =
      any_cut Finish set.key Absent
      (λ rollback none. lacking_sees constants (record { primary = (secure_effect constants before who Finish).state.primary; rollback = rollback }) set.key
      (ap (λ (m : FlaggedMap). get m set.key) (finished_primary set true is ends) ∙ get_gone state.primary set.key))
      finish_stays

  module _ (opens : SealsOpen) (small : state.next_vector < 2 ^ 64) where
    small_then : before.next_vector < 2 ^ 64
    small_then = small_before state.next_vector state.doubt small

    pub cut_set : (key value : List ℕ) (flags : ℕ) → ShowsOldSetOrFailed constants state who (Set key value flags) key (Held flags value)
    cut_set key value flags =
        any_cut (Set key value flags) key (Held flags value)
        (λ rollback none.
        let bytes : List ℕ = set_record constants before key value flags in
        let opened = set_opens opens constants before small_then key value flags (may_set constants before who key _ flags none) in
        record_shown constants (record { primary = insert before.primary key (record_entry flags bytes); rollback = rollback }) key bytes _ _ (get_same before.primary key (record_entry flags bytes)) opened)
        (λ e. refl)

    valid_of : (n : ℕ) (set : OpenSet) (found : Option OpenSet) → found ≡ Some set → set.is_remove ≡ false → IfSome found (IsActive secure_starts state.rollback n) → IsSet secure_starts state.rollback n set
    valid_of n set None is ends active = absurd (cc is)
    valid_of n set (Some s) is ends active =
        let same : s ≡ set = cc is in
        subst (λ (b : Bool). MatchBool b (set.prior ≡ None) (IsSet secure_starts state.rollback n set)) ends (subst (IsActive secure_starts state.rollback n) same active)

    pub cut_finish : (n : ℕ) (set : OpenSet) → state.open_set ≡ Some set → set.is_remove ≡ false → IfSome state.open_set (IsActive secure_starts state.rollback n)
        → ShowsOldSetOrFailed constants state who Finish set.key (Held set.flags set.bytes)
    cut_finish n set is ends active =
        any_cut Finish set.key (Held set.flags set.bytes)
        (λ rollback none.
        let bytes : List ℕ = finished_record constants before set in
        let opened = finish_opens opens constants before small_then n set (valid_of n set state.open_set is ends active) in
        record_shown constants (record { primary = (secure_effect constants before who Finish).state.primary; rollback = rollback }) set.key bytes _ _
        (ap (λ (m : FlaggedMap). get m set.key) (finished_primary set false is ends) ∙ get_same state.primary set.key (record_entry set.flags bytes)) opened)
        finish_stays
