-- What a cut leaves of the other keys.
use Rattle.std.proofs.Common.{◌≡◌, ◌≢◌, ℕ, Bool, true, false, List, Option, Some, None, refl, sym, ap, subst}
use Rattle.std.specs.Prelude.{if◌then◌else◌}
use Rattle.std.specs.Option.{option_map_or}
use Rattle.kv_model.specs.declared.error.KvError.{KvError}
use Rattle.kv_model.specs.declared.error.KvError.TheVariants as error
use Rattle.kv_model.specs.Checks.{first_refusal}
use Rattle.kv_model.specs.Constants.{Constants}
use Rattle.kv_model.specs.Flags.{is_mirrored}
use Rattle.kv_model.specs.Operations.{Operation, Set, Finish, Remove}
use Rattle.kv_model.specs.Rules.{after_refusal, before_doubt, refused_or}
use Rattle.kv_model.specs.StoreState.{Maps, StoreState, OpenSet, maps_of}
use Rattle.kv_model.proofs.LimitLemmas.{one_of_three}
use Rattle.sealed_pair.specs.Sealing.{record_entry, with_record, without_key}
use Rattle.sealed_pair.specs.SecureStep.{finished, finished_record, secure_checks, secure_effect, secure_rules, set_record}
use Rattle.sealed_pair.specs.Laws.{LeavesKey, LeavesOthers}
use Rattle.sealed_pair.proofs.ViewLemmas.{get_kept, get_other, other_tag}

record_leaves : (maps : Maps) (key other : List ℕ) (flags : ℕ) (bytes : List ℕ) → other ≢ key → LeavesKey maps (with_record maps key flags bytes) other
record_leaves maps key other flags bytes differs =
    (get_other maps.primary key other (record_entry flags bytes) differs, other_tag maps key other bytes flags (is_mirrored flags) differs)

without_leaves : (maps : Maps) (key other : List ℕ) → other ≢ key → LeavesKey maps (without_key maps key) other
without_leaves maps key other differs = (get_kept maps.primary key other differs, get_kept maps.rollback key other differs)

module _ (constants : Constants) (state : StoreState) (who : ℕ) where
  abbrev before : StoreState
  before = before_doubt (secure_rules constants) state

  module _ (operation : Operation) (key : List ℕ)
      (granted : (other : List ℕ) → other ≢ key → LeavesKey (maps_of state) (maps_of (secure_effect constants before who operation).state) other)
      (stays : (e : KvError) → maps_of (after_refusal before operation e) ≡ maps_of before) where
    abbrev Leaves : Maps → Type 0
    Leaves maps = (other : List ℕ) → other ≢ key → LeavesKey (maps_of state) maps other

    abbrev after : Option KvError → Maps
    after found = maps_of (refused_or (secure_rules constants) before who operation found).state

    whole_left : (found : Option KvError) → Leaves (after found)
    whole_left None other differs = granted other differs
    whole_left (Some e) other differs = subst (λ (m : Maps). LeavesKey (maps_of state) m other) (sym (stays e)) (refl, refl)

    half_left : (found : Option KvError) → Leaves (record { primary = (after found).primary; rollback = state.rollback })
    half_left found other differs = ((whole_left found other differs).0, refl)

    cut_leaves : LeavesOthers constants state who operation key
    cut_leaves maps cut =
        let found : Option KvError = first_refusal (secure_checks constants before who operation) in
        one_of_three Leaves _ _ _ maps (λ other differs. (refl, refl)) (half_left found) (whole_left found) cut.0 cut.1 cut.2

  pub set_leaves : (key value : List ℕ) (flags : ℕ) → LeavesOthers constants state who (Set key value flags) key
  set_leaves key value flags =
      cut_leaves (Set key value flags) key (λ other differs. record_leaves (maps_of before) key other flags (set_record constants before key value flags) differs) (λ e. refl)

  pub remove_leaves : (key : List ℕ) → LeavesOthers constants state who (Remove key) key
  remove_leaves key = cut_leaves (Remove key) key (λ other differs. without_leaves (maps_of before) key other differs) (λ e. refl)

  finish_stays : (e : KvError) → maps_of (after_refusal before Finish e) ≡ maps_of before
  finish_stays error.InvalidSize = refl
  finish_stays e = refl

  abbrev ended : OpenSet → StoreState
  ended set = record before { primary = (finished constants before set).primary; rollback = (finished constants before set).rollback; open_set = None }

  finished_leaves : (set : OpenSet) (is_remove : Bool) (other : List ℕ) → other ≢ set.key
      → LeavesKey (maps_of state) (if is_remove then without_key (maps_of before) set.key else with_record (maps_of before) set.key set.flags (finished_record constants before set)) other
  finished_leaves set true other differs = without_leaves (maps_of before) set.key other differs
  finished_leaves set false other differs = record_leaves (maps_of before) set.key other set.flags (finished_record constants before set) differs

  pub finish_leaves : (set : OpenSet) → state.open_set ≡ Some set → LeavesOthers constants state who Finish set.key
  finish_leaves set is =
      cut_leaves Finish set.key
      (λ other differs. subst (λ (m : Maps). LeavesKey (maps_of state) m other) (sym (ap (λ (o : Option OpenSet). maps_of (option_map_or ended o before)) is))
      (finished_leaves set set.is_remove other differs))
      finish_stays
