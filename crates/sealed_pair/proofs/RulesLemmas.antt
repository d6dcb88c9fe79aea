-- The rules of a secure store are rules of a store.
use Rattle.std.proofs.Common.{◌≡◌, ℕ, List, ◌++◌, Option, Some, None, true, false, refl, sym, true≢false}
use Rattle.std.specs.Option.{option_map_or}
use Rattle.kv_model.specs.Constants.{Constants}
use Rattle.kv_model.specs.StoreState.{Maps, StoreState, OpenSet}
use Rattle.kv_model.specs.Operations.{Operation, Get, Part, Info, Set, Remove, RemoveStart, Start, Add, Finish, Abort, OpenIterator, Next, CloseIterator, Reset}
use Rattle.kv_model.specs.Rules.{AreRules, Outcome, is_refusal}
use Rattle.kv_model.specs.Rows.{shared_effect, position_of}
use Rattle.kv_model.specs.NextKey.{next_key}
use Rattle.kv_model.specs.Iterations.{SharesIterators, is_of_iterators}
use Rattle.kv_model.proofs.RulesLemmas.{advanced_grants}
use Rattle.sealed_pair.specs.SecureStep.{finished, held, secure_effect, secure_rules}

module _ (constants : Constants) (state : StoreState) (who : ℕ) where
  grants : (operation : Operation) → is_refusal (secure_effect constants state who operation).reply ≡ false
  grants (Get key) = refl
  grants (Part key offset count) = refl
  grants (Info key) = refl
  grants (Set key value flags) = refl
  grants (Remove key) = refl
  grants (RemoveStart key) = refl
  grants (Start key size flags) = refl
  grants (Add value) = refl
  grants Finish = refl
  grants Abort = refl
  grants (OpenIterator n prefix) = refl
  grants (Next n) = advanced_grants state who n (next_key constants.hash_bits state.primary (position_of state who n))
  grants (CloseIterator n) = refl
  grants Reset = refl

  abbrev with_more : List ℕ → OpenSet → StoreState
  with_more value set = record state { open_set = Some (record set { bytes = set.bytes ++ value }) }

  abbrev ended : OpenSet → StoreState
  ended set = record state { primary = (finished constants state set).primary; rollback = (finished constants state set).rollback; open_set = None }

  added_leaves : (value : List ℕ) (set : Option OpenSet) → (option_map_or (with_more value) set state).iterators ≡ state.iterators
  added_leaves value None = refl
  added_leaves value (Some set) = refl

  finished_leaves : (set : Option OpenSet) → (option_map_or ended set state).iterators ≡ state.iterators
  finished_leaves None = refl
  finished_leaves (Some set) = refl

  leaves : (operation : Operation) → is_of_iterators operation ≡ false → (secure_effect constants state who operation).state.iterators ≡ state.iterators
  leaves (OpenIterator n prefix) is = absurd (true≢false is)
  leaves (Next n) is = absurd (true≢false is)
  leaves (CloseIterator n) is = absurd (true≢false is)
  leaves (Add value) is = added_leaves value state.open_set
  leaves Finish is = finished_leaves state.open_set
  leaves operation is = refl

  takes : (operation : Operation) (finishes : OpenSet → Maps) (own : Operation → Outcome) → is_of_iterators operation ≡ true
      → secure_effect constants state who operation ≡ shared_effect state who constants.hash_bits finishes own operation
  takes (OpenIterator n prefix) finishes own is = refl
  takes (Next n) finishes own is = refl
  takes (CloseIterator n) finishes own is = refl
  takes operation finishes own is = absurd (true≢false (sym is))

pub secure_are_rules : (constants : Constants) → AreRules (secure_rules constants)
secure_are_rules constants = record {
  grants = grants constants;
  held = λ state key. held constants state key;
  get_checks = λ state who key. refl;
  part_checks = λ state who key offset count. refl;
  get_reply = λ state who key. refl;
  part_reply = λ state who key offset count. refl;
  info_reply = λ state who key. refl;
}

pub secure_shares : (constants : Constants) → SharesIterators constants.hash_bits (secure_rules constants)
secure_shares constants = record { shared = takes constants; others = leaves constants }
