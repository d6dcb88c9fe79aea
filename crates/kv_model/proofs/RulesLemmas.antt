-- The rules of a plain store are rules of a store.
use Rattle.std.proofs.Common.{◌≡◌, ℕ, List, Option, Some, None, false, refl}
use Rattle.kv_model.specs.Constants.{Constants}
use Rattle.kv_model.specs.StoreState.{StoreState}
use Rattle.kv_model.specs.Operations.{Operation, Get, Part, Info, Set, Remove, RemoveStart, Start, Add, Finish, Abort, OpenIterator, Next, CloseIterator, Reset}
use Rattle.kv_model.specs.Rules.{AreRules, is_refusal}
use Rattle.kv_model.specs.Rows.{advanced, position_of}
use Rattle.kv_model.specs.NextKey.{next_key}
use Rattle.kv_model.specs.PlainStep.{bytes_in, flags_in, plain_effect, plain_rules}

module _ (state : StoreState) (who : ℕ) where
  pub advanced_grants : (n : ℕ) (found : Option (List ℕ)) → is_refusal (advanced state who n found).reply ≡ false
  advanced_grants n None = refl
  advanced_grants n (Some key) = refl

  plain_grants : (constants : Constants) (operation : Operation) → is_refusal (plain_effect constants state who operation).reply ≡ false
  plain_grants constants (Get key) = refl
  plain_grants constants (Part key offset count) = refl
  plain_grants constants (Info key) = refl
  plain_grants constants (Set key value flags) = refl
  plain_grants constants (Remove key) = refl
  plain_grants constants (RemoveStart key) = refl
  plain_grants constants (Start key size flags) = refl
  plain_grants constants (Add value) = refl
  plain_grants constants Finish = refl
  plain_grants constants Abort = refl
  plain_grants constants (OpenIterator n prefix) = refl
  plain_grants constants (Next n) = advanced_grants n (next_key constants.hash_bits state.primary (position_of state who n))
  plain_grants constants (CloseIterator n) = refl
  plain_grants constants Reset = refl

pub plain_are_rules : (constants : Constants) → AreRules (plain_rules constants)
plain_are_rules constants = record {
  grants = λ state who operation. plain_grants state who constants operation;
  held = λ state key. record { flags = flags_in state.primary key; bytes = bytes_in state.primary key };
  get_checks = λ state who key. refl;
  part_checks = λ state who key offset count. refl;
  get_reply = λ state who key. refl;
  part_reply = λ state who key offset count. refl;
  info_reply = λ state who key. refl;
}
