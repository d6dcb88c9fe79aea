-- What each call of a pair keeps.
use Rattle.std.proofs.Common.{◌≡◌, ℕ, true, List, [], sym, ◌∙◌, ap}
use Rattle.std.specs.Prelude.{Option, Result, is_some}
use Rattle.std.specs.Option.{ForSome, option_map_or}
use Rattle.flash_sim.specs.declared.chip.Chip.{Chip}
use Rattle.kv_model.specs.declared.error.KvError.{KvError}
use Rattle.kv_model.specs.Constants.{Constants, Secure}
use Rattle.kv_model.specs.Given.{done_or}
use Rattle.kv_model.specs.Kv.{Answers, Keeps, KvState, answered}
use Rattle.kv_model.specs.Operations.{Operation}
use Rattle.kv_model.specs.StoreState.{StoreState}
use Rattle.plain_store.specs.declared.plain.PlainStore.{PlainStore}
use Rattle.sealed_pair.specs.declared.active.Active.{Active}
use Rattle.sealed_pair.specs.Active.{own_of}
use Rattle.sealed_pair.specs.SecureStep.{secure_rules}
use Rattle.secure_store.specs.declared.stop.Stop.{Stop}
use Rattle.secure_store.specs.Doubts.{StaysStopped, StopsOnFault, told_by}
use Rattle.chip_stores.specs.declared.pair.SecurePair.{SecurePair}
use Rattle.chip_stores.specs.PairViews.{told_in}
use Rattle.chip_stores.specs.Stores.{plain_told}
use Rattle.chip_stores.proofs.NumberLemmas.{NumberAfter, number_moves, number_stays}
use Rattle.chip_stores.proofs.PairLemmas.{pair_constants_told}

-- what a pair's store is made of
pub record StoreParts : Type 0 where
  pub root : List ℕ
  pub iv : ℕ
  pub active : Option Active
  pub stopped : Option Stop
  pub above : PlainStore Chip
  pub below : PlainStore Chip

abbrev pub told_parts : StoreParts → KvState
told_parts p = told_by p.root (own_of p.iv p.active) p.stopped (plain_told p.above) (plain_told p.below)

abbrev pub parts_of : SecurePair → StoreParts
parts_of pair = record {
  root = pair.store.root;
  iv = pair.store.iv;
  active = pair.store.active;
  stopped = pair.store.stopped;
  above = pair.store.primary.store;
  below = pair.store.rollback.store;
}

abbrev secure_root : Constants → List ℕ
secure_root constants = option_map_or (λ (s : Secure). s.root) constants.secure []

-- it is a pair still, with the same root key
pub record Stays (old : SecurePair) (now : StoreParts) : Type 0 where
  pub tells : is_some (told_parts now).known.state ≡ true
  pub same_root : now.root ≡ old.root
  pub number : ForSome (told_parts now).known.state (λ (state : StoreState). state.next_vector ≡ now.iv)

module _ (old : SecurePair) (now : StoreParts) where
  root_on : Keeps (told_in old) (told_parts now) → now.root ≡ old.root
  root_on keeps =
      ap secure_root
      (sym (pair_constants_told now.root (own_of now.iv now.active) (plain_told now.above) (plain_told now.below) now.stopped)
      ∙ keeps.constants
      ∙ pair_constants_told old.store.root (own_of old.store.iv old.store.active) (plain_told old.store.primary.store) (plain_told old.store.rollback.store) old.store.stopped)
      ∙ old.same_root

  -- a call that stops nothing and takes no number
  pub after_reading : Keeps (told_in old) (told_parts now) → now.stopped ≡ old.store.stopped → now.iv ≡ old.store.iv → Stays old now
  after_reading keeps still same = record {
    tells = keeps.tells_state ∙ old.tells;
    same_root = root_on keeps;
    number = number_stays old.store.root now.root (own_of old.store.iv old.store.active) (own_of now.iv now.active) (plain_told old.store.primary.store)
        (plain_told old.store.rollback.store) (plain_told now.above) (plain_told now.below) old.store.stopped now.stopped keeps still same old.number;
  }

  -- one that may
  pub after_writing : (who : ℕ) (operation : Operation) (result : Result Unit KvError) → Answers secure_rules (told_in old) (told_parts now) (answered who operation (done_or result))
      → StaysStopped old.store.stopped now.stopped result → StopsOnFault old.store.stopped now.stopped result → NumberAfter operation old.store.iv now.iv result → Stays old now
  after_writing who operation result answers stays stops left = record {
    tells = answers.does.keeps.tells_state ∙ old.tells;
    same_root = root_on answers.does.keeps;
    number = number_moves old.store.root now.root (own_of old.store.iv old.store.active) (own_of now.iv now.active) (plain_told old.store.primary.store)
        (plain_told old.store.rollback.store) (plain_told now.above) (plain_told now.below) old.store.stopped now.stopped who operation result answers stays stops left old.number;
  }
