-- Arming a device leaves what a store that was stopped tells.
use Rattle.std.proofs.Common.{◌≡◌, Option, Some, None, List, ℕ, Result, refl, sym, ◌∙◌, ap₂, subst}
use Rattle.std.proofs.Math.Logic.{∥∥₁_elim}
use Rattle.base_core.specs.declared.no_memory.NoMemory.{NoMemory}
use Rattle.kv_model.specs.declared.pattern.Pattern.{Pattern}
use Rattle.kv_model.specs.Arming.{Arms}
use Rattle.kv_model.specs.Constants.{Constants}
use Rattle.kv_model.specs.StoreState.{Maps, StoreState}
use Rattle.kv_model.specs.Kv.{KvState}
use Rattle.secure_store.specs.Doubts.{IsCutIn, IsStopped, WhereStopped}
use Rattle.sealed_pair.specs.Pair.{pair_constants}

-- a store that tells what another tells, and whose images mount to no more
record IsAlike (s s' : KvState) : Type 0 where
  pub constants : s'.known.constants ≡ s.known.constants
  pub state : s'.known.state ≡ s.known.state
  pub stands : (maps : Maps) → s'.crash.stands maps → s.crash.stands maps

same_store : (s : KvState) → IsAlike s s
same_store s = record { constants = refl; state = refl; stands = λ maps stands. stands }

armed : (s s' : KvState) (pattern : Pattern) (result : Result Unit NoMemory) → Arms s s' pattern result → IsAlike s s'
armed s s' pattern result arms = record { constants = arms.constants; state = arms.state; stands = arms.stands }

module _ (root : List ℕ) (u u' r r' : KvState) (one : IsAlike u u') (two : IsAlike r r') where
  still_stopped : (noted : StoreState) → IsStopped root u r noted → IsStopped root u' r' noted
  still_stopped noted stopped = record {
    in_doubt = stopped.in_doubt;
    cut = λ above told below told_too maps stands.
        subst (λ (c : Constants). IsCutIn c noted maps) (ap₂ (pair_constants root) (sym one.constants) (sym two.constants))
        (stopped.cut above (sym one.state ∙ told) below (sym two.state ∙ told_too) maps (record {
          beside = stands.beside;
          beside_rollback = stands.beside_rollback;
          primary_stands = one.stands (record { primary = maps.primary; rollback = stands.beside }) stands.primary_stands;
          rollback_stands = two.stands (record { primary = maps.rollback; rollback = stands.beside_rollback }) stands.rollback_stands;
        }));
  }

  still_where : (noted : Option StoreState) → WhereStopped root noted u r → WhereStopped root noted u' r'
  still_where None stopped = stopped
  still_where (Some noted) stopped = still_stopped noted stopped

  still_doubtful : (noted : Option StoreState) → ∥ WhereStopped root noted u r ∥₁ → ∥ WhereStopped root noted u' r' ∥₁
  still_doubtful noted fact =
      let prop : IsProp (∥ WhereStopped root noted u' r' ∥₁) = hlevel in
      ∥∥₁_elim fact prop (λ (stopped : WhereStopped root noted u r). ∣ still_where noted stopped ∣₁)

pub armed_above : (root : List ℕ) (u u' r : KvState) (noted : Option StoreState) (pattern : Pattern) (result : Result Unit NoMemory) → Arms u u' pattern result
    → ∥ WhereStopped root noted u r ∥₁ → ∥ WhereStopped root noted u' r ∥₁
armed_above root u u' r noted pattern result arms fact = still_doubtful root u u' r r (armed u u' pattern result arms) (same_store r) noted fact

pub armed_below : (root : List ℕ) (u r r' : KvState) (noted : Option StoreState) (pattern : Pattern) (result : Result Unit NoMemory) → Arms r r' pattern result
    → ∥ WhereStopped root noted u r ∥₁ → ∥ WhereStopped root noted u r' ∥₁
armed_below root u r r' noted pattern result arms fact = still_doubtful root u u r r' (same_store u) (armed r r' pattern result arms) noted fact
