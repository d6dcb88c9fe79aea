-- What a recover makes of a pair that was just mounted.
use Rattle.std.proofs.Common.{◌≡◌, true, ℕ, List, refl, sym, ◌∙◌, ap, subst, inl, inr}
use Rattle.std.specs.Prelude.{Option, Some, None, MatchOption, Result, Ok, Err, is_some}
use mathlib.Core.Bool.{false≢true}
use Rattle.kv_model.specs.declared.call.Reply.TheVariants.{Refused}
use Rattle.kv_model.specs.declared.error.KvError.{KvError}
use Rattle.kv_model.specs.declared.error.KvError.TheVariants as error
use Rattle.kv_model.specs.Kv.{IsCause, KvState}
use Rattle.kv_model.specs.StoreState.{Doubt, StoreState}
use Rattle.sealed_pair.specs.Store.{Own, joined_by}
use Rattle.sealed_pair.proofs.PairLemmas.{told_both}
use Rattle.secure_store.specs.declared.stop.Stop.{Stop}
use Rattle.secure_store.specs.Doubts.{told_by}
use Rattle.secure_store.specs.Recover.{HasRecovered, StopsAfter}
use Rattle.chip_stores.specs.Healing.{HasHealed, IsPartlyHealed, StandsBehind}
use Rattle.chip_stores.proofs.PairLemmas.{there_is}

-- a store that runs has no call in doubt
pub running_doubt : (root : List ℕ) (own : Own) (stop : Option Stop) (u r : KvState) → stop ≡ None → (state : StoreState)
    → (told_by root own stop u r).known.state ≡ Some state → state.doubt ≡ None
running_doubt root own None u r runs state told = ap (λ (s : StoreState). s.doubt) (told_both (joined_by own) u.known.state r.known.state state told).joined
running_doubt root own (Some stop) u r runs state told = absurd (false≢true (sym (ap is_some runs)))

at_none : (o : Option Doubt) (A : Type 0) (P : Doubt → Type 0) → o ≡ None → MatchOption o A P → A
at_none None A P is given = given
at_none (Some d) A P is given = absurd (false≢true (sym (ap is_some is)))

module _ (s s' : KvState) (running : (state : StoreState) → s.known.state ≡ Some state → state.doubt ≡ None) (sound : s.known.sound ≡ true) where
  stands : (result : Result ℕ KvError) → HasRecovered s s' result → StandsBehind s s'
  stands result is = record {
    constants = is.keeps.constants;
    labels = is.keeps.labels;
    sound = is.keeps.sound sound;
    read_faults = is.keeps.read_faults;
    write_faults = is.keeps.write_faults;
  }

  no_fault : (e : KvError) → HasRecovered s s' (Err e) → e ≡ error.WriteFault → ⊥
  no_fault e is fault = false≢true (sym (subst (λ (x : KvError). IsCause s.known s'.known (Refused x)) fault is.cause).1 ∙ sound)

  pub has_healed : (count : ℕ) → HasRecovered s s' (Ok count) → HasHealed s s'
  has_healed count is = record {
    stands = stands (Ok count) is;
    state = λ state told. (at_none state.doubt _ _ (running state told) (is.told state told)).0;
  }

  pub partly_healed : (e : KvError) → HasRecovered s s' (Err e) → IsPartlyHealed s s'
  partly_healed e is = record {
    stands = stands (Err e) is;
    state = λ state told. elim (at_none state.doubt _ _ (running state told) (is.told state told)) [
      | inl broken ↦ absurd (no_fault e is broken.0)
      | inr left ↦ (left.1.0, left.1.1, left.1.2)
    ];
  }

  pub still_runs : (e : KvError) (stop : Option Stop) → HasRecovered s s' (Err e) → StopsAfter (Err e) stop → stop ≡ None
  still_runs e stop is (inl fault) = absurd (no_fault e is fault.0)
  still_runs e stop is (inr runs) = runs.1

pub healed_tells : (s s' : KvState) → is_some s.known.state ≡ true → HasHealed s s' → is_some s'.known.state ≡ true
healed_tells s s' tells is =
    let found = there_is s.known.state tells in
    ap is_some (is.state found.0 found.1)

pub partly_tells : (s s' : KvState) → is_some s.known.state ≡ true → IsPartlyHealed s s' → is_some s'.known.state ≡ true
partly_tells s s' tells is =
    let found = there_is s.known.state tells in
    ap is_some (is.state found.0 found.1).2
