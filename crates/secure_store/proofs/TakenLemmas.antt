-- A set that is refused while a set is active, with no call of either store.
use Rattle.std.proofs.Common.{◌≡◌, ℕ, Bool, true, false, List, Option, Some, None, refl, sym, ◌∙◌, ap, subst}
use Rattle.std.specs.Prelude.{◌==◌, if◌then◌else◌, nat_lt, is_none, is_some, IsTrue}
use mathlib.Core.Bool.{false≢true}
use Rattle.kv_model.specs.declared.error.KvError.{KvError}
use Rattle.kv_model.specs.declared.error.KvError.TheVariants.{Busy, SetOpen}
use Rattle.kv_model.specs.declared.call.Reply.TheVariants.{Refused}
use Rattle.kv_model.specs.Constants.{Constants}
use Rattle.kv_model.specs.Flags.{is_secure_flags}
use Rattle.kv_model.specs.Keys.{is_key}
use Rattle.kv_model.specs.StoreState.{OpenSet, StoreState}
use Rattle.kv_model.specs.Operations.{Operation, Remove}
use Rattle.kv_model.specs.Checks.{first_refusal}
use Rattle.kv_model.specs.Rules.{Outcome, Rules, refused_or, refuses, step}
use Rattle.kv_model.specs.Kv.{Answers, IsCause, Kind, KvState, LeadsTo, answered, kind_of, may_end, Ruled}
use Rattle.secure_store.specs.declared.stop.Stop.{Stop}
use Rattle.sealed_pair.specs.declared.active.Active.{Active}
use Rattle.sealed_pair.specs.declared.active.Begun.{Begun}
use Rattle.sealed_pair.specs.declared.active.Begun.TheVariants as begun
use Rattle.sealed_pair.specs.declared.limits.TheConstants.{MAX_SECURE_VALUE}
use Rattle.sealed_pair.specs.Active.{opened_by, own_of, taken}
use Rattle.secure_store.specs.Doubts.{told_by}
use Rattle.sealed_pair.specs.Pair.{pair, pair_constants}
use Rattle.sealed_pair.specs.SecureStep.{secure_rules, set_checks}
use Rattle.sealed_pair.specs.Store.{Own, joined_by}
use Rattle.sealed_pair.proofs.PairLemmas.{read_answers, read_none}
use Rattle.sealed_pair.proofs.SettingRunLemmas.{AsksSet}
use Rattle.secure_store.proofs.SettleLemmas.{running_answers}

module _ (root : List ℕ) (own : Own) (u r : KvState) where
  abbrev one : KvState
  one = pair root (joined_by own) u r

  abbrev rules : Rules
  rules = secure_rules (pair_constants root u.known.constants r.known.constants)

  -- a refusal by the rules
  pub refused_here : (who : ℕ) (operation : Operation) (e : KvError) → kind_of (Refused e) ≡ Ruled → IsCause one.known one.known (Refused e)
      → ((above below : StoreState) → step rules (joined_by own above below) who operation ≡ refuses (joined_by own above below) e)
      → Answers secure_rules one one (answered who operation (Refused e))
  refused_here who operation e ruled cause refused =
      read_answers root u u r r secure_rules (joined_by own) (answered who operation (Refused e)) (read_none u) (read_none r) cause
      (subst (λ (kind : Kind). IsTrue (may_end operation kind)) (sym ruled) refl)
      (λ above below told told_too. record {
        primary = refl;
        rollback = refl;
        stays = ap (λ (o : Outcome). o.state) (refused above below);
        leads = subst (λ (kind : Kind). LeadsTo rules (joined_by own above below) (answered who operation (Refused e)) (joined_by own above below) kind) (sym ruled) (refused above below);
      })

owner_is : (owner : ℕ) (its : Begun) → (opened_by owner its).owner ≡ owner
owner_is owner (begun.Remove key) = refl
owner_is owner (begun.Set set) = refl

taken_is : (x y : KvError) → Some x ≡ Some y → y ≡ x
taken_is x y is = cc

abbrev with_active : ℕ → OpenSet → StoreState → StoreState → StoreState
with_active n set above below = joined_by (record { number = n; set = Some set }) above below

-- a call that is refused while a set is active
pub record IsTaken (operation : Operation) : Type 0 where
  pub own : (c : Constants) (n : ℕ) (set : OpenSet) (above below : StoreState) (who : ℕ) → (set.owner == who) ≡ true
      → step (secure_rules c) (with_active n set above below) who operation ≡ refuses (with_active n set above below) SetOpen
  pub other : (c : Constants) (n : ℕ) (set : OpenSet) (above below : StoreState) (who : ℕ) → (set.owner == who) ≡ false
      → step (secure_rules c) (with_active n set above below) who operation ≡ refuses (with_active n set above below) (Busy set.owner)

pub taken_remove : (key : List ℕ) → is_key key ≡ true → IsTaken (Remove key)
taken_remove key good = record {
  own = λ c n set above below who is. simp (good, is) refl;
  other = λ c n set above below who is. simp (good, is) refl;
}

module _ (key : List ℕ) (size flags : ℕ) (operation : Operation) (asks : AsksSet operation key size flags)
    (good : is_key key ≡ true) (secure : is_secure_flags flags ≡ true) (small : nat_lt MAX_SECURE_VALUE size ≡ false) where
  module _ (c : Constants) (n : ℕ) (set : OpenSet) (above below : StoreState) (who : ℕ) where
    abbrev state : StoreState
    state = with_active n set above below

    by_checks : (e : KvError) → first_refusal (set_checks c state who key size flags) ≡ Some e → step (secure_rules c) state who operation ≡ refuses state e
    by_checks e first =
        ap (λ (o : Option KvError). refused_or (secure_rules c) state who operation o) (ap first_refusal (asks.checks c state who) ∙ first)
        ∙ ap (λ (s : StoreState). refuses s e) (asks.stays state e)

    own_first : (set.owner == who) ≡ true → first_refusal (set_checks c state who key size flags) ≡ Some SetOpen
    own_first is = simp (good, secure, small, is) refl

    other_first : (set.owner == who) ≡ false → first_refusal (set_checks c state who key size flags) ≡ Some (Busy set.owner)
    other_first is = simp (good, secure, small, is) refl

  pub taken_set : IsTaken operation
  taken_set = record {
    own = λ c n set above below who is. by_checks c n set above below who SetOpen (own_first c n set above below who is);
    other = λ c n set above below who is. by_checks c n set above below who (Busy set.owner) (other_first c n set above below who is);
  }

module _ (operation : Operation) (steps : IsTaken operation) where
  module _ (root : List ℕ) (n : ℕ) (u r : KvState) (who : ℕ) (owner : ℕ) (its : Begun) where
    abbrev own : Own
    own = record { number = n; set = Some (opened_by owner its) }

    abbrev with_set : KvState
    with_set = pair root (joined_by own) u r

    taken_by : (b : Bool) → (owner == who) ≡ b → Answers secure_rules with_set with_set (answered who operation (Refused (if b then SetOpen else Busy owner)))
    taken_by true is =
        refused_here root own u r who operation SetOpen refl tt
        (λ above below. steps.own (pair_constants root u.known.constants r.known.constants) n (opened_by owner its) above below who
        (ap (λ (o : ℕ). o == who) (owner_is owner its) ∙ is))
    taken_by false is =
        refused_here root own u r who operation (Busy owner) refl tt
        (λ above below. steps.other (pair_constants root u.known.constants r.known.constants) n (opened_by owner its) above below who
        (ap (λ (o : ℕ). o == who) (owner_is owner its) ∙ is)
        ∙ ap (λ (o : ℕ). refuses (joined_by own above below) (Busy o)) (owner_is owner its))

  taken_at : (active : Option Active) (root : List ℕ) (n : ℕ) (u r : KvState) (who : ℕ) (e : KvError) → taken active who ≡ Some e
      → Answers secure_rules (pair root (joined_by (own_of n active)) u r) (pair root (joined_by (own_of n active)) u r) (answered who operation (Refused e))
  taken_at None root n u r who e is = absurd (false≢true (ap is_some is))
  taken_at (Some active) root n u r who e is =
      subst (λ (f : KvError). Answers secure_rules (pair root (joined_by (own_of n (Some active))) u r) (pair root (joined_by (own_of n (Some active))) u r) (answered who operation (Refused f)))
      (sym (taken_is (if active.owner == who then SetOpen else Busy active.owner) e is))
      (taken_by root n u r who active.owner active.begun (active.owner == who) refl)

  module _ (stopped : Option Stop) (running : is_none stopped ≡ true) (root : List ℕ) (number : ℕ) (active : Option Active) (u r : KvState) (who : ℕ) where
    abbrev here : KvState
    here = told_by root (own_of number active) stopped u r

    pub taken_answers : (e : KvError) → taken active who ≡ Some e → Answers secure_rules here here (answered who operation (Refused e))
    taken_answers e is =
        running_answers stopped running root (own_of number active) (own_of number active) u r u r (answered who operation (Refused e))
        (taken_at active root number u r who e is)
