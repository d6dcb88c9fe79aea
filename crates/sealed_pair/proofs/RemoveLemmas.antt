-- What a remove and a reset show.
use Rattle.std.proofs.Common.{◌≡◌, ℕ, Bool, true, false, List, Option, Some, None, ap₂}
use Rattle.std.specs.Prelude.{if◌then◌else◌, is_some}
use Rattle.std.specs.Ordering.{nat_cmp}
use Rattle.std.specs.Cmp.Lexicographic.{slice_cmp}
use Rattle.std.specs.FinMap.{get, get-empty}
use Rattle.kv_model.specs.declared.error.KvError.{KvError}
use Rattle.kv_model.specs.declared.error.KvError.TheVariants as error
use Rattle.kv_model.specs.declared.call.Reply.TheVariants.{Done, Refused}
use Rattle.kv_model.specs.Checks.{first_refusal}
use Rattle.kv_model.specs.Constants.{Constants}
use Rattle.kv_model.specs.Operations.{Operation, Remove, Reset}
use Rattle.kv_model.specs.Rules.{refused_or, refuses}
use Rattle.kv_model.specs.StoreState.{Maps, StoreState}
use Rattle.sealed_pair.specs.Sealing.{secure_of}
use Rattle.sealed_pair.specs.View.{Absent, view_by, view_of}
use Rattle.sealed_pair.specs.SecureStep.{secure_checks, secure_effect, secure_rules, secure_step, view}
use Rattle.sealed_pair.proofs.ViewLemmas.{get_gone}

absent_in : (root : List ℕ) (maps : Maps) (key : List ℕ) → get maps.primary key ≡ None → get maps.rollback key ≡ None → view_of root maps key ≡ Absent
absent_in root maps key primary rollback = ap₂ (view_by root key) primary rollback

refused_is_not_done : (e : KvError) → Refused e ≡ Done → ⊥
refused_is_not_done e h = cc h

module _ (constants : Constants) (state : StoreState) (who : ℕ) (key : List ℕ) where
  -- what a call shows that is done is what its effect shows
  by_effect : (operation : Operation) (stopped : Bool) (found : Option KvError) → view constants (secure_effect constants state who operation).state key ≡ Absent
      → (if stopped then refuses state error.Stopped else refused_or (secure_rules constants) state who operation found).reply ≡ Done
      → view constants (if stopped then refuses state error.Stopped else refused_or (secure_rules constants) state who operation found).state key ≡ Absent
  by_effect operation true found shows done = absurd (refused_is_not_done error.Stopped done)
  by_effect operation false None shows done = shows
  by_effect operation false (Some e) shows done = absurd (refused_is_not_done e done)

  pub remove_shows : (secure_step constants state who (Remove key)).reply ≡ Done → view constants (secure_step constants state who (Remove key)).state key ≡ Absent
  remove_shows done =
      by_effect (Remove key) (is_some state.doubt) (first_refusal (secure_checks constants state who (Remove key)))
      (absent_in (secure_of constants).root _ key (get_gone state.primary key) (get_gone state.rollback key)) done

  pub reset_shows : (secure_step constants state who Reset).reply ≡ Done → view constants (secure_step constants state who Reset).state key ≡ Absent
  reset_shows done =
      by_effect Reset (is_some state.doubt) (first_refusal (secure_checks constants state who Reset))
      (absent_in (secure_of constants).root _ key (get-empty (slice_cmp nat_cmp) key) (get-empty (slice_cmp nat_cmp) key)) done
