-- One turn of a walk over the keys: the next key is given, and its tag healed.
use Rattle.std.proofs.Common.{◌≡◌, ℕ, ◌+◌, Bool, true, false, List, Option, Some, None, Result, Ok, Err, refl, sym, ◌∙◌, ap, subst, inl, inr}
use Rattle.std.specs.Prelude.{if◌then◌else◌, IsTrue}
use Rattle.kv_model.specs.declared.error.KvError.{KvError}
use Rattle.kv_model.specs.declared.call.Reply.{Reply}
use Rattle.kv_model.specs.Constants.{Constants, Secure}
use Rattle.kv_model.specs.FlaggedMap.{FlaggedMap}
use Rattle.kv_model.specs.Kv.{IsCause, Keeps, KvState, UnlessFailedWrite, kind_of}
use Rattle.kv_model.specs.NextKey.{IsNext}
use Rattle.kv_model.specs.Rules.{Rules}
use Rattle.kv_model.specs.StoreState.{StoreState}
use Rattle.sealed_pair.specs.Pair.{Joining, pair}
use Rattle.sealed_pair.specs.Reading.{HasRead, WhereTold}
use Rattle.sealed_pair.specs.Recovering.{Rewrites, goal_of, secure_by}
use Rattle.sealed_pair.specs.Walking.{GivesNext, HasStayed, IsAt, IsReadOrWant, RewritesEach, Walk, all_healed, place, state_at}
use Rattle.sealed_pair.proofs.PairLemmas.{both_of, carries_above, carries_since, cause_all, first_of, keeps_both, second_of}
use Rattle.sealed_pair.proofs.StayingLemmas.{stayed_read, stayed_then}
use Rattle.sealed_pair.proofs.WalkedLemmas.{HasComeTo, come_more, come_to_end, come_to_failure, come_to_refusal}

-- a state as a walk comes to it
pub record HasCome (by below : Constants → Rules) (root : List ℕ) (walk : Walk) (u0 u r0 r : KvState) (count : ℕ) : Type 0 where
  pub given : Option (List ℕ)
  pub at : IsAt by walk given u
  pub come : HasComeTo below (secure_by root r0.known.constants) walk.before.primary u0.known.constants.hash_bits r0 r given count

module _ (by below : Constants → Rules) (root : List ℕ) (walk : Walk) (u0 u u' r0 r : KvState) (count : ℕ)
    (had : HasCome by below root walk u0 u r0 r count) (stayed : HasStayed by u0 u') where
  abbrev secure : Secure
  secure = secure_by root r0.known.constants

  next_at : (found : Option (List ℕ)) → IsNext u'.known.constants.hash_bits walk.before.primary (place had.given) found
      → IsNext u0.known.constants.hash_bits walk.before.primary (place had.given) found
  next_at found next = subst (λ (c : Constants). IsNext c.hash_bits walk.before.primary (place had.given) found) stayed.keeps.constants next

  pub turn_ends : GivesNext by walk had.given u' (Ok None) → RewritesEach below r0 r (all_healed secure walk.before.primary) (Ok count)
  turn_ends gives = come_to_end below secure walk.before.primary u0.known.constants.hash_bits r0 r had.given count had.come (next_at None gives.0)

  pub turn_refused : (e : KvError) → IsReadOrWant e → RewritesEach below r0 r (all_healed secure walk.before.primary) (Err e)
  turn_refused e kind = come_to_refusal below secure walk.before.primary u0.known.constants.hash_bits r0 r had.given count had.come e kind

  module _ (key : List ℕ) (gives : GivesNext by walk had.given u' (Ok (Some key))) (r' : KvState) (keeps : Keeps r r') (result : Result Bool KvError)
      (heals : WhereTold by u' (λ (above : StoreState). Rewrites below r r' (goal_of (secure_by root r.known.constants) above.primary key) result)) where
    rewrites : Rewrites below r r' (goal_of secure walk.before.primary key) result
    rewrites =
        subst (λ (c : Constants). Rewrites below r r' (goal_of (secure_by root c) walk.before.primary key) result) had.come.keeps.constants
        (heals (state_at walk (Some key)) gives.1)

    pub turn_done : (u'' : KvState) → HasRead u' u'' → (changed : Bool) → result ≡ Ok changed → HasCome by below root walk u0 u'' r0 r' (if changed then count + 1 else count)
    turn_done u'' read changed is = record {
      given = Some key;
      at = record { rules = gives.1.rules; told = read.state ∙ gives.1.told; running = gives.1.running };
      come = come_more below secure walk.before.primary u0.known.constants.hash_bits r0 r had.given count had.come r' key (next_at (Some key) gives.0) result rewrites keeps changed is;
    }

    pub turn_fails : (e : KvError) → result ≡ Err e → RewritesEach below r0 r' (all_healed secure walk.before.primary) (Err e)
    turn_fails e is = come_to_failure below secure walk.before.primary u0.known.constants.hash_bits r0 r had.given count had.come r' key (next_at (Some key) gives.0) result rewrites e is

-- ---- causes and steadiness

-- a cause of the two since an earlier moment
module _ (root : List ℕ) (joining : Joining) (u0 u u' r0 r r' : KvState) (above : Keeps u0 u) (above_steady : u0.known.steady ≡ true → u.known.steady ≡ true)
    (below : Keeps r0 r) (below_steady : r0.known.steady ≡ true → r.known.steady ≡ true) (reply : Reply) where
  pub cause_since : IsCause (pair root joining u r).known (pair root joining u' r').known reply → IsCause (pair root joining u0 r0).known (pair root joining u' r').known reply
  cause_since cause =
      cause_all (carries_since (pair root joining u0 r0) (pair root joining u r) (pair root joining u' r') (keeps_both root u0 u r0 r joining joining above below)
      (λ steady. both_of u.known.steady r.known.steady (above_steady (first_of u0.known.steady r0.known.steady steady)) (below_steady (second_of u0.known.steady r0.known.steady steady))))
      reply cause

-- a cause of the primary store alone
pub cause_of_first : (root : List ℕ) (joining : Joining) (u u' r : KvState) (reply : Reply) → Keeps r r → IsCause u.known u'.known reply
    → IsCause (pair root joining u r).known (pair root joining u' r).known reply
cause_of_first root joining u u' r reply keeps cause = cause_all (carries_above root u u' r r joining joining keeps) reply cause
