-- What was begun, once it was taken out of the store, and bytes that are too many for it.
use Rattle.std.proofs.Common.{◌≡◌, ℕ, ◌+◌, Bool, true, false, not, ◌==◌, nat_le, nat_lt, List, length, Option, Some, None, refl, sym, ◌∙◌, ap, subst, arith}
use Rattle.std.specs.Prelude.{if◌then◌else◌, is_none}
use Rattle.std.proofs.lemmas.Bool.Decides.{nat_tests}
use Rattle.kv_model.specs.declared.error.KvError.{KvError}
use Rattle.kv_model.specs.declared.error.KvError.TheVariants.{InvalidSize, NoSet}
use Rattle.kv_model.specs.declared.call.Reply.TheVariants.{Refused}
use Rattle.kv_model.specs.Constants.{Constants}
use Rattle.kv_model.specs.StoreState.{OpenSet, StoreState}
use Rattle.kv_model.specs.Operations.{Add}
use Rattle.kv_model.specs.Rules.{refused_or, refuses, step}
use Rattle.kv_model.specs.Kv.{Answers, KvState, answered}
use Rattle.sealed_pair.specs.declared.active.Active.{Active}
use Rattle.sealed_pair.specs.declared.active.Begun.{Begun}
use Rattle.sealed_pair.specs.declared.active.Begun.TheVariants.{Remove, Set}
use Rattle.sealed_pair.specs.Active.{IsActive, IsBegun, IsCounted, may_take, opened_by, own_of}
use Rattle.sealed_pair.specs.Pair.{pair_constants}
use Rattle.sealed_pair.specs.SecureStep.{secure_rules}
use Rattle.sealed_pair.specs.Store.{Own, joined_by}
use Rattle.sealed_pair.proofs.PieceLemmas.{body_left}
use Rattle.sealed_pair.proofs.SettingLemmas.{past}
use Rattle.secure_store.specs.declared.stop.Stop.{Stop}
use Rattle.secure_store.specs.Doubts.{told_by}
use Rattle.secure_store.proofs.SettleLemmas.{running_answers}
use Rattle.secure_store.proofs.TakenLemmas.{refused_here}

-- ---- what was begun

pub begun_in : (root : List ℕ) (next : ℕ) (before : Option Active) (active : Active) → before ≡ Some active → IsActive root next before → IsBegun root next active.begun
begun_in root next before active taken sealing = subst (IsActive root next) taken sealing

counted_by : (root : List ℕ) (next : ℕ) (begun : Begun) → IsBegun root next begun → IsCounted begun
counted_by root next (Remove key) is = tt
counted_by root next (Set set) is = is.left

pub counted_in : (root : List ℕ) (next : ℕ) (before : Option Active) (active : Active) → before ≡ Some active → IsActive root next before → IsCounted active.begun
counted_in root next before active taken sealing = counted_by root next active.begun (begun_in root next before active taken sealing)

-- ---- bytes that are too many

some_more : (n : ℕ) → (n == 0) ≡ false → nat_lt 0 (0 + n) ≡ true
some_more n is = grind (arith, nat_tests)

over_size : (n left a size : ℕ) → nat_le n left ≡ false → left + a ≡ size → nat_lt size (a + n) ≡ true
over_size n left a size is all = grind (arith, nat_tests)

is_over : (root : List ℕ) (next who : ℕ) (begun : Begun) (n : ℕ) → IsBegun root next begun → may_take begun n ≡ false
    → nat_lt (opened_by who begun).size (length (opened_by who begun).bytes + n) ≡ true
is_over root next who (Remove key) n is over = some_more n over
is_over root next who (Set set) n is over = over_size n set.left (length set.value.bytes) set.size over (body_left root next set is)

owner_is : (who : ℕ) (begun : Begun) → (opened_by who begun).owner ≡ who
owner_is who (Remove key) = refl
owner_is who (Set set) = refl

same_who : (n : ℕ) → not (n == n) ≡ false
same_who n = grind (arith, nat_tests)

module _ (c : Constants) (next who : ℕ) (set : OpenSet) (value : List ℕ) (own : set.owner ≡ who) (over : nat_lt set.size (length set.bytes + length value) ≡ true) where
  over_step : (above below : StoreState) → step (secure_rules c) (joined_by (record { number = next; set = Some set }) above below) who (Add value)
      ≡ refuses (joined_by (record { number = next; set = Some set }) above below) InvalidSize
  over_step above below =
      ap (λ (o : Option KvError). refused_or (secure_rules c) (joined_by (record { number = next; set = Some set }) above below) who (Add value) o)
      (past (not (set.owner == who)) NoSet _ (ap (λ (o : ℕ). not (o == who)) own ∙ same_who who) ∙ ap (λ (b : Bool). if b then Some InvalidSize else None) over)

module _ (stopped : Option Stop) (running : is_none stopped ≡ true) (root : List ℕ) (next : ℕ) (before : Option Active) (active : Active) (taken : before ≡ Some active)
    (u r : KvState) (who : ℕ) (owner : active.owner ≡ who) (value : List ℕ) (over : may_take active.begun (length value) ≡ false) (sealing : IsActive root next before) where
  abbrev own : Own
  own = own_of next (Some active)

  -- the store stands as it was
  pub too_long : Answers secure_rules (told_by root (own_of next before) stopped u r) (told_by root own stopped u r) (answered who (Add value) (Refused InvalidSize))
  too_long =
      subst (λ (o : Option Active). Answers secure_rules (told_by root (own_of next o) stopped u r) (told_by root own stopped u r) (answered who (Add value) (Refused InvalidSize))) (sym taken)
      (running_answers stopped running root own own u r u r (answered who (Add value) (Refused InvalidSize))
      (refused_here root own u r who (Add value) InvalidSize refl tt
      (λ above below.
      over_step (pair_constants root u.known.constants r.known.constants) next who (opened_by active.owner active.begun) value (owner_is active.owner active.begun ∙ owner)
      (is_over root next active.owner active.begun (length value) (begun_in root next before active taken sealing) over) above below)))
