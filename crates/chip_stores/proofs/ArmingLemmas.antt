-- What arming one store of a pair is to the pair.
use Rattle.std.proofs.Common.{◌≡◌, ℕ, ◌+◌, Bool, true, false, List, [], ◌∷◌, ◌++◌, refl, sym, ◌∙◌, ap, ap₂, inl, inr, arith}
use Rattle.std.specs.Prelude.{◌&&◌, Option, Some, None, Result, Ok, Err}
use mathlib.Core.Bool.{true≢false}
use Rattle.base_core.specs.declared.no_memory.NoMemory.{NoMemory}
use Rattle.kv_model.specs.declared.pattern.Pattern.{Pattern}
use Rattle.kv_model.specs.Arming.{Arms, IsLabelled, TellsNothing}
use Rattle.kv_model.specs.Constants.{Constants}
use Rattle.kv_model.specs.Kv.{Clock, KvState}
use Rattle.kv_model.specs.Patterns.{spelling}
use Rattle.kv_model.specs.StoreState.{StoreState}
use Rattle.sealed_pair.specs.Pair.{Joining, both, pair, pair_constants}
use Rattle.sealed_pair.specs.Store.{Own, joined_by}
use Rattle.sealed_pair.proofs.PairLemmas.{both_of, first_of, second_of}
use Rattle.secure_store.specs.declared.stop.Stop.{Stop}
use Rattle.secure_store.specs.declared.stop.Stop.TheVariants.{InCall, InRecover}
use Rattle.secure_store.specs.Doubts.{told_by, untold}
use Rattle.chip_stores.specs.Arming.{ArmsAt, IsLabelledAt, with_label}

same_clock : (c : Clock) → TellsNothing c c
same_clock c = record { moment = omega arith; told = λ t map is. is }

and_left : (a b : Bool) → a ≡ false → (a && b) ≡ false
and_left false b is = refl
and_left true b is = absurd (true≢false is)

and_right : (a b : Bool) → b ≡ false → (a && b) ≡ false
and_right false b is = refl
and_right true b is = is

-- a store that tells no state tells as little of arming
untold_arms : (place : ℕ) (s s' : KvState) (pattern : Pattern) (result : Result Unit NoMemory) → IsLabelledAt place (untold s) (untold s') pattern result
    → ArmsAt place s s' pattern result → ArmsAt place (untold s) (untold s') pattern result
untold_arms place s s' pattern result label arms = record {
  constants = arms.constants;
  state = refl;
  log = arms.log;
  read_faults = arms.read_faults;
  write_faults = arms.write_faults;
  steady = arms.steady;
  label = label;
  tells_moments = arms.tells_moments;
  primary = arms.primary;
  rollback = arms.rollback;
  stands = arms.stands;
}

untold_label : (place : ℕ) (s s' : KvState) (pattern : Pattern) (result : Result Unit NoMemory) → IsLabelledAt place s s' pattern result
    → IsLabelledAt place (untold s) (untold s') pattern result
untold_label place s s' pattern (Ok done) is = is
untold_label place s s' pattern (Err none) is = is

-- ---- the primary store

module _ (root : List ℕ) (u u' r : KvState) (pattern : Pattern) (first : List ℕ) (one : u.known.labels ≡ first ∷ []) where
  label_above : (joining : Joining) (result : Result Unit NoMemory) → IsLabelled u u' pattern result
      → IsLabelledAt 0 (pair root joining u r) (pair root joining u' r) pattern result
  label_above joining (Ok done) (inl now) =
      inl (ap (λ l. l ++ r.known.labels) now ∙ sym (ap (λ l. with_label 0 (spelling pattern) (l ++ r.known.labels)) one))
  label_above joining (Ok done) (inr (unsteady, same)) = inr (and_left u.known.steady r.known.steady unsteady, ap (λ l. l ++ r.known.labels) same)
  label_above joining (Err none) same = ap (λ l. l ++ r.known.labels) same

  arms_above : (joining : Joining) (result : Result Unit NoMemory) → Arms u u' pattern result
      → ArmsAt 0 (pair root joining u r) (pair root joining u' r) pattern result
  arms_above joining result arms = record {
    constants = ap (λ (c : Constants). pair_constants root c r.known.constants) arms.constants;
    state = ap (λ (s : Option StoreState). both joining s r.known.state) arms.state;
    log = refl;
    read_faults = ap (λ (n : ℕ). n + r.known.read_faults) arms.read_faults;
    write_faults = ap (λ (n : ℕ). n + r.known.write_faults) arms.write_faults;
    steady = λ steady. both_of u'.known.steady r.known.steady (arms.steady (first_of u.known.steady r.known.steady steady)) (second_of u.known.steady r.known.steady steady);
    label = label_above joining result arms.label;
    tells_moments = ap (λ (b : Bool). b && r.crash.tells_moments) arms.tells_moments;
    primary = arms.primary;
    rollback = same_clock r.crash.primary;
    stands = λ maps stands. record {
      beside = stands.beside;
      beside_rollback = stands.beside_rollback;
      primary_stands = arms.stands (record { primary = maps.primary; rollback = stands.beside }) stands.primary_stands;
      rollback_stands = stands.rollback_stands;
    };
  }

  pub armed_above : (own : Own) (stop : Option Stop) (result : Result Unit NoMemory) → Arms u u' pattern result
      → ArmsAt 0 (told_by root own stop u r) (told_by root own stop u' r) pattern result
  armed_above own None result arms = arms_above (joined_by own) result arms
  armed_above own (Some (InCall noted)) result arms = arms_above (λ a b. noted.state) result arms
  armed_above own (Some InRecover) result arms =
      let old = pair root (joined_by own) u r in
      let new = pair root (joined_by own) u' r in
      untold_arms 0 old new pattern result (untold_label 0 old new pattern result (label_above (joined_by own) result arms.label)) (arms_above (joined_by own) result arms)

-- ---- the rollback store

module _ (root : List ℕ) (u r r' : KvState) (pattern : Pattern) (first second : List ℕ) (one : u.known.labels ≡ first ∷ []) (two : r.known.labels ≡ second ∷ []) where
  label_below : (joining : Joining) (result : Result Unit NoMemory) → IsLabelled r r' pattern result
      → IsLabelledAt 1 (pair root joining u r) (pair root joining u r') pattern result
  label_below joining (Ok done) (inl now) =
      inl (ap₂ (λ a b. a ++ b) one now ∙ sym (ap₂ (λ a b. with_label 1 (spelling pattern) (a ++ b)) one two))
  label_below joining (Ok done) (inr (unsteady, same)) = inr (and_right u.known.steady r.known.steady unsteady, ap (λ l. u.known.labels ++ l) same)
  label_below joining (Err none) same = ap (λ l. u.known.labels ++ l) same

  arms_below : (joining : Joining) (result : Result Unit NoMemory) → Arms r r' pattern result
      → ArmsAt 1 (pair root joining u r) (pair root joining u r') pattern result
  arms_below joining result arms = record {
    constants = ap (pair_constants root u.known.constants) arms.constants;
    state = ap (both joining u.known.state) arms.state;
    log = refl;
    read_faults = ap (λ (n : ℕ). u.known.read_faults + n) arms.read_faults;
    write_faults = ap (λ (n : ℕ). u.known.write_faults + n) arms.write_faults;
    steady = λ steady. both_of u.known.steady r'.known.steady (first_of u.known.steady r.known.steady steady) (arms.steady (second_of u.known.steady r.known.steady steady));
    label = label_below joining result arms.label;
    tells_moments = ap (λ (b : Bool). u.crash.tells_moments && b) arms.tells_moments;
    primary = same_clock u.crash.primary;
    rollback = arms.primary;
    stands = λ maps stands. record {
      beside = stands.beside;
      beside_rollback = stands.beside_rollback;
      primary_stands = stands.primary_stands;
      rollback_stands = arms.stands (record { primary = maps.rollback; rollback = stands.beside_rollback }) stands.rollback_stands;
    };
  }

  pub armed_below : (own : Own) (stop : Option Stop) (result : Result Unit NoMemory) → Arms r r' pattern result
      → ArmsAt 1 (told_by root own stop u r) (told_by root own stop u r') pattern result
  armed_below own None result arms = arms_below (joined_by own) result arms
  armed_below own (Some (InCall noted)) result arms = arms_below (λ a b. noted.state) result arms
  armed_below own (Some InRecover) result arms =
      let old = pair root (joined_by own) u r in
      let new = pair root (joined_by own) u r' in
      untold_arms 1 old new pattern result (untold_label 1 old new pattern result (label_below (joined_by own) result arms.label)) (arms_below (joined_by own) result arms)
