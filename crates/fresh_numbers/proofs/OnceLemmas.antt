-- A number is taken once.
use Rattle.std.proofs.Common.{◌≡◌, inl, inr, ℕ, ◌+◌, ◌≤◌, Bool, true, false, nat_le, List, [], Option, IfSome, refl, sym, subst, arith}
use Rattle.std.proofs.lemmas.Bool.{leb-false, leb-true}
use Rattle.kv_model.specs.FlaggedMap.{Stored}
use Rattle.sealed_pair.proofs.SealLemmas.{HaveForm}
use Rattle.sealed_pair.proofs.SetLemmas.{SealsOpen}
use Rattle.fresh_numbers.specs.Histories.{History, IsHistory, first_state, root_of}
use Rattle.fresh_numbers.specs.Replays.{HasHad, HasNumber}
use Rattle.fresh_numbers.proofs.NumberLemmas.{IsNumbered, floor}
use Rattle.fresh_numbers.proofs.HistoryLemmas.{Heals, first_kept, number_before}
use Rattle.fresh_numbers.proofs.ReplayLemmas.{AreMoments, IsOld, OneReading, had, moments, seal_number}

module _ (opens : SealsOpen) (form : HaveForm) (one : OneReading) (heals : Heals) (h : History) (is : IsHistory h) (key : List ℕ) (number : ℕ) where
  abbrev Was : List ℕ → Type 0
  Was bytes = HasHad h key bytes

  in_order : (first second : List ℕ) (a : Was first) (b : Was second) → HasNumber (root_of h) key first number → HasNumber (root_of h) key second number → a.passed.0 ≤ b.passed.0 → first ≡ second
  in_order first second a b first_number second_number order =
      let m : AreMoments Was key h.constants a.state b.state =
      moments Was key h.constants form heals a.state b.state h.events h.states (first_state h) is.passes (had opens form one heals h is a.state a.passed key) (first_kept Was key [] h.constants h.number is.fits)
      a.passed.0 b.passed.0 order a.passed.1 a.passed.2 b.passed.1 b.passed.2 in
      let old : IsOld Was key h.constants b.state (record { flags = a.flags; bytes = first }) = subst (λ (o : Option Stored). IfSome o (IsOld Was key h.constants b.state)) a.stored m in
      let before = seal_number opens form one heals h key first number old.numbered.sealed first_number in
      let kept = old.since before.0 in
      let limit : ℕ = floor b.state.open_set (number_before b.state) in
      let n : IsNumbered Was (root_of h) key first (old.numbered.sealed.iv + 1) limit second =
      subst (λ (o : Option Stored). IfSome o (λ (x : Stored). IsNumbered Was (root_of h) key first (old.numbered.sealed.iv + 1) limit x.bytes)) b.stored kept.keeps.both.primary in
      let after = seal_number opens form one heals h key second number n.sealed second_number in
      let first_is = before.1 in
      let second_is = after.1 in
      elim ((n.between after.0).0) [
        | inl same ↦ sym same
        | inr low ↦ absurd (omega (arith, low, first_is, second_is))
      ]

  pub taken_once : (first second : List ℕ) → Was first → HasNumber (root_of h) key first number → Was second → HasNumber (root_of h) key second number → first ≡ second
  taken_once first second a first_number b second_number = by_order (nat_le a.passed.0 b.passed.0) refl
    where
      by_order : (c : Bool) → nat_le a.passed.0 b.passed.0 ≡ c → first ≡ second
      by_order true order = in_order first second a b first_number second_number (leb-true _ _ order)
      by_order false order = let less = leb-false a.passed.0 b.passed.0 order in sym (in_order second first b a second_number first_number (omega (arith, less)))
