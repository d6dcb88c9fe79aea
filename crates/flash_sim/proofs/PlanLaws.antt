-- Calls that are named, and those still to come.
use Rattle.std.proofs.Common.{◌≡◌, ℕ, ◌+◌, ◌<◌, ◌≤◌, Bool, true, false, List, [], ◌∷◌, length, drop, get_or, refl, sym, arith, add-one}
use Rattle.std.specs.Prelude.{◌||◌, nat_eq, nat_le}
use mathlib.Core.Bool.{false≢true}
use Rattle.std.proofs.lemmas.Bool.{leb-false, lt-leb, ne_eqb}
use Rattle.std.proofs.Math.Seq.{drop-cons}
use Rattle.flash_sim.specs.Plan.{names, names_from}

-- the number at a place, and those behind it
pub names_next : (named : List ℕ) (i number : ℕ) → i < length named → names (drop i named) number ≡ (nat_eq (get_or named i 0) number || names (drop (i + 1) named) number)
unfolding names
names_next named i number lt = rw (add-one, drop-cons named i 0) refl

or_false : (a b : Bool) → (a || b) ≡ false → (a ≡ false) × (b ≡ false)
or_false false b is = (refl, is)
or_false true b is = absurd (false≢true (sym is))

neither : (a b : Bool) → a ≡ false → b ≡ false → (a || b) ≡ false
neither false b is none = none
neither true b is none = absurd (false≢true (sym is))

not_below : (a n m : ℕ) → n ≤ m → nat_le n a ≡ false → nat_le m a ≡ false
not_below a n m le is = lt-leb m a (omega (arith, leb-false n a is, le))

not_equal : (a n : ℕ) → nat_le n a ≡ false → nat_eq a n ≡ false
not_equal a n is = ne_eqb a n (λ same. absurd (omega (arith, leb-false n a is, same)))

-- where none is still to come the next is not named
pub none_named : (named : List ℕ) (n : ℕ) → names_from named n ≡ false → names named n ≡ false
unfolding names names_from
none_named [] n is = refl
none_named (first ∷ named) n is =
    let parts = or_false (nat_le n first) (names_from named n) is in
    neither (nat_eq first n) (names named n) (not_equal first n parts.0) (none_named named n parts.1)

-- nor is one to come later
pub none_to_come : (named : List ℕ) (n m : ℕ) → n ≤ m → names_from named n ≡ false → names_from named m ≡ false
unfolding names_from
none_to_come [] n m le is = refl
none_to_come (first ∷ named) n m le is =
    let parts = or_false (nat_le n first) (names_from named n) is in
    neither (nat_le m first) (names_from named m) (not_below first n m le parts.0) (none_to_come named n m le parts.1)

pub names_none : (number : ℕ) → names [] number ≡ false
unfolding names
names_none number = refl
