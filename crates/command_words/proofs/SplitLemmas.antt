-- A word that a byte cuts in two, and the two put together.
use Rattle.std.proofs.Common.{◌≡◌, ℕ, eqb, Bool, true, false, cond, List, [], ◌∷◌, ◌++◌, Some, refl, ap, arith}
use Rattle.std.specs.Prelude.{not}
use Rattle.std.specs.List.{list_all}
use Rattle.std.proofs.lemmas.Bool.{eqb-true, eq-eqb}
use Rattle.script_core.proofs.Options.{some_is, both}
use Rattle.script_core.proofs.Splits.{IsWhole}
use Rattle.command_words.specs.Splits.{before, behind}

pub before-joined : (c : ℕ) (front back : List ℕ) → IsWhole c front → before c (front ++ c ∷ back) ≡ front
before-joined c [] back h = rw (eq-eqb c c refl) refl
before-joined c (b ∷ front) back h =
    let parts = both (not (eqb b c)) (list_all (λ x. not (eqb x c)) front) h in
    let other : eqb b c ≡ false = grind arith in
    rw (other, before-joined c front back parts.1) refl

pub behind-joined : (c : ℕ) (front back : List ℕ) → IsWhole c front → behind c (front ++ c ∷ back) ≡ Some back
behind-joined c [] back h = rw (eq-eqb c c refl) refl
behind-joined c (b ∷ front) back h =
    let parts = both (not (eqb b c)) (list_all (λ x. not (eqb x c)) front) h in
    let other : eqb b c ≡ false = grind arith in
    rw (other, behind-joined c front back parts.1) refl

joined_at : (c b : ℕ) (word rest : List ℕ) (same : Bool) → eqb b c ≡ same → cond same (Some word) (behind c word) ≡ Some rest
    → (behind c word ≡ Some rest → word ≡ before c word ++ c ∷ rest) → b ∷ word ≡ cond same [] (b ∷ before c word) ++ c ∷ rest
joined_at c b word rest true e h later = cc (eqb-true b c e, some_is word rest h)
joined_at c b word rest false e h later = ap (λ (w : List ℕ). b ∷ w) (later h)

pub joined : (c : ℕ) (word rest : List ℕ) → behind c word ≡ Some rest → word ≡ before c word ++ c ∷ rest
joined c [] rest h = absurd cc
joined c (b ∷ word) rest h = joined_at c b word rest (eqb b c) refl h (joined c word rest)
