use Rattle.std.proofs.Common.{◌≡◌, ℕ, ◌+◌, ◌<◌, Bool, true, false, List, [], length, drop, get_or, refl, sym, ◌∙◌, ap}
use Rattle.std.specs.Prelude.{◌||◌, nat_eq}
use Rattle.std.proofs.lemmas.List.{drop_all}
use Rattle.std.proofs.lemmas.Bool.{eq-eqb, eqb-true}
use Rattle.flash_sim.specs.Plan.{names}
use Rattle.flash_sim.proofs.PlanLaws.{names_next, names_none}
use Rattle.flash_sim.proofs.plan.has.Goals as goal

found : (named : List ℕ) (i number : ℕ) → i < length named → get_or named i 0 ≡ number → true ≡ names (drop i named) number
found named i number lt is = sym (names_next named i number lt ∙ ap (λ (b : Bool). b || names (drop (i + 1) named) number) (eq-eqb (get_or named i 0) number is))

not_equal : (a b : ℕ) (test : Bool) → nat_eq a b ≡ test → (a ≡ b → ⊥) → nat_eq a b ≡ false
not_equal a b true is other = absurd (other (eqb-true a b is))
not_equal a b false is other = is

another : (named : List ℕ) (i number : ℕ) → i < length named → (get_or named i 0 ≡ number → ⊥) → names (drop (i + 1) named) number ≡ names (drop i named) number
another named i number lt other =
    sym (names_next named i number lt ∙ ap (λ (b : Bool). b || names (drop (i + 1) named) number) (not_equal (get_or named i 0) number (nat_eq (get_or named i 0) number) refl other))

pub returns-then-from-number : goal.returns-then-from-number
returns-then-from-number c = found c.args.named.now c.loop-first.first-index c.args.number c.loop-first-test.true (sym c.from.ensures ∙ c.if-from-number.true) ∙ c.loop-first.invariant

pub loop-first-preserved : goal.loop-first-preserved
loop-first-preserved c =
    another c.args.named.now c.loop-first.first-index c.args.number c.loop-first-test.true (λ same. c.if-from-number.false (c.from.ensures ∙ same)) ∙ c.loop-first.invariant

pub returns : goal.returns
returns c =
    let none : drop c.loop-first.first-index c.args.named.now ≡ [] = drop_all c.loop-first.first-index c.args.named.now c.loop-first-test.false in
    sym (names_none c.args.number) ∙ ap (λ (l : List ℕ). names l c.args.number) (sym none) ∙ c.loop-first.invariant
