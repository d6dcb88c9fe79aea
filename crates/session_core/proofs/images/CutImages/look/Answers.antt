use Rattle.std.proofs.Common.{◌≡◌, ℕ, true, false, List, [], ◌∷◌, inl, inr, ⊎_elim, subst, rules}
use Rattle.std.specs.Prelude.{None, Some, is_some}
use Rattle.record_core.specs.Mounts.{StandsIn}
use Rattle.session_core.specs.Search.{GoesOn}
use Rattle.session_core.proofs.SearchLemmas.{one_breaks, one_stands, stays_first}
use Rattle.session_core.proofs.images.CutImages.look.Goals as goal

pub returns-then-is_some : goal.returns-then-is_some
returns-then-is_some c =
    let some : is_some c.args.found ≡ true = search rules in
    stays_first c.args.self.now.before.now c.args.self.now.after.now c.args.found _ some

pub returns-then-is_before : goal.returns-then-is_before
returns-then-is_before c =
    let none : is_some c.args.found ≡ false = search rules in
    let before = c.args.self.now.before.now in
    let after = c.args.self.now.after.now in
    let read = c.part_of-read.result.now in
    let stands : StandsIn before (c.args.place, read) = search rules in
    subst (λ (l : List ℕ). GoesOn before after c.args.found ((c.args.place, l) ∷ []) None) c.part_of-read.ensures
    (one_stands before after c.args.found none (c.args.place, read) (inl stands))

pub returns-then-is_after : goal.returns-then-is_after
returns-then-is_after c =
    let none : is_some c.args.found ≡ false = search rules in
    let before = c.args.self.now.before.now in
    let after = c.args.self.now.after.now in
    let read = c.part_of-read.result.now in
    let stands : StandsIn after (c.args.place, read) = search rules in
    subst (λ (l : List ℕ). GoesOn before after c.args.found ((c.args.place, l) ∷ []) None) c.part_of-read.ensures
    (one_stands before after c.args.found none (c.args.place, read) (inr stands))

pub returns : goal.returns
returns c =
    let none : is_some c.args.found ≡ false = search rules in
    let before = c.args.self.now.before.now in
    let after = c.args.self.now.after.now in
    let read = c.part_of-read.result.now in
    let not_before : StandsIn before (c.args.place, read) → ⊥ = search rules in
    let not_after : StandsIn after (c.args.place, read) → ⊥ = search rules in
    subst (λ (l : List ℕ). GoesOn before after c.args.found ((c.args.place, l) ∷ []) (Some c.args.place)) c.part_of-read.ensures
    (one_breaks before after c.args.found none (c.args.place, read) (λ one. ⊎_elim not_before not_after one))
