use Rattle.std.proofs.Common.{◌≢◌, ap, refl, inl, inr, ◌∙◌, arith}
use Rattle.slab.proofs.SlabLemmas.{Contains-cons, Contains-cons_cases, Contains-entries}
use Rattle.kv_iters.specs.Slots.{name_of, IsAt}
use Rattle.kv_iters.proofs.SlotLemmas.{position_at, lacking, use_granted, use_refused}
use Rattle.kv_iters.proofs.named.place_of.Goals as goal
use Rattle.kv_iters.proofs.named.place_of.Goals.{else-named-who-via-then-named-who+else-named-n, else-named-who-via-else-named-who}

pub loop-place-init : goal.loop-place-init
loop-place-init c =
    let left = c.into_iter-place-iterator.ensures.into_iter_gives ∙ c.iter-place-items.ensures.rest in (
      tt,
      tt,
      λ place named there is_named. rw left ((Contains-entries c.args.slots.now place named).1 there),
      λ place named listed. (Contains-entries c.args.slots.now place named).0 (rw left at listed),
    )

pub loop-place-preserved : goal.loop-place-preserved
loop-place-preserved c =
    let at = c.in-Some.ensures.steps in
    let differs : name_of c.in-Some.named.now ≢ (c.args.who, c.args.n) = elim c.else-named-who.branch [
      | else-named-who-via-then-named-who+else-named-n w ↦ λ same. w.if-named-n.false (ap (λ x. x.1) same)
      | else-named-who-via-else-named-who w ↦ λ same. w.if-named-who.false (ap (λ x. x.0) same)
    ] in (
      tt,
      tt,
      λ place named there is_named. elim (Contains-cons_cases _ _ _ (rw at at (c.loop-place.invariant.2 place named there is_named))) [
        | inl same ↦ absurd (differs (ap (λ e. name_of e.1) same ∙ is_named))
        | inr rest ↦ rest
      ],
      λ place named listed. c.loop-place.invariant.3 place named (rw at (Contains-cons _ _ _ listed)),
    )

found_at : (c : goal.Then-named-n) → IsAt c.args.slots.now (c.args.who, c.args.n) c.in-Some.place
found_at c = record {
  named = c.in-Some.named.now;
  there = c.loop-place.invariant.3 c.in-Some.place c.in-Some.named.now (rw c.in-Some.ensures.steps (0, omega arith, refl));
  is_named = λ i. (c.if-named-who.true i, c.if-named-n.true i);
}

pub returns-then-named-n-clause-found : goal.returns-then-named-n-clause-found
returns-then-named-n-clause-found c = found_at c

pub returns-then-named-n-clause-granted : goal.returns-then-named-n-clause-granted
returns-then-named-n-clause-granted c =
    let is = found_at c in
    use_granted _ _ _ is.named.iter (position_at c.args.slots.now _ c.in-Some.place is.named c.requires is is.there)

-- no entry is left, so none has the name
pub returns-clause-absent : goal.returns-clause-absent
returns-clause-absent c =
    lacking c.args.slots.now _
    (λ place named there is_named. let listed = rw c.in-None.ensures.steps.0 at (c.loop-place.invariant.2 place named there is_named) in omega (arith, listed.1))

pub returns-clause-refused : goal.returns-clause-refused
returns-clause-refused c = use_refused _ _ _ (returns-clause-absent c)
