-- Device calls of one kind that are named to fail.
use Rattle.std.specs.Prelude.{ℕ, Bool, false, ◌||◌, nat_eq, nat_le, List, [], ◌∷◌, Option, Some, None}
use Rattle.base_core.specs.Counts.{counted}

-- The numbers of the calls that fail, the number of the next call, counted from 1 since they were named, and how many
-- calls of this kind have failed at all.
pub record PlanState : Type 0 where
  pub named : List ℕ
  pub next : ℕ
  pub faults : ℕ

-- n is one of these
unfoldable pub names : List ℕ → ℕ → Bool
names [] n = false
names (first ∷ named) n = nat_eq first n || names named n

-- one of these is not below n
unfoldable pub names_from : List ℕ → ℕ → Bool
names_from [] n = false
names_from (first ∷ named) n = nat_le n first || names_from named n

-- the next call fails
abbrev pub is_named : PlanState → Bool
is_named plan = names plan.named plan.next

-- some call that is named is still to come
abbrev pub is_to_come : PlanState → Bool
is_to_come plan = names_from plan.named plan.next

-- one call more, and one that failed
abbrev pub after_call : PlanState → PlanState
after_call plan = record plan { next = counted plan.next }

abbrev pub after_fault : PlanState → PlanState
after_fault plan = record plan { faults = counted plan.faults }

abbrev pub no_plan : PlanState
no_plan = record { named = []; next = 1; faults = 0 }

-- the list that is there, or none
abbrev pub numbers_of : {V : Type 0} → (V → List ℕ) → Option V → List ℕ
numbers_of items None = []
numbers_of items (Some v) = items v
