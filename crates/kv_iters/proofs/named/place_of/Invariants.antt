use Rattle.std.proofs.Common.{◌≡◌, ℕ, Some, Contains}
use Rattle.slab.specs.Slab.{get}
use Rattle.kv_iters.specs.declared.named.Named.{Named}
use Rattle.kv_iters.specs.Slots.{name_of}
use Rattle.kv_iters.proofs.named.place_of.Given as goal

-- an iterator of the name is among the entries that are left, and every entry left is the slab's
abbrev pub invariant-loop-place : goal.invariant-loop-place
invariant-loop-place l =
    (goal.iterator-loop-place).can_next l.place-iterator ×
    (goal.iterator-loop-place).is_finite l.place-iterator ×
    ((place : ℕ) (named : Named) → (get l.slots place ≡ Some named) → name_of named ≡ (l.who, l.n) → Contains l.place-iterator (place, named)) ×
    ((place : ℕ) (named : Named) → Contains l.place-iterator (place, named) → get l.slots place ≡ Some named)
