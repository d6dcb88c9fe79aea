-- The value in a turn, lent for writing.
use Rattle.std.specs.Borrow.{Lends, MutBor, Fml}
use denote.RattleType.{RattleType}
use Rattle.turn_lock.specs.declared.held.Held.{Held}
use Rattle.turn_lock.specs.contracts.held.Held.{the_row}

-- the turn ends with the last value behind the reference
abbrev pub LendsState : (R : RattleType) → MutBor (Held R.Denot) → MutBor R.Denot → Fml
LendsState R held r = Lends (the_row R) R held r (λ state. record { state = state })
