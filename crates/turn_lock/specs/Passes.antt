-- What the calls say of passes, and of the value in a turn.
use Rattle.std.specs.Prelude.{◌≡◌, ℕ, ◌+◌, ◌<◌, ◌≤◌, List, [], ◌∷◌, length, Option, Some, None}
use mathlib.Core.List.{IsPrefix}
use Rattle.atomic_table.specs.Seated.{TableId}
use Rattle.atomic_table.specs.declared.shared.Seat.{Seat}
use Rattle.kv_model.specs.declared.call.Entry.{Entry}
use Rattle.kv_model.specs.Opening.{Opening}
use Rattle.turn_lock.specs.Books.{Book}
use Rattle.turn_lock.specs.Totals.{times, once}
use Rattle.turn_lock.specs.Views.{ALL, taken, loaded, longer, missed, with_found, with_seen}
use Rattle.turn_lock.specs.Steps.{IsNext, IsProper}
use Rattle.turn_lock.specs.declared.view.View.{View}
use Rattle.turn_lock.specs.declared.view.Phase.TheVariants.{Idle, Loaded}
use Rattle.turn_lock.specs.declared.held.Held.{Held}
use Rattle.turn_lock.specs.declared.pass.Pass.{Pass}

-- the value that is lent in a turn
abbrev pub value_of : {S : Type 0} → Held S → S
value_of held = held.state

abbrev pub view_of : {S : Type 0} → Pass S → View
view_of pass = pass.seat.me.0

-- a seat of this table that hasn't the turn
pub record IsIdleSeat {S : Type 0} (table : TableId) (seat : Seat (Option S) View) : Type 0 where
  pub of_table : seat.table_id ≡ table
  pub idle : seat.me.0.phase ≡ Idle
  pub empty : seat.me.1 ≡ []

-- a pass of this table that hasn't the turn
abbrev pub IsIdle : {S : Type 0} → TableId → Pass S → Type 0
IsIdle table pass = IsIdleSeat table pass.seat

-- a pass of this table that hasn't the turn, and has parts left for so many entries
pub record IsReady {S : Type 0} (table : TableId) (entries : ℕ) (pass : Pass S) : Type 0 where
  pub idle : IsIdle table pass
  pub room : length (view_of pass).own + entries ≤ (view_of pass).parts

-- two passes at once
abbrev pub AreIdle : {S : Type 0} → TableId → Pass S → Pass S → Type 0
AreIdle table one other = IsIdle table one × IsIdle table other

abbrev pub AreReady : {S : Type 0} → TableId → ℕ → Pass S → Pass S → Type 0
AreReady table entries one other = IsReady table entries one × IsReady table entries other

-- a pass of this table that has the turn, and the value is out
pub record IsAtTurn {S : Type 0} (table : TableId) (pass : Pass S) : Type 0 where
  pub of_table : pass.seat.table_id ≡ table
  pub loaded : pass.seat.me.0.phase ≡ Loaded
  pub noted : pass.seat.me.0.seen ≡ pass.seat.me.0.noted
  pub out : pass.seat.me.1 ≡ (0, None) ∷ []

-- the one exchange found the turn taken
abbrev pub HasMissed : View → ℕ → View → Type 0
HasMissed old word new = (word ≡ 1) × (new ≡ missed word old)

-- two lists begin a third
abbrev pub BothBegin : List Entry → List Entry → List Entry → Type 0
BothBegin xs ys zs = IsPrefix xs zs × IsPrefix ys zs

-- what two passes have seen begins what a third has
abbrev pub HasBoth : View → View → View → Type 0
HasBoth v w u = BothBegin v.seen w.seen u.seen

-- a pass has seen what it had seen, or what it was told, and both begin what it has seen
abbrev pub HasHeard : View → List Entry → View → Type 0
HasHeard old told new = (new ≡ with_seen (longer old.seen told) old) × BothBegin old.seen told (longer old.seen told)

-- both have seen the longer of what they had seen, which begins with either
pub record HaveMetAs (v w v' w' : View) : Type 0 where
  pub begins : BothBegin v.seen w.seen (longer v.seen w.seen)
  pub one : v' ≡ with_seen (longer v.seen w.seen) v
  pub other : w' ≡ with_seen (longer v.seen w.seen) w

abbrev pub HaveMet : {S : Type 0} → Pass S → Pass S → Pass S → Pass S → Type 0
HaveMet one other one' other' = HaveMetAs (view_of one) (view_of other) (view_of one') (view_of other')

module _ {S : Type 0} (stands_for : S → Opening → Type 0) (book : S → Book) where
  -- the value is as last noted
  pub record IsAsNoted (v : View) (x : S) : Type 0 where
    pub stands : stands_for x v.opening
    pub entries : (book x).entries ≡ v.noted
    pub first : (book x).quitter ≡ v.quitter

  -- the turn was taken: the pass has seen the value's history, which begins with what it had seen. The value has the
  -- pass's opening, and names each mark of the pass as the first that quit
  pub record HasTurn (old : View) (x : S) (new : View) : Type 0 where
    pub view : new ≡ loaded (taken (book x) old)
    pub stands : stands_for x old.opening
    pub seen : IsPrefix old.seen (book x).entries
    pub marks : (who : ℕ) → 0 < times who old.marks → (book x).quitter ≡ Some who
    pub noted : IsAsNoted new x
    pub proper : IsProper new

  -- the same, after any number of exchanges that found the turn taken
  abbrev pub HasTurnLater : Pass S → S → Pass S → Type 0
  HasTurnLater old x new = (found : List ℕ) × HasTurn (with_found found (view_of old)) x (view_of new)

  -- the value may be noted by a pass at its turn
  pub record MayNote (v : View) (x : S) : Type 0 where
    pub stands : stands_for x v.opening
    pub next : IsNext v (book x)

  -- the value that comes out at the end: of a pass that has all parts, each position of the history is its own, once
  pub record HasClosed (v : View) (x : S) : Type 0 where
    pub stands : stands_for x v.opening
    pub seen : IsPrefix v.seen (book x).entries
    pub marks : (who : ℕ) → 0 < times who v.marks → (book x).quitter ≡ Some who
    pub short : length (book x).entries ≤ ALL
    pub owned : v.parts ≡ ALL → (p : ℕ) → times p v.own ≡ once p (length (book x).entries)
