-- The rule of a table of turns: what holds between any two steps of any of its passes.
use Rattle.std.specs.Prelude.{◌≡◌, ◌≢◌, ◌⊎◌, ℕ, ◌+◌, ◌-◌, ◌<◌, ◌≤◌, List, [], ◌∷◌, length, Option, Some, IfSome}
use mathlib.Core.Option.{some}
use mathlib.Core.List.{IsPrefix}
use lib.ListN.{get_elem?}
use Rattle.atomic_table.specs.Table.{State}
use Rattle.kv_model.specs.declared.call.Entry.{Entry}
use Rattle.kv_model.specs.Opening.{Opening}
use Rattle.turn_lock.specs.Books.{Book}
use Rattle.turn_lock.specs.Totals.{total, times, once}
use Rattle.turn_lock.specs.Views.{ALL}
use Rattle.turn_lock.specs.declared.view.View.{View}
use Rattle.turn_lock.specs.declared.view.Phase.{Phase}
use Rattle.turn_lock.specs.declared.view.Phase.TheVariants.{Idle, Taken, Loaded, Closing, Spent}

-- 1 where the value is out of its slot
abbrev pub out : Phase → ℕ
out Idle = 0
out Taken = 1
out Loaded = 1
out Closing = 0
out Spent = 0

-- 1 where the last turn was had
abbrev pub last : Phase → ℕ
last Idle = 0
last Taken = 0
last Loaded = 0
last Closing = 1
last Spent = 0

-- 0 where the pass went into another
abbrev pub live : Phase → ℕ
live Idle = 1
live Taken = 1
live Loaded = 1
live Closing = 1
live Spent = 0

-- 1 where the view has seen all of the history
abbrev pub has_all : List Entry → View → ℕ
has_all log v = 1 - (length log - length v.seen)

-- the passes that have the turn
abbrev pub busy : List View → ℕ
busy views = total (λ v. out v.phase) views + total (λ v. last v.phase) views

-- what a view knows of the one history
pub record Knows (opening : Opening) (log : List Entry) (quitter : Option ℕ) (v : View) : Type 0 where
  pub opened : 0 < live v.phase → v.opening ≡ opening
  pub seen : IsPrefix v.seen log
  pub shorter : IsPrefix v.shorter log
  pub loaded : v.phase ≡ Loaded → v.seen ≡ log
  pub noted : 0 < out v.phase → (v.noted ≡ log) × (v.quitter ≡ quitter)
  pub room : length v.own ≤ v.parts
  pub own : (p : ℕ) → 0 < times p v.own → p ≤ length v.seen
  pub marks : (who : ℕ) → 0 < times who v.marks → quitter ≡ Some who

-- two passes of one table: they don't both have the turn, one has seen a beginning of what the other has, and no
-- position is own of both
pub record Agree (v w : View) : Type 0 where
  pub turn : out v.phase + out w.phase ≤ 1
  pub seen : IsPrefix v.seen w.seen ⊎ IsPrefix w.seen v.seen
  pub own : (p : ℕ) → times p v.own + times p w.own ≤ 1

module _ {S : Type 0} (stands_for : S → Opening → Type 0) (book : S → Book) where
  -- the value has this opening, history and first quitter
  pub record Fits (opening : Opening) (log : List Entry) (quitter : Option ℕ) (x : S) : Type 0 where
    pub stands : stands_for x opening
    pub entries : (book x).entries ≡ log
    pub first : (book x).quitter ≡ quitter

  -- word 0 counts the passes that have the turn, word 1 the entries, and slot 0 has the value while it is not out
  pub record Kept (s : State (Option S) View) : Type 0 where
    pub opening : Opening
    pub log : List Entry
    pub quitter : Option ℕ
    pub words : s.words ≡ busy s.views ∷ length log ∷ []
    pub one : busy s.views ≤ 1
    pub single : length s.homes ≡ 1
    pub home : total (λ v. out v.phase) s.views ≡ 0
        → (x : S) × (get_elem? s.homes 0 ≡ some (some (Some x))) × Fits opening log quitter x
    pub each : (k : ℕ) (v : View) → get_elem? s.views k ≡ some v → Knows opening log quitter v
    -- some view has seen the whole
    pub whole : 0 < total (has_all log) s.views
    -- each position is own of one view, once
    pub owned : (p : ℕ) → total (λ v. times p v.own) s.views ≡ once p (length log)
    pub made : total (λ v. length v.own) s.views ≡ length log
    pub parts : total (λ v. v.parts) s.views ≡ ALL
    -- a first quitter is a mark of some view
    pub marked : IfSome quitter (λ who. 0 < total (λ v. times who v.marks) s.views)

  -- so it is of any two passes, whatever was done at the table so far
  abbrev pub PassesAgree : Type 0
  PassesAgree = (s : State (Option S) View) → Kept s → (i j : ℕ) (v w : View) → i ≢ j → get_elem? s.views i ≡ some v → get_elem? s.views j ≡ some w → Agree v w
