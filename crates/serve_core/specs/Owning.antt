-- Which calls of a history are those of a pass.
use Rattle.std.specs.Prelude.{◌≡◌, ℕ, ◌+◌, ◌<◌, ◌≤◌, ◌==◌, nat_lt, Bool, true, false, ◌&&◌, cond, List, [], ◌∷◌, length, is_some}
use mathlib.Core.List.{IsPrefix}
use Rattle.kv_model.specs.declared.call.Call.{Call}
use Rattle.kv_model.specs.declared.call.Entry.{Entry}
use Rattle.kv_model.specs.Orders.{Line, calls_by}
use Rattle.script_core.specs.declared.line.Act.{Act}
use Rattle.script_core.specs.declared.line.Act.TheVariants.{Do}
use Rattle.script_core.specs.declared.line.Line.{Line as ScriptLine}
use Rattle.shared_kv.specs.declared.fault.Answer.{Answer}
use Rattle.shared_kv.specs.Turns.{Completes, GoesOn}
use Rattle.turn_lock.specs.Totals.{times}
use Rattle.turn_lock.specs.Views.{less_parts, newcomer_beside}
use Rattle.turn_lock.specs.declared.view.View.{View}
use Rattle.serve_core.specs.Clients.{lines_by, lines_from}

-- whether an entry at this position is one of these positions, and a client's
abbrev pub is_made : ℕ → List ℕ → ℕ → Entry → Bool
is_made who own at entry = nat_lt 0 (times at own) && (entry.who == who)

-- The calls of a client that stand at these positions of a history, in its order. Its first position is given.
abbrev pub made_by : ℕ → List ℕ → ℕ → List Entry → List Call
made_by who own at [] = []
made_by who own at (entry ∷ entries) =
    cond (is_made who own at entry) (entry.call ∷ made_by who own (at + 1) entries) (made_by who own (at + 1) entries)

-- the calls of a client that are a pass's own
abbrev pub made_in : View → ℕ → List Call
made_in v who = made_by who v.own 1 v.seen

-- A pass owns of the clients that are its own the first of their lines' calls, in their order: all of them where their
-- work is whole, and else of some client not all. Of others it owns none.
pub record Owns (mine : ℕ → Bool) (lines : List Line) (whole : Bool) (v : View) : Type 0 where
  pub within : (p : ℕ) → 0 < times p v.own → p ≤ length v.seen
  pub others : (who : ℕ) → mine who ≡ false → made_in v who ≡ []
  pub part : (who : ℕ) → IsPrefix (made_in v who) (calls_by who lines)
  pub all : whole ≡ true → (who : ℕ) → mine who ≡ true → made_in v who ≡ calls_by who lines
  pub lacks : whole ≡ false → (who : ℕ) × (mine who ≡ true) × (length (made_in v who) < length (calls_by who lines))

-- a pass that owns nothing, with parts for all lines of its client, or of the clients from one on and one more
pub record CanWork (lines : List ScriptLine) (v : View) : Type 0 where
  pub none : v.own ≡ []
  pub room : lines_by v.who lines ≤ v.parts

pub record CanServe (who : ℕ) (lines : List ScriptLine) (v : View) : Type 0 where
  pub none : v.own ≡ []
  pub room : lines_from who lines < v.parts

-- so many parts of a pass went to a new one
pub record IsSplit (old new other : View) (who parts : ℕ) : Type 0 where
  pub kept : new ≡ less_parts parts old
  pub given : other ≡ newcomer_beside old who parts
  pub enough : parts ≤ old.parts

-- a pass from the same opening, with as many parts
pub record IsSamePass (old new : View) : Type 0 where
  pub opening : new.opening ≡ old.opening
  pub parts : new.parts ≡ old.parts

-- ---- one line

-- no call was made, since somebody has quit
pub record MakesNone (old new : View) : Type 0 where
  pub goes : GoesOn old new
  pub own : new.own ≡ old.own
  pub quit : is_some new.quitter ≡ true

-- the call of a line was made, or none was
abbrev pub Makes : View → View → Act → Bool → Type 0
Makes old new act true = (call : Call) × (answer : Answer) × (act ≡ Do call) × Completes old new call answer
Makes old new act false = MakesNone old new
