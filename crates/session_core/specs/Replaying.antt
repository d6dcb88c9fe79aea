-- What a replay of a script's lines does to a session and its journal.
use Rattle.std.specs.Prelude.{◌≡◌, ℕ, ◌+◌, true, List, [], ◌∷◌, ◌++◌, length, take, is_some, Some}
use Rattle.std.specs.Option.{ForSome}
use Rattle.kv_model.specs.declared.call.Call.TheVariants.{Mount}
use Rattle.kv_model.specs.declared.call.Entry.{Entry}
use Rattle.kv_model.specs.History.{AreNumbered, IsLegal, Runs}
use Rattle.kv_model.specs.Orders.{Line, lines_of}
use Rattle.kv_memory.specs.Going.{Seen, seen}
use Rattle.script_core.specs.declared.line.Act.{Act}
use Rattle.script_core.specs.declared.line.Act.TheVariants.{Do}
use Rattle.script_core.specs.declared.line.Line.{Line as ScriptLine}
use Rattle.script_core.specs.LineOrder.{InOrder, call_of}
use Rattle.session_core.specs.declared.ended.Ended.{Ended}
use Rattle.session_core.specs.declared.ended.Ended.TheVariants as ended
use Rattle.session_core.specs.declared.replay.Outcome.{Outcome}
use Rattle.session_core.specs.declared.session.Session.{Session}
use Rattle.session_core.specs.Backing.{session_rules}
use Rattle.session_core.specs.Chips.{HasSameAreas}
use Rattle.session_core.specs.Growing.{GrowsBy, LogGoesOn}
use Rattle.session_core.specs.Power.{HasPower, LeavesPower, Power, Steady, Shows, ShowsCuts, acts_of, cuts_in}
use Rattle.session_core.specs.Settling.{IsSessionChance}
use Rattle.session_core.specs.Views.{primary_in, state_in}

-- The journal has these lines more, mounts among them, with their replies. Where the state is told before and behind
-- them, they lead from the one to the other by the session's rules.
pub record HasReplayed (old new : Seen) (lines : List Line) : Type 0 where
  pub constants : new.store.known.constants ≡ old.store.known.constants
  pub more : List Entry
  pub entries : new.entries ≡ old.entries ++ more
  pub lines_are : lines_of more ≡ lines
  pub numbered : AreNumbered old.entries more
  pub runs : ForSome old.store.known.state (λ before. ForSome new.store.known.state (λ after.
      Runs (session_rules old.store.known.constants) before more after))

abbrev pub seen_in : Session → List Entry → Seen
seen_in session entries = seen (state_in session) entries

-- a state that was told is told still
abbrev pub StillTells : Session → Session → Type 0
StillTells old new = is_some (state_in old).known.state ≡ true → is_some (state_in new).known.state ≡ true

-- what power there is stays
abbrev pub KeepsPower : Session → Session → Type 0
KeepsPower old new = (power : Power) → HasPower (state_in old) power → HasPower (state_in new) power

-- The replies of an act show what becomes of the power.
abbrev pub ShowsAct : Session → Session → List Entry → List Entry → Act → Type 0
ShowsAct old new entries later act = (power : Power) → HasPower (state_in old) power
    → (more : List Entry) × (after : Power) × (later ≡ entries ++ more) × Shows power (act ∷ []) more after × HasPower (state_in new) after

-- The log goes on by the entries of an act.
abbrev pub LogsAct : Session → Session → List Entry → List Entry → Type 0
LogsAct old new entries later = (more : List Entry) × (later ≡ entries ++ more) × LogGoesOn (state_in old) (state_in new) more

-- What a line does that ended so: all of it, or no more than a mount that found a record by chance, or than what stands
-- where there was no memory.
abbrev pub RunsLine : Session → Session → List Entry → List Entry → ScriptLine → Ended → Type 0
RunsLine old new entries later line ended.Whole =
    HasReplayed (seen_in old entries) (seen_in new later) (call_of line.who line.act) × StillTells old new × ShowsAct old new entries later line.act
    × LogsAct old new entries later
RunsLine old new entries later line (ended.Chance side place) =
    HasReplayed (seen_in old entries) (seen_in new later) [] × StillTells old new × IsSessionChance new (Some (side, place))
    × (line.act ≡ Do Mount) × (later ≡ entries) × KeepsPower old new
RunsLine old new entries later line ended.Memory =
    HasReplayed (seen_in old entries) (seen_in new later) [] × (later ≡ entries)

-- these lines begin so, with a mount behind
pub record IsMountBehind (lines before : List ScriptLine) : Type 0 where
  pub line : ScriptLine
  pub is_mount : line.act ≡ Do Mount
  pub behind : take (length before + 1) lines ≡ before ++ line ∷ []

-- the history has the calls of all lines in order, or of those before the one at which it ended
abbrev pub IsInOrderTo : Ended → List Entry → List ScriptLine → Type 0
IsInOrderTo ended.Whole entries lines = InOrder entries lines
IsInOrderTo (ended.Chance side place) entries lines = (before : List ScriptLine) × IsMountBehind lines before × InOrder entries before
IsInOrderTo ended.Memory entries lines = (n : ℕ) × InOrder entries (take n lines)

-- a record that is there by chance stops the replay at a mount, and is still there
abbrev pub IsStoppedAt : Ended → Session → Type 0
IsStoppedAt (ended.Chance side place) session = IsSessionChance session (Some (side, place))
IsStoppedAt ended session = Unit {0}

-- a replay that ended for no want of memory leaves a session that tells its state
abbrev pub TellsAt : Ended → Session → Session → Type 0
TellsAt ended.Memory old new = Unit {0}
TellsAt ended old new = StillTells old new

-- a replay that ended for no want of memory leaves a session that has power, or lost it in a write that failed
abbrev pub LeavesAt : Ended → Session → Session → List Entry → Type 0
LeavesAt ended.Memory old new entries = Unit {0}
LeavesAt ended old new entries = (power : Power) → HasPower (state_in old) power → LeavesPower (state_in new) power entries

-- What a replay of these lines gives.
pub record Replays (old new : Session) (lines : List ScriptLine) (outcome : Outcome) : Type 0 where
  pub constants : (state_in new).known.constants ≡ (state_in old).known.constants
  pub areas : HasSameAreas (primary_in old).geometry (primary_in new).geometry
  pub legal : ForSome (state_in old).known.state (λ before. ForSome (state_in new).known.state (λ after.
      IsLegal (session_rules (state_in old).known.constants) before outcome.journal.entries after))
  pub in_order : IsInOrderTo outcome.ended outcome.journal.entries lines
  pub chance : IsStoppedAt outcome.ended new
  pub tells : TellsAt outcome.ended old new
  pub cuts : (power : Power) → HasPower (state_in old) power → ShowsCuts power lines outcome.journal.entries
  pub power : LeavesAt outcome.ended old new outcome.journal.entries
  -- of a session with power, whose power is not cut
  pub grows : outcome.ended ≡ ended.Whole → HasPower (state_in old) Steady → cuts_in (acts_of lines) ≡ 0
      → GrowsBy (state_in old) (primary_in new) (state_in new) outcome.journal.entries
