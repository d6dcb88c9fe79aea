-- What it is to serve a script.
use Rattle.std.specs.Prelude.{◌≡◌, ◌⊎◌, ℕ, ◌<◌, List, [], length, map}
use Rattle.std.specs.Option.{ForSome}
use mathlib.Core.List.{IsPrefix}
use Rattle.kv_model.specs.declared.call.Entry.{Entry}
use Rattle.kv_model.specs.Constants.{Constants}
use Rattle.kv_model.specs.History.{IsLegal}
use Rattle.kv_model.specs.Opening.{Opening}
use Rattle.kv_model.specs.Orders.{calls_by, lines_of}
use Rattle.kv_model.specs.Rules.{Rules}
use Rattle.script_core.specs.declared.line.Line.{Line}
use Rattle.script_core.specs.LineOrder.{Interleaves, calls_of, line_for}
use Rattle.session_core.specs.declared.ended.Ended.{Ended}
use Rattle.session_core.specs.declared.ended.Ended.TheVariants as ended
use Rattle.session_core.specs.declared.replay.Outcome.{Outcome}
use Rattle.session_core.specs.declared.session.Session.{Session}
use Rattle.session_core.specs.Power.{HasPower, LeavesPower, Power, ShowsCuts}
use Rattle.session_core.specs.Views.{state_in}
use Rattle.shared_kv.specs.Histories.{StandsFor}

-- the history has the first calls of each client's lines, in their order, and no others
abbrev pub InterleavesPart : List Entry → List Line → Type 0
InterleavesPart entries lines = (who : ℕ) → IsPrefix (calls_by who (lines_of entries)) (calls_by who (calls_of lines))

-- and of some client not all
abbrev pub LacksSome : List Entry → List Line → Type 0
LacksSome entries lines = (who : ℕ) × (length (calls_by who (lines_of entries)) < length (calls_by who (calls_of lines)))

-- The calls of all lines were made, or there was no memory for some call, or to make any. No record is looked for that
-- is there by chance.
abbrev pub InterleavesTo : Ended → List Entry → List Line → Type 0
InterleavesTo ended.Whole entries lines = Interleaves entries lines
InterleavesTo (ended.Chance side place) entries lines = ⊥
InterleavesTo ended.Memory entries lines = InterleavesPart entries lines × ((entries ≡ []) ⊎ LacksSome entries lines)

-- What serving these lines makes of a store: its calls are one legal history from what it was to what it is.
pub record Serves (rules_by : Constants → Rules) (old new : Opening) (lines : List Line) (outcome : Outcome) : Type 0 where
  pub stands : StandsFor rules_by new outcome.journal.entries old
  pub legal : ForSome old.state (λ before. ForSome new.state (λ after. IsLegal (rules_by old.constants) before outcome.journal.entries after))
  pub order : InterleavesTo outcome.ended outcome.journal.entries lines

-- Power shows in the replies as it does where the same calls are replayed in the order of the history.
abbrev pub ShowsPower : Session → Session → List Entry → Type 0
ShowsPower old new entries = (power : Power) → HasPower (state_in old) power
    → ShowsCuts power (map line_for entries) entries × LeavesPower (state_in new) power entries
