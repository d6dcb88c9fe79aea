-- In which order a history has the calls of a script's lines. A cut is a line and no call.
use Rattle.std.specs.Prelude.{◌≡◌, ℕ, List, [], ◌∷◌}
use Rattle.std.specs.List.{flat_map}
use Rattle.kv_model.specs.declared.call.Call.{Call}
use Rattle.kv_model.specs.declared.call.Entry.{Entry}
use Rattle.kv_model.specs.Orders as orders
use Rattle.script_core.specs.declared.line.Act.{Act}
use Rattle.script_core.specs.declared.line.Act.TheVariants.{Do, Cut}
use Rattle.script_core.specs.declared.line.Line.{Line}

abbrev pub call_of : ℕ → Act → List (ℕ × Call)
call_of who (Do call) = (who, call) ∷ []
call_of who (Cut side n torn) = []

-- the callers and the calls of the lines that are no cut, in order
abbrev pub calls_of : List Line → List (ℕ × Call)
calls_of lines = flat_map (λ (line : Line). call_of line.who line.act) lines

-- the history has the calls of the lines and no others, in their order
abbrev pub InOrder : List Entry → List Line → Type 0
InOrder entries lines = orders.InOrder entries (calls_of lines)

-- it has the calls of each client's lines in their order, and no others
abbrev pub Interleaves : List Entry → List Line → Type 0
Interleaves entries lines = orders.Interleaves entries (calls_of lines)

-- the line that asks for the call of an entry
abbrev pub line_for : Entry → Line
line_for entry = record { who = entry.who; act = Do entry.call }

-- a line that cuts the power
abbrev pub IsCut : Line → Type 0
IsCut line = call_of line.who line.act ≡ []
