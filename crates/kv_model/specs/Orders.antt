-- In which order a history has the calls of a script. A line is a client's number and its call; cuts are no lines here.
use Rattle.std.specs.Prelude.{◌≡◌, ℕ, ◌==◌, List, map, filter}
use Rattle.kv_model.specs.declared.call.Call.{Call}
use Rattle.kv_model.specs.declared.call.Entry.{Entry}

abbrev pub Line : Type 0
Line = ℕ × Call

abbrev pub line_of : Entry → Line
line_of entry = (entry.who, entry.call)

-- the callers and the calls of a history, in order
abbrev pub lines_of : List Entry → List Line
lines_of entries = map line_of entries

-- the calls of one client, in order
abbrev pub calls_by : ℕ → List Line → List Call
calls_by who lines = map (λ (line : Line). line.1) (filter (λ (line : Line). line.0 == who) lines)

-- the history has the lines and no others, in their order
abbrev pub InOrder : List Entry → List Line → Type 0
InOrder entries lines = lines_of entries ≡ lines

-- It has the lines of each client in their order, and no others: a number that has no lines has no entries.
abbrev pub Interleaves : List Entry → List Line → Type 0
Interleaves entries lines = (who : ℕ) → calls_by who (lines_of entries) ≡ calls_by who lines
