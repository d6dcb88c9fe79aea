-- A journal by its clients.
use Rattle.std.specs.Prelude.{ℕ, Bool, ◌==◌, List, map, filter}
use Rattle.std.specs.List.{flat_map, enumerate_from, range_with_len}
use Rattle.kv_model.specs.declared.call.Entry.{Entry}
use Rattle.journal_core.specs.Texts.{text_of}

abbrev pub is_by : ℕ → Entry → Bool
is_by who entry = entry.who == who

-- the entries of a client, in order
abbrev pub entries_by : ℕ → List Entry → List Entry
entries_by who entries = filter (is_by who) entries

-- the positions of these entries, from 1
abbrev pub positions_of : ℕ → List Entry → List ℕ
positions_of who entries = map (λ (p : ℕ × Entry). p.0) (filter (λ (p : ℕ × Entry). is_by who p.1) (enumerate_from 1 entries))

-- a run's clients are 1 to 16, and 0 stands for its mounts
abbrev pub clients : List ℕ
clients = range_with_len 0 17

abbrev pub text_by_client : List Entry → List ℕ
text_by_client entries = flat_map (λ who. text_of (entries_by who entries)) clients
