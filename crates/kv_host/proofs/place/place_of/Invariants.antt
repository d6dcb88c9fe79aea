use Rattle.std.proofs.Common.{◌≢◌, take}
use Rattle.std.specs.List.{All}
use Rattle.kv_host.specs.Table.{name_in}
use Rattle.kv_host.proofs.place.place_of.Given as goal

-- no entry so far has the name
abbrev pub invariant-loop-i : goal.invariant-loop-i
invariant-loop-i l = All (λ e. name_in l.arena e ≢ l.name) (take l.i l.entries)
