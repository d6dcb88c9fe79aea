-- What a walk over parts has still to give.
use Rattle.std.specs.Prelude.{ℕ, List}
use Rattle.script_core.specs.declared.parts.Parts.{Parts}
use Rattle.script_core.specs.SplitRest.{split_rest}

abbrev pub parts_left : Parts → List (List ℕ)
parts_left p = split_rest p.separator p.rest
