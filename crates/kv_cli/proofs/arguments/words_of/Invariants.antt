use Rattle.std.proofs.Common.{◌≡◌, ◌++◌, map}
use Rattle.std.specs.Rc.{rc_str_bytes}
use Rattle.std.specs.String.{string_bytes}
use Rattle.std.specs.Vec.Iter.{into_iter_items}
use Rattle.kv_cli.proofs.arguments.words_of.Given as goal

-- the words so far and the arguments left are all
abbrev pub invariant-loop-argument : goal.invariant-loop-argument
invariant-loop-argument l =
    map rc_str_bytes l.words.items ++ map string_bytes (into_iter_items l.argument-iterator) ≡ map string_bytes (into_iter_items l.fn.arguments)
