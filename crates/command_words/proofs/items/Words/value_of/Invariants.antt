use Rattle.std.proofs.Common.{◌≡◌, ◌++◌}
use Rattle.command_words.specs.Items.{values_of}
use Rattle.command_words.specs.Shown.{items_in, items_left, listed}
use Rattle.command_words.proofs.items.Words.value_of.Given as goal

abbrev pub invariant-loop-item : goal.invariant-loop-item
invariant-loop-item l = values_of l.wanted (items_in l.fn.self) ≡ listed l.found ++ values_of l.wanted (items_left l.item-iterator)
