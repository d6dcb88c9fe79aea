use Rattle.std.proofs.Common.{◌≡◌}
use Rattle.command_words.specs.Items as items
use Rattle.command_words.specs.Shown.{items_in, items_left}
use Rattle.command_words.proofs.items.Words.all_known.Given as goal

abbrev pub invariant-loop-item : goal.invariant-loop-item
invariant-loop-item l = items.all_known (items_in l.fn.self) ≡ items.all_known (items_left l.item-iterator)
