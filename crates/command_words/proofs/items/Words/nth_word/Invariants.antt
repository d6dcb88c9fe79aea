use Rattle.std.proofs.Common.{◌≡◌}
use Rattle.std.specs.Prelude.{slice_get}
use Rattle.command_words.specs.Items.{words_of}
use Rattle.command_words.specs.Shown.{items_in, items_left}
use Rattle.command_words.proofs.items.Words.nth_word.Given as goal

abbrev pub invariant-loop-item : goal.invariant-loop-item
invariant-loop-item l = slice_get (words_of (items_in l.fn.self)) l.n ≡ slice_get (words_of (items_left l.item-iterator)) l.left
