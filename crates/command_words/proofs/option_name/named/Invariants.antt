use Rattle.std.proofs.Common.{◌≡◌, drop}
use Rattle.command_words.specs.Items as items
use Rattle.command_words.proofs.option_name.named.Given as goal

-- none of those so far has the name
abbrev pub invariant-loop-option : goal.invariant-loop-option
invariant-loop-option l = items.named l.options l.word ≡ items.named (drop l.option-index l.options) l.word
