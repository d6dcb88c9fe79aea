use Rattle.std.proofs.Common.{rules, ℕ, List}
use Rattle.command_words.specs.Items.{values_of}
use Rattle.command_words.specs.Shown.{items_in}
use Rattle.command_words.specs.Values.{SpellsNumber, Says}
use Rattle.command_words.proofs.ValueLemmas.{twice_says_nothing}
use Rattle.command_words.proofs.values.vector_of.Goals as goal

pub returns-in_err-word : goal.returns-in_err-word
returns-in_err-word c =
    let values : List (List ℕ) = values_of c.args.option (items_in c.args.words) in
    let refused : (y : ℕ) → Says SpellsNumber 1 values y → ⊥ = twice_says_nothing SpellsNumber 1 values c.in_err-word.ensures in
    search rules
