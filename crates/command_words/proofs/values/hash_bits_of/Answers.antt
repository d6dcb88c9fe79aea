use Rattle.std.proofs.Common.{rules, ℕ, List}
use Rattle.command_words.specs.Items.{values_of}
use Rattle.command_words.specs.Shown.{items_in}
use Rattle.command_words.specs.Values.{SpellsHashBits, Says}
use Rattle.command_words.proofs.ValueLemmas.{twice_says_nothing}
use Rattle.command_words.proofs.values.hash_bits_of.Goals as goal

pub returns-in_err-word : goal.returns-in_err-word
returns-in_err-word c =
    let values : List (List ℕ) = values_of c.args.option (items_in c.args.words) in
    let refused : (y : ℕ) → Says SpellsHashBits 32 values y → ⊥ = twice_says_nothing SpellsHashBits 32 values c.in_err-word.ensures in
    search rules
