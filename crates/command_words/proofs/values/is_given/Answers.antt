use Rattle.std.proofs.Common.{rules, ◌≡◌, ℕ, List, Bool, true, false}
use Rattle.command_words.specs.Items.{values_of}
use Rattle.command_words.specs.Shown.{items_in}
use Rattle.command_words.specs.Values.{IsFlag}
use Rattle.command_words.proofs.ValueLemmas.{twice_says_nothing}
use Rattle.command_words.proofs.values.is_given.Goals as goal

pub returns-in_err-value_of : goal.returns-in_err-value_of
returns-in_err-value_of c =
    let values : List (List ℕ) = values_of c.args.flag (items_in c.args.words) in
    let refused : (y : Bool) → IsFlag values y → ⊥ = twice_says_nothing (λ word given. given ≡ true) false values c.in_err-value_of.ensures in
    search rules
