use Rattle.std.proofs.Common.{rules, ℕ, List, Option, None}
use Rattle.script_core.specs.declared.line.PowerCut.{PowerCut}
use Rattle.command_words.specs.Items.{values_of}
use Rattle.command_words.specs.Shown.{items_in}
use Rattle.command_words.specs.Values.{SpellsSomeCut, Says}
use Rattle.command_words.proofs.ValueLemmas.{twice_says_nothing}
use Rattle.command_words.proofs.values.cut_of.Goals as goal

pub returns-in_err-word : goal.returns-in_err-word
returns-in_err-word c =
    let values : List (List ℕ) = values_of c.args.option (items_in c.args.words) in
    let refused : (y : Option PowerCut) → Says SpellsSomeCut None values y → ⊥ = twice_says_nothing SpellsSomeCut None values c.in_err-word.ensures in
    search rules
