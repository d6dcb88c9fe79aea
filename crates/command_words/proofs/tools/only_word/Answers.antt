use Rattle.std.proofs.Common.{◌≡◌, ℕ, List, Some, None, rules}
use Rattle.std.specs.Prelude.{slice_get}
use Rattle.command_words.specs.Items.{words_of}
use Rattle.command_words.specs.Shown.{items_in}
use Rattle.command_words.proofs.ValueLemmas.{none_at, one}
use Rattle.command_words.proofs.tools.only_word.Goals as goal

pub returns : goal.returns
returns c =
    let words : List (List ℕ) = words_of (items_in c.args.words) in
    let last : slice_get words 1 ≡ None = none_at c.nth_word.result words 1 c.nth_word.ensures (search rules) in
    let first : slice_get words 0 ≡ Some c.in_ok-ok_or.field-0.now = search rules in
    one words c.in_ok-ok_or.field-0.now first last
