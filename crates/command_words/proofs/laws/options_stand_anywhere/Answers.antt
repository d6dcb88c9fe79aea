use Rattle.command_words.proofs.ItemLemmas.{moved_behind, moved_before}
use Rattle.command_words.proofs.laws.options_stand_anywhere.Goals as goal

pub returns : goal.returns
returns c = record {
  on = λ name other front given back option value command whole is plain h. moved_behind command other front given back option value whole is plain name h;
  back = λ name other front given back option value command whole is plain h. moved_before command other front given back option value whole is plain name h;
}
