use Rattle.command_words.proofs.ItemLemmas.{once, no_dashes}
use Rattle.command_words.proofs.laws.wrong_words_mean_nothing.Goals as goal

pub returns : goal.returns
returns c = record { twice = once; dashes = no_dashes }
