use Rattle.command_words.proofs.MeaningLemmas.{one_meaning}
use Rattle.command_words.proofs.laws.words_have_one_meaning.Goals as goal

pub returns : goal.returns
returns c = one_meaning
