use Rattle.command_words.proofs.ItemLemmas.{plain_replay}
use Rattle.command_words.proofs.laws.options_have_defaults.Goals as goal

pub returns : goal.returns
returns c = plain_replay
