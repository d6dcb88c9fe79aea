use Rattle.command_words.specs.Items.{session_options}
use Rattle.command_words.proofs.ItemLemmas.{option_apart, option_together, flag_alone, plain_first}
use Rattle.command_words.proofs.laws.options_have_these_forms.Goals as goal

pub returns : goal.returns
returns c = record { apart = option_apart; together = option_together; flag = flag_alone; other = plain_first session_options }
