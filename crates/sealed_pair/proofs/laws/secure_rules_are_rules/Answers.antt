use Rattle.sealed_pair.proofs.RulesLemmas.{secure_are_rules, secure_shares}
use Rattle.sealed_pair.proofs.laws.secure_rules_are_rules.Goals as goal

pub returns : goal.returns
returns c = record { rules = secure_are_rules; iterators = secure_shares }
