use Rattle.record_core.proofs.ChanceLemmas.{chance_excludes_break, chance_or_break, no_chance_after, no_chance_before, one_first_break}
use Rattle.record_core.proofs.cuts.chance_or_first_break.Goals as goal

pub returns : goal.returns
returns c = record {
  either = λ g before after torn valid. chance_or_break g valid before after torn;
  never_both = λ g before after torn place valid. chance_excludes_break g valid before after torn place;
  one_place = λ g before after torn p q valid. one_first_break g valid before after torn p q;
  whole = λ g before after valid. (no_chance_before g valid before after, no_chance_after g valid before after);
}
