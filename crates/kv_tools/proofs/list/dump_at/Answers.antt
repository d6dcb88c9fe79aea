use Rattle.std.proofs.Common.{List, ℕ, subst}
use Rattle.script_core.specs.declared.line.Line.{Line}
use Rattle.script_core.specs.Grammar.{Spells, canonical}
use Rattle.kv_tools.specs.Listing.{IsSpelled}
use Rattle.kv_tools.proofs.ListLemmas.{when_ok}
use Rattle.kv_tools.proofs.list.dump_at.Goals as goal

pub returns-clause-spells : goal.returns-clause-spells
unfolding IsSpelled
returns-clause-spells g c image told =
    let line = c.in_ok-line.line in
    let spelled = subst (λ (t : List ℕ). Spells t line) c.in_ok-spelled.ensures.canonical c.in_ok-spelled.ensures.spells in
    when_ok c.push_bytes-2.result (subst (λ (l : Line). Spells (canonical l) l) (c.in_ok-line.ensures.line image told) spelled)
