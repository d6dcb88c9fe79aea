use Rattle.std.proofs.Common.{ℕ, List, get_or, ap, ◌∙◌}
use Rattle.record_core.proofs.PayloadLemmas.{overlay-inside, overlay-outside}
use Rattle.record_core.proofs.payload.overlay.Goals as goal

pub returns-then-first-last-clause-inside : goal.returns-then-first-last-clause-inside
returns-then-first-last-clause-inside c i in_units from_start before_end =
    ap (λ (l : List ℕ). get_or l i 0) c.copy_at.ensures
    ∙ overlay-inside c.args.units.now c.args.bytes.now c.args.from c.args.start _ _ c.max-first.ensures c.min-last.ensures c.if-first-last.true i in_units from_start before_end

pub returns-then-first-last-clause-outside : goal.returns-then-first-last-clause-outside
returns-then-first-last-clause-outside c i in_units apart =
    ap (λ (l : List ℕ). get_or l i 0) c.copy_at.ensures
    ∙ overlay-outside c.args.units.now c.args.bytes.now c.args.from c.args.start _ _ c.max-first.ensures c.min-last.ensures c.if-first-last.true i in_units apart
