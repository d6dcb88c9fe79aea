use Rattle.std.proofs.Common.{◌∙◌}
use Rattle.script_core.specs.Grammar.{canonical_words}
use Rattle.script_core.proofs.Printing.{printed, IsScript-alone}
use Rattle.script_core.proofs.print.print_line.Goals as goal

pub returns-clause-spells : goal.returns-clause-spells
returns-clause-spells c = (
  c.requires,
  (
    canonical_words c.args.line.now.act,
    c.in_ok-print_act.ensures.again,
    printed c.args.line.now.who (canonical_words c.args.line.now.act) c.new-text.result.items c.as_bytes.result.now c.extend_from_slice.new.self.items c.print_act.new.text.items c.from_vec.result
        c.new-text.ensures.items (c.as_bytes.ensures.value ∙ c.in_ok-who.ensures.ok) c.in_ok-extend_from_slice.ensures.items c.in_ok-print_act.ensures.text c.from_vec.ensures,
  ),
)

pub returns-clause-again : goal.returns-clause-again
returns-clause-again c =
    IsScript-alone c.from_vec.result c.args.line.now (
      c.requires,
      (
        canonical_words c.args.line.now.act,
        c.in_ok-print_act.ensures.again,
        printed c.args.line.now.who (canonical_words c.args.line.now.act) c.new-text.result.items c.as_bytes.result.now c.extend_from_slice.new.self.items c.print_act.new.text.items c.from_vec.result
            c.new-text.ensures.items (c.as_bytes.ensures.value ∙ c.in_ok-who.ensures.ok) c.in_ok-extend_from_slice.ensures.items c.in_ok-print_act.ensures.text c.from_vec.ensures,
      ),
    )
