use Rattle.std.proofs.Common.{◌++◌}
use Rattle.std.specs.Prelude.{codes}
use Rattle.std.specs.Fmt.{decimal}
use Rattle.kv_cli.proofs.RefusalLines.{joined, behind}
use Rattle.kv_cli.specs.Refusals.{over_line}
use Rattle.kv_cli.proofs.refusal.push_over.Goals as goal

pub returns-clause-line : goal.returns-clause-line
unfolding over_line
returns-clause-line c =
    behind c.push-4.result c.args.line.now.items (codes "refused: file " ++ c.args.name.now ++ codes " over " ++ decimal c.args.limit) c.push_number.new.line.items (codes " bytes\n") c.push-4.new.line.items
    (joined c.args.line.now.items (codes "refused: file " ++ c.args.name.now ++ codes " over ") c.push-3.new.line.items (decimal c.args.limit) c.push_number.new.line.items (joined c.args.line.now.items (codes "refused: file " ++ c.args.name.now) c.push-2.new.line.items (codes " over ") c.push-3.new.line.items (joined c.args.line.now.items (codes "refused: file ") c.push.new.line.items (c.args.name.now) c.push-2.new.line.items c.in_ok-push.ensures
    c.in_ok-push-2.ensures)
    c.in_ok-push-3.ensures)
    c.in_ok-push_number.ensures.number)
    c.push-4.ensures
