use Rattle.std.proofs.Common.{◌++◌}
use Rattle.std.specs.Prelude.{codes}
use Rattle.kv_cli.proofs.RefusalLines.{joined, behind}
use Rattle.kv_cli.specs.Refusals.{absent_line}
use Rattle.kv_cli.proofs.refusal.push_absent.Goals as goal

pub returns-clause-line : goal.returns-clause-line
unfolding absent_line
returns-clause-line c =
    behind c.push-3.result c.args.line.now.items (codes "refused: file " ++ c.args.name.now) c.push-2.new.line.items (codes " absent\n") c.push-3.new.line.items
    (joined c.args.line.now.items (codes "refused: file ") c.push.new.line.items (c.args.name.now) c.push-2.new.line.items c.in_ok-push.ensures
    c.in_ok-push-2.ensures)
    c.push-3.ensures
