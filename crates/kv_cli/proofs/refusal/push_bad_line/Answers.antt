use Rattle.std.proofs.Common.{◌++◌}
use Rattle.std.specs.Prelude.{codes}
use Rattle.std.specs.Fmt.{decimal}
use Rattle.kv_cli.proofs.RefusalLines.{joined, behind}
use Rattle.kv_cli.specs.Refusals.{bad_line}
use Rattle.kv_cli.proofs.refusal.push_bad_line.Goals as goal

pub returns-clause-line : goal.returns-clause-line
unfolding bad_line
returns-clause-line c =
    behind c.push-2.result c.args.line.now.items (codes "refused: line " ++ decimal c.args.number) c.push_number.new.line.items (codes "\n") c.push-2.new.line.items
    (joined c.args.line.now.items (codes "refused: line ") c.push.new.line.items (decimal c.args.number) c.push_number.new.line.items c.in_ok-push.ensures
    c.in_ok-push_number.ensures.number)
    c.push-2.ensures
