use Rattle.std.proofs.Common.{◌++◌}
use Rattle.std.specs.Prelude.{codes}
use Rattle.std.specs.Fmt.{decimal}
use Rattle.kv_cli.proofs.RefusalLines.{joined, behind}
use Rattle.kv_cli.specs.Replays.{chance_line}
use Rattle.kv_cli.proofs.refusal.push_chance.Goals as goal

pub returns-clause-line : goal.returns-clause-line
unfolding chance_line
returns-clause-line c =
    behind c.push-2.result c.args.text.now.items (codes "refused: chance at p " ++ decimal c.args.place) c.push_number.new.line.items (codes "\n") c.push-2.new.line.items
    (joined c.args.text.now.items (codes "refused: chance at p ") c.push.new.line.items (decimal c.args.place) c.push_number.new.line.items c.in_ok-push.ensures
    c.in_ok-push_number.ensures.number)
    c.push-2.ensures
