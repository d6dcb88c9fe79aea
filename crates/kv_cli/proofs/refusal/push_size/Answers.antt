use Rattle.std.proofs.Common.{◌++◌}
use Rattle.std.specs.Prelude.{codes}
use Rattle.std.specs.Fmt.{decimal}
use Rattle.kv_cli.proofs.RefusalLines.{joined, behind}
use Rattle.kv_cli.specs.Refusals.{size_line}
use Rattle.kv_cli.proofs.refusal.push_size.Goals as goal

pub returns-clause-line : goal.returns-clause-line
unfolding size_line
returns-clause-line c =
    let old = c.args.line.now.items in
    let name = c.args.name.now in
    let named = joined old (codes "refused: image ") c.push.new.line.items name c.push-2.new.line.items c.in_ok-push.ensures c.in_ok-push-2.ensures in
    let has = joined old (codes "refused: image " ++ name) c.push-2.new.line.items (codes " has ") c.push-3.new.line.items named c.in_ok-push-3.ensures in
    let sized = joined old (codes "refused: image " ++ name ++ codes " has ") c.push-3.new.line.items (decimal c.args.size) c.push_number.new.line.items has
    c.in_ok-push_number.ensures.number in
    let but = joined old (codes "refused: image " ++ name ++ codes " has " ++ decimal c.args.size) c.push_number.new.line.items (codes " bytes, not ") c.push-4.new.line.items sized
    c.in_ok-push-4.ensures in
    let wanted = joined old (codes "refused: image " ++ name ++ codes " has " ++ decimal c.args.size ++ codes " bytes, not ") c.push-4.new.line.items (decimal c.args.wanted)
    c.push_number-2.new.line.items but c.in_ok-push_number-2.ensures.number in
    behind c.push-5.result old (codes "refused: image " ++ name ++ codes " has " ++ decimal c.args.size ++ codes " bytes, not " ++ decimal c.args.wanted)
    c.push_number-2.new.line.items (codes "\n") c.push-5.new.line.items wanted c.push-5.ensures
