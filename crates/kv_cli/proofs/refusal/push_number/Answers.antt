use Rattle.std.proofs.Common.{ap, ◌∙◌, arith, length}
use Rattle.std.proofs.lemmas.Fmt.{length-decimal-le}
use Rattle.kv_cli.proofs.RefusalLines.{longer}
use Rattle.kv_cli.proofs.refusal.push_number.Goals as goal

pub returns-clause-short : goal.returns-clause-short
returns-clause-short c =
    let digits = c.as_str.ensures.value ∙ c.in_ok-digits.ensures.ok in
    let most = length-decimal-le 20 c.args.number (omega arith) (omega (arith, c.ranges.number)) (omega (arith, c.ranges.number)) in
    longer c.push.result c.args.line.now.items c.as_str.result.now c.push.new.line.items 20 (omega (arith, ap length digits, most)) c.push.ensures
