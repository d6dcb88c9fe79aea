use Rattle.std.proofs.Common.{rules, ◌≡◌, false}
use Rattle.sealed_pair.specs.Recovering.{is_full}
use Rattle.sealed_pair.proofs.RecoveringLemmas.{not_replaced, replaced}
use Rattle.sealed_pair.proofs.recovering.replace.Goals as goal

pub returns-in-Ok-clause-rewrites : goal.returns-in-Ok-clause-rewrites
returns-in-Ok-clause-rewrites g c =
    replaced c.args.key.now c.requires.key c.args.who c.args.successor.now.flags.bits c.args.successor.now.tag c.requires.plain (search rules)
    g.R.Kv.rules_by (g.R.Kv.state c.args.rollback.now) (g.R.Kv.state c.set.new.self) c.requires.held c.in-Ok.ensures

pub returns-else-is_full-clause-rewrites : goal.returns-else-is_full-clause-rewrites
returns-else-is_full-clause-rewrites g c =
    let not_full : is_full c.in-Err.refusal ≡ false = search rules in
    not_replaced c.args.key.now c.requires.key c.args.who c.args.successor.now.flags.bits c.args.successor.now.tag c.requires.plain (search rules)
    g.R.Kv.rules_by (g.R.Kv.state c.args.rollback.now) (g.R.Kv.state c.set.new.self) c.requires.held (g.met.R.Kv.lawful c.set.new.self) c.in-Err.refusal not_full c.in-Err.ensures
