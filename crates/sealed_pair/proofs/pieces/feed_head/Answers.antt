use Rattle.std.proofs.Common.{rules, ◌≡◌, true, false}
use Rattle.sealed_pair.proofs.PieceLemmas.{head_fails, head_fed, head_there}
use Rattle.sealed_pair.proofs.pieces.feed_head.Goals as goal

pub returns-then-set-clause-fed : goal.returns-then-set-clause-fed
returns-then-set-clause-fed g c =
    let is : c.args.set.now.is_headed ≡ true = search rules in
    head_there g.K.Kv.rules_by (g.K.Kv.state c.args.store.now) c.args.who c.args.set.now is

pub returns-in-Ok-clause-fed : goal.returns-in-Ok-clause-fed
returns-in-Ok-clause-fed g c =
    let is : c.args.set.now.is_headed ≡ false = search rules in
    head_fed g.K.Kv.rules_by (g.K.Kv.state c.args.store.now) (g.K.Kv.state c.set_add.new.self) c.args.who c.args.set.now is c.in-Ok.ensures

pub returns-in-Err-clause-fails : goal.returns-in-Err-clause-fails
returns-in-Err-clause-fails g c =
    let is : c.args.set.now.is_headed ≡ false = search rules in
    head_fails g.K.Kv.rules_by (g.K.Kv.state c.args.store.now) (g.K.Kv.state c.set_add.new.self) c.args.who c.args.set.now is c.in-Err.refusal c.in-Err.ensures (g.met.K.Kv.lawful c.set_add.new.self)
