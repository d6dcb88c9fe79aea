use Rattle.kv_model.specs.Given.{done_or}
use Rattle.kv_model.specs.declared.call.Reply.TheVariants.{Refused}
use Rattle.std.proofs.Common.{refl}
use Rattle.kv_model.specs.Kv.{kind_of}
use Rattle.sealed_pair.specs.Recovering.{secure_by}
use Rattle.sealed_pair.specs.Running.{StaysIdle}
use Rattle.sealed_pair.proofs.IdleLemmas.{idle_same, unless_kind}
use Rattle.sealed_pair.proofs.PairLemmas.{read_none}
use Rattle.sealed_pair.proofs.TurnEndLemmas.{begun, not_begun, not_healed, walked_cause, walked_read}
use Rattle.sealed_pair.proofs.walking.heal_all.Goals as goal

pub returns-in-Err-clause-primary : goal.returns-in-Err-clause-primary
returns-in-Err-clause-primary g c =
    not_begun g.U.Kv.rules_by (g.U.Kv.state c.args.primary.now) c.requires c.args.who (g.U.Kv.state c.iter_open.new.self) c.in-Err.refusal c.in-Err.ensures

pub returns-in-Err-clause-stays : goal.returns-in-Err-clause-stays
returns-in-Err-clause-stays g c =
    let old = g.R.Kv.state c.args.rollback.now in
    unless_kind (StaysIdle g.R.Kv.rules_by old old) (kind_of (Refused c.in-Err.refusal)) (idle_same g.R.Kv.rules_by old)

pub returns-in-Err-clause-heals : goal.returns-in-Err-clause-heals
returns-in-Err-clause-heals g c above tells =
    let old = g.R.Kv.state c.args.rollback.now in
    not_healed g.U.Kv.rules_by (g.U.Kv.state c.args.primary.now) c.requires c.args.who g.R.Kv.rules_by (secure_by c.args.root.now old.known.constants) old (g.U.Kv.state c.iter_open.new.self)
    above tells c.in-Err.refusal c.in-Err.ensures

pub returns-clause-primary : goal.returns-clause-primary
returns-clause-primary g c =
    walked_read g.U.Kv.rules_by (g.U.Kv.state c.args.primary.now) c.requires c.args.who (g.U.Kv.state c.iter_open.new.self) (g.U.Kv.state c.heal_each-healed.new.primary)
    (g.U.Kv.state c.iter_close.new.self) c.in-Ok.ensures c.heal_each-healed.ensures.primary c.heal_each-healed.ensures.walks (done_or c.iter_close.result) c.iter_close.ensures

pub returns-clause-cause : goal.returns-clause-cause
returns-clause-cause g c joining =
    let old = g.R.Kv.state c.args.rollback.now in
    let new = g.R.Kv.state c.heal_each-healed.new.rollback in
    walked_cause g.U.Kv.rules_by (g.U.Kv.state c.args.primary.now) c.requires c.args.who (g.U.Kv.state c.iter_open.new.self) (g.U.Kv.state c.heal_each-healed.new.primary)
    (g.U.Kv.state c.iter_close.new.self) c.in-Ok.ensures c.heal_each-healed.ensures.primary c.heal_each-healed.ensures.walks (done_or c.iter_close.result) c.iter_close.ensures
    c.args.root.now joining old new (done_or c.heal_each-healed.result) (read_none old).keeps c.heal_each-healed.ensures.rollback.keeps (read_none new).keeps (c.heal_each-healed.ensures.cause joining)

pub returns-clause-heals : goal.returns-clause-heals
returns-clause-heals g c above tells =
    c.heal_each-healed.ensures.heals (record { who = c.args.who; before = above }) refl
    (begun g.U.Kv.rules_by (g.U.Kv.state c.args.primary.now) c.requires c.args.who (g.U.Kv.state c.iter_open.new.self) (g.U.Kv.state c.heal_each-healed.new.primary)
    (g.U.Kv.state c.iter_close.new.self) c.in-Ok.ensures c.heal_each-healed.ensures.primary c.heal_each-healed.ensures.walks (done_or c.iter_close.result) c.iter_close.ensures above tells)
