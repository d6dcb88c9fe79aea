use Rattle.kv_model.specs.Given.{done_or}
use Rattle.sealed_pair.proofs.RemovingLemmas.{remove_finished, remove_given_up, remove_half_finished, remove_not_begun, remove_not_finished}
use Rattle.sealed_pair.proofs.removing.remove_from_both.Goals as goal

pub returns-in-Err : goal.returns-in-Err
returns-in-Err g c root number =
    remove_not_begun c.args.key.now c.requires.key c.args.who root number g.U.Kv.rules_by g.R.Kv.rules_by (g.U.Kv.state c.args.primary.now) (g.R.Kv.state c.args.rollback.now) c.requires.primary c.requires.rollback
    (g.U.Kv.state c.remove_start.new.self) (g.met.U.Kv.lawful c.remove_start.new.self) (g.met.R.Kv.lawful c.args.rollback.now) c.in-Err.refusal c.in-Err.ensures

pub returns-in-Err-remove_start : goal.returns-in-Err-remove_start
returns-in-Err-remove_start g c root number =
    remove_given_up c.args.key.now c.requires.key c.args.who root number g.U.Kv.rules_by g.R.Kv.rules_by (g.U.Kv.state c.args.primary.now) (g.R.Kv.state c.args.rollback.now) c.requires.primary c.requires.rollback
    (g.U.Kv.state c.remove_start.new.self) (g.U.Kv.state c.set_abort.new.self) (g.R.Kv.state c.remove_start-2.new.self) c.in-Ok.ensures (done_or c.set_abort.result) c.set_abort.ensures
    (g.met.U.Kv.lawful c.set_abort.new.self) (g.met.R.Kv.lawful c.remove_start-2.new.self) c.in-Err-remove_start.refusal c.in-Err-remove_start.ensures

pub returns-in-Err-set_finish : goal.returns-in-Err-set_finish
returns-in-Err-set_finish g c root number =
    remove_not_finished c.args.key.now c.requires.key c.args.who root number g.U.Kv.rules_by g.R.Kv.rules_by (g.U.Kv.state c.args.primary.now) (g.R.Kv.state c.args.rollback.now) c.requires.primary c.requires.rollback
    (g.U.Kv.state c.remove_start.new.self) (g.R.Kv.state c.remove_start-2.new.self) c.in-Ok.ensures c.in-Ok-remove_start.ensures (g.U.Kv.state c.set_finish.new.self) (g.R.Kv.state c.set_abort-in-Err-set_finish.new.self)
    (done_or c.set_abort-in-Err-set_finish.result) c.set_abort-in-Err-set_finish.ensures (g.met.U.Kv.lawful c.set_finish.new.self) (g.met.R.Kv.lawful c.set_abort-in-Err-set_finish.new.self)
    c.in-Err-set_finish.refusal c.in-Err-set_finish.ensures

pub returns-in-Ok-set_finish-2 : goal.returns-in-Ok-set_finish-2
returns-in-Ok-set_finish-2 g c root number =
    remove_finished c.args.key.now c.requires.key c.args.who root number g.U.Kv.rules_by g.R.Kv.rules_by (g.U.Kv.state c.args.primary.now) (g.R.Kv.state c.args.rollback.now) c.requires.primary c.requires.rollback
    (g.U.Kv.state c.remove_start.new.self) (g.R.Kv.state c.remove_start-2.new.self) c.in-Ok.ensures c.in-Ok-remove_start.ensures (g.U.Kv.state c.set_finish.new.self) c.in-Ok-set_finish.ensures
    (g.R.Kv.state c.set_finish-2.new.self) c.in-Ok-set_finish-2.ensures

pub returns-in-Err-set_finish-2 : goal.returns-in-Err-set_finish-2
returns-in-Err-set_finish-2 g c root number =
    remove_half_finished c.args.key.now c.requires.key c.args.who root number g.U.Kv.rules_by g.R.Kv.rules_by (g.U.Kv.state c.args.primary.now) (g.R.Kv.state c.args.rollback.now) c.requires.primary c.requires.rollback
    (g.U.Kv.state c.remove_start.new.self) (g.R.Kv.state c.remove_start-2.new.self) c.in-Ok.ensures c.in-Ok-remove_start.ensures (g.U.Kv.state c.set_finish.new.self) c.in-Ok-set_finish.ensures
    (g.R.Kv.state c.set_finish-2.new.self) (g.met.U.Kv.lawful c.set_finish.new.self) (g.met.R.Kv.lawful c.set_finish-2.new.self) c.in-Err-set_finish-2.refusal c.in-Err-set_finish-2.ensures
