use Rattle.kv_model.specs.Given.{done_or}
use Rattle.sealed_pair.proofs.EndingLemmas.{finish_above_fails, finish_below_fails, finish_done}
use Rattle.sealed_pair.proofs.finishing.finish_remove.Goals as goal

pub returns-in-Err : goal.returns-in-Err
returns-in-Err g c key root number =
    finish_above_fails key c.args.who c.args.above c.args.below root number g.U.Kv.rules_by g.R.Kv.rules_by (g.U.Kv.state c.args.primary.now) (g.R.Kv.state c.args.rollback.now)
    (g.U.Kv.state c.finish_in.new.store) (g.R.Kv.state c.set_abort.new.self) (g.met.U.Kv.lawful c.finish_in.new.store) (g.met.R.Kv.lawful c.set_abort.new.self) c.in-Err.refusal (c.in-Err.ensures key)
    (done_or c.set_abort.result) c.set_abort.ensures

pub returns-in-Ok-finish_in : goal.returns-in-Ok-finish_in
returns-in-Ok-finish_in g c key root number =
    finish_done key c.args.who c.args.above c.args.below root number g.U.Kv.rules_by g.R.Kv.rules_by (g.U.Kv.state c.args.primary.now) (g.R.Kv.state c.args.rollback.now)
    (g.U.Kv.state c.finish_in.new.store) (g.R.Kv.state c.finish_in-2.new.store) (c.in-Ok.ensures key) (c.in-Ok-finish_in.ensures key)

pub returns-in-Err-finish_in : goal.returns-in-Err-finish_in
returns-in-Err-finish_in g c key root number =
    finish_below_fails key c.args.who c.args.above c.args.below root number g.U.Kv.rules_by g.R.Kv.rules_by (g.U.Kv.state c.args.primary.now) (g.R.Kv.state c.args.rollback.now)
    (g.U.Kv.state c.finish_in.new.store) (g.R.Kv.state c.finish_in-2.new.store) (c.in-Ok.ensures key) (g.met.U.Kv.lawful c.finish_in.new.store) (g.met.R.Kv.lawful c.finish_in-2.new.store)
    c.in-Err-finish_in.refusal (c.in-Err-finish_in.ensures key)
