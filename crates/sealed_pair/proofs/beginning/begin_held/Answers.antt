use Rattle.kv_model.specs.Given.{done_or}
use Rattle.sealed_pair.proofs.BeginningLemmas.{begin_above_fails, begin_below_fails, begin_done}
use Rattle.sealed_pair.proofs.beginning.begin_held.Goals as goal

pub returns-in-Err : goal.returns-in-Err
returns-in-Err g c root number =
    begin_above_fails c.args.key.now c.requires.key c.args.who root number g.U.Kv.rules_by g.R.Kv.rules_by (g.U.Kv.state c.args.primary.now) (g.R.Kv.state c.args.rollback.now) c.args.above c.args.below
    c.requires.primary c.requires.rollback c.requires.held (g.U.Kv.state c.begin_in.new.store) (g.met.U.Kv.lawful c.begin_in.new.store) (g.met.R.Kv.lawful c.args.rollback.now)
    c.in-Err.refusal c.in-Err.ensures

pub returns-in-Ok-begin_in : goal.returns-in-Ok-begin_in
returns-in-Ok-begin_in g c root number =
    begin_done c.args.key.now c.requires.key c.args.who root number g.U.Kv.rules_by g.R.Kv.rules_by (g.U.Kv.state c.args.primary.now) (g.R.Kv.state c.args.rollback.now) c.args.above c.args.below
    c.requires.primary c.requires.rollback c.requires.held (g.U.Kv.state c.begin_in.new.store) (g.R.Kv.state c.begin_in-2.new.store) c.in-Ok.ensures c.in-Ok-begin_in.ensures

pub returns-in-Err-begin_in : goal.returns-in-Err-begin_in
returns-in-Err-begin_in g c root number =
    begin_below_fails c.args.key.now c.requires.key c.args.who root number g.U.Kv.rules_by g.R.Kv.rules_by (g.U.Kv.state c.args.primary.now) (g.R.Kv.state c.args.rollback.now) c.args.above c.args.below
    c.requires.primary c.requires.rollback c.requires.held (g.U.Kv.state c.begin_in.new.store) (g.U.Kv.state c.set_abort.new.self) (g.R.Kv.state c.begin_in-2.new.store) c.in-Ok.ensures
    (done_or c.set_abort.result) c.set_abort.ensures (g.met.U.Kv.lawful c.set_abort.new.self) (g.met.R.Kv.lawful c.begin_in-2.new.store) c.in-Err-begin_in.refusal c.in-Err-begin_in.ensures
