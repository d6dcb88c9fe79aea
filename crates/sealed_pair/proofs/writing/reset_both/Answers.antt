use Rattle.sealed_pair.proofs.ResetLemmas.{reset_above_fails, reset_below_fails, reset_done}
use Rattle.sealed_pair.proofs.writing.reset_both.Goals as goal

pub returns-in-Err : goal.returns-in-Err
returns-in-Err g c root number =
    reset_above_fails root number g.U.Kv.rules_by g.R.Kv.rules_by _ _ _ c.args.who (g.met.U.Kv.lawful c.reset.new.self) (g.met.R.Kv.lawful c.args.rollback.now) c.in-Err.refusal c.in-Err.ensures

pub returns-in-Ok-reset : goal.returns-in-Ok-reset
returns-in-Ok-reset g c root number =
    reset_done root number g.U.Kv.rules_by g.R.Kv.rules_by _ _ _ _ c.args.who c.in-Ok.ensures c.in-Ok-reset.ensures

pub returns-in-Err-reset : goal.returns-in-Err-reset
returns-in-Err-reset g c root number =
    reset_below_fails root number g.U.Kv.rules_by g.R.Kv.rules_by _ _ _ _ c.args.who c.in-Ok.ensures (g.met.U.Kv.lawful c.reset.new.self) (g.met.R.Kv.lawful c.reset-2.new.self) c.in-Err-reset.refusal c.in-Err-reset.ensures
