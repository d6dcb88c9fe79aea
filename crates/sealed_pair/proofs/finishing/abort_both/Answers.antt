use Rattle.kv_model.specs.Given.{done_or}
use Rattle.sealed_pair.proofs.EndingLemmas.{aborted_any}
use Rattle.sealed_pair.proofs.finishing.abort_both.Goals as goal

pub returns : goal.returns
returns g c root number active own =
    aborted_any root number g.U.Kv.rules_by g.R.Kv.rules_by (g.U.Kv.state c.args.primary.now) (g.U.Kv.state c.set_abort.new.self) (g.R.Kv.state c.args.rollback.now)
    (g.R.Kv.state c.set_abort-2.new.self) c.args.who active own (done_or c.set_abort.result) (done_or c.set_abort-2.result) c.set_abort.ensures c.set_abort-2.ensures
