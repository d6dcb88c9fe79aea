use Rattle.sealed_pair.specs.Removing.{AtOnce}
use Rattle.sealed_pair.proofs.BehindLemmas.{run_behind}
use Rattle.sealed_pair.proofs.removing.remove_both.Goals as goal

pub returns-in-Err : goal.returns-in-Err
returns-in-Err g c root number = c.in-Err.ensures.refusal AtOnce c.args.who root number

pub returns-in-Ok-remove_held : goal.returns-in-Ok-remove_held
returns-in-Ok-remove_held g c root number =
    run_behind root number g.U.Kv.rules_by g.R.Kv.rules_by (g.U.Kv.state c.args.primary.now) (g.U.Kv.state c.find_held.new.primary)
    (g.R.Kv.state c.args.rollback.now) (g.R.Kv.state c.find_held.new.rollback) c.in-Ok.ensures.held.primary_read c.in-Ok.ensures.held.rollback_read number
    (g.U.Kv.state c.remove_held.new.primary) (g.R.Kv.state c.remove_held.new.rollback) _ (c.in-Ok-remove_held.ensures root number)

pub returns-in-Err-remove_held : goal.returns-in-Err-remove_held
returns-in-Err-remove_held g c root number =
    run_behind root number g.U.Kv.rules_by g.R.Kv.rules_by (g.U.Kv.state c.args.primary.now) (g.U.Kv.state c.find_held.new.primary)
    (g.R.Kv.state c.args.rollback.now) (g.R.Kv.state c.find_held.new.rollback) c.in-Ok.ensures.held.primary_read c.in-Ok.ensures.held.rollback_read number
    (g.U.Kv.state c.remove_held.new.primary) (g.R.Kv.state c.remove_held.new.rollback) _ (c.in-Err-remove_held.ensures root number)
