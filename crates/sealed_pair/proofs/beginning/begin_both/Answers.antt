use Rattle.std.proofs.Common.{rules, ◌≡◌}
use Rattle.std.specs.Prelude.{is_some}
use Rattle.kv_model.specs.declared.call.Reply.TheVariants.{Done, Refused}
use Rattle.kv_model.specs.Kv.{answered}
use Rattle.kv_model.specs.Operations.{RemoveStart}
use Rattle.sealed_pair.specs.Begun.{active_remove, parts_in}
use Rattle.sealed_pair.specs.Removing.{Begins}
use Rattle.sealed_pair.specs.Running.{parts}
use Rattle.sealed_pair.proofs.BeginningLemmas.{begun_as, refused_as}
use Rattle.sealed_pair.proofs.BehindLemmas.{run_since}
use Rattle.sealed_pair.proofs.beginning.begin_both.Goals as goal

pub returns-in-Err-clause-run : goal.returns-in-Err-clause-run
returns-in-Err-clause-run g c root number =
    refused_as (parts root number g.U.Kv.rules_by (g.U.Kv.state c.args.primary.now) g.R.Kv.rules_by (g.R.Kv.state c.args.rollback.now))
    (parts root number g.U.Kv.rules_by (g.U.Kv.state c.find_held.new.primary) g.R.Kv.rules_by (g.R.Kv.state c.find_held.new.rollback))
    c.args.who c.as_slice.result.now c.args.key c.in-Err.refusal c.as_slice.ensures.bytes (c.in-Err.ensures.refusal Begins c.args.who root number)

pub returns-in-Ok-begin_held-clause-run : goal.returns-in-Ok-begin_held-clause-run
returns-in-Ok-begin_held-clause-run g c root number =
    let above : is_some c.in-Ok.held.above ≡ c.is_some.result = search rules in
    let below : is_some c.in-Ok.held.below ≡ c.is_some-in-Ok-begin_held.result = search rules in
    begun_as (parts root number g.U.Kv.rules_by (g.U.Kv.state c.args.primary.now) g.R.Kv.rules_by (g.R.Kv.state c.args.rollback.now)) root number g.U.Kv.rules_by g.R.Kv.rules_by (g.U.Kv.state c.begin_held.new.primary) (g.R.Kv.state c.begin_held.new.rollback) c.args.who c.as_slice-2.result.now c.args.key
    (is_some c.in-Ok.held.above) c.is_some.result (is_some c.in-Ok.held.below) c.is_some-in-Ok-begin_held.result c.as_slice-2.ensures.bytes above below
    (run_since root number g.U.Kv.rules_by g.R.Kv.rules_by (g.U.Kv.state c.args.primary.now) (g.U.Kv.state c.find_held.new.primary)
    (g.R.Kv.state c.args.rollback.now) (g.R.Kv.state c.find_held.new.rollback) c.in-Ok.ensures.held.primary_read c.in-Ok.ensures.held.rollback_read
    (parts_in root number (active_remove c.args.who c.as_slice-2.result.now (is_some c.in-Ok.held.above) (is_some c.in-Ok.held.below)) g.U.Kv.rules_by (g.U.Kv.state c.begin_held.new.primary) g.R.Kv.rules_by (g.R.Kv.state c.begin_held.new.rollback))
    (answered c.args.who (RemoveStart c.as_slice-2.result.now) Done) (c.in-Ok-begin_held.ensures root number))

pub returns-in-Err-begin_held-clause-run : goal.returns-in-Err-begin_held-clause-run
returns-in-Err-begin_held-clause-run g c root number =
    refused_as (parts root number g.U.Kv.rules_by (g.U.Kv.state c.args.primary.now) g.R.Kv.rules_by (g.R.Kv.state c.args.rollback.now))
    (parts root number g.U.Kv.rules_by (g.U.Kv.state c.begin_held.new.primary) g.R.Kv.rules_by (g.R.Kv.state c.begin_held.new.rollback)) c.args.who c.as_slice-2.result.now c.args.key c.in-Err-begin_held.refusal c.as_slice-2.ensures.bytes
    (run_since root number g.U.Kv.rules_by g.R.Kv.rules_by (g.U.Kv.state c.args.primary.now) (g.U.Kv.state c.find_held.new.primary)
    (g.R.Kv.state c.args.rollback.now) (g.R.Kv.state c.find_held.new.rollback) c.in-Ok.ensures.held.primary_read c.in-Ok.ensures.held.rollback_read
    (parts root number g.U.Kv.rules_by (g.U.Kv.state c.begin_held.new.primary) g.R.Kv.rules_by (g.R.Kv.state c.begin_held.new.rollback))
    (answered c.args.who (RemoveStart c.as_slice-2.result.now) (Refused c.in-Err-begin_held.refusal)) (c.in-Err-begin_held.ensures root number))
