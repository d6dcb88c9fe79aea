use Rattle.std.proofs.Common.{◌≡◌, ℕ, Some, sym, subst}
use Rattle.kv_model.specs.Given.{done_or}
use Rattle.kv_model.specs.Kv.{answered}
use Rattle.kv_model.specs.Operations.{Finish}
use Rattle.sealed_pair.specs.declared.active.Begun.{Begun}
use Rattle.sealed_pair.specs.Active.{IsBegun}
use Rattle.sealed_pair.specs.Begun.{parts_in}
use Rattle.sealed_pair.specs.Running.{HasRun, parts}
use Rattle.sealed_pair.proofs.pieces.finish_both.Goals as goal

pub returns-in-Remove : goal.returns-in-Remove
returns-in-Remove g c root next sealing =
    subst (λ (b : Begun). HasRun (parts_in root next (Some (record { owner = c.args.active.owner; begun = b; above = c.args.active.above; below = c.args.active.below })) g.U.Kv.rules_by (g.U.Kv.state c.args.primary.now) g.R.Kv.rules_by (g.R.Kv.state c.args.rollback.now)) (parts root next g.U.Kv.rules_by (g.U.Kv.state c.finish_remove.new.primary) g.R.Kv.rules_by (g.R.Kv.state c.finish_remove.new.rollback)) (answered c.args.active.owner Finish (done_or c.finish_remove.result))) (sym c.in-Remove.is)
    (c.finish_remove.ensures c.in-Remove.key root next)

pub returns-in-Set : goal.returns-in-Set
returns-in-Set g c root next sealing =
    subst (λ (b : Begun). HasRun (parts_in root next (Some (record { owner = c.args.active.owner; begun = b; above = c.args.active.above; below = c.args.active.below })) g.U.Kv.rules_by (g.U.Kv.state c.args.primary.now) g.R.Kv.rules_by (g.R.Kv.state c.args.rollback.now)) (parts root next g.U.Kv.rules_by (g.U.Kv.state c.finish_set.new.primary) g.R.Kv.rules_by (g.R.Kv.state c.finish_set.new.rollback)) (answered c.args.active.owner Finish (done_or c.finish_set.result))) (sym c.in-Set.is)
    (c.finish_set.ensures root next c.args.active.above c.args.active.below (subst (IsBegun root next) c.in-Set.is sealing))
