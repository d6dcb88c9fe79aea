use Rattle.std.proofs.Common.{◌≡◌, ℕ, subst}
use Rattle.record_core.specs.Endings.{kv_ended}
use Rattle.tdb_read.specs.Views.{view_of}
use Rattle.kv_model.specs.LogStep.{SameButOther}
use Rattle.tdb_write.specs.Changes.{Changes, IsEmptied}
use Rattle.tdb_write.specs.Copying.{IsRenewed, emptied}
use Rattle.tdb_write.proofs.CollectedLemmas.{any_step, emptied_step, renewed_then, stands_then, step_more}
use Rattle.tdb_write.proofs.collect.reset.Goals as goal

pub returns-in_err-end-clause-changes : goal.returns-in_err-end-clause-changes
returns-in_err-end-clause-changes g c =
    any_step (view_of g.F.Flash.state c.args.log.now) (view_of g.F.Flash.state c.clear_other.new.log) SameButOther IsEmptied emptied c.from_residual.result c.in_err-end.field-0.0 c.from_residual.ensures.1 c.in_err-end.ensures.changes

pub returns-clause-changes : goal.returns-clause-changes
returns-clause-changes g c =
    let old = view_of g.F.Flash.state c.args.log.now in
    let mid = view_of g.F.Flash.state c.clear_other.new.log in
    let new = view_of g.F.Flash.state c.complete.new.log in
    let first = c.in_ok-end.ensures in
    step_more old new (IsRenewed mid.log.hash_bits emptied) IsEmptied emptied (kv_ended c.complete.result) (emptied_step mid.log.hash_bits)
    (stands_then old mid new emptied SameButOther (IsRenewed mid.log.hash_bits emptied) (IsRenewed mid.log.hash_bits emptied) (kv_ended c.complete.result) (λ x y same. same) (renewed_then mid.log.hash_bits emptied) first.changes (c.complete.ensures.changes emptied first.prepared))
